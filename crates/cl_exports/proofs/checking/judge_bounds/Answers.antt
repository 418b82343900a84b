use Rattle.cl_exports.proofs.checking.judge_bounds.Goals as goal

pub returns-in-Ok : goal.returns-in-Ok
returns-in-Ok c = record {
  within = λ known defined knows stands. c.in-Ok.ensures.bounded c.args.deployed.now known defined c.in_ok-known.ensures knows stands;
  told = λ known defined knows stands. c.in-Ok.ensures.told c.args.deployed.now known defined c.in_ok-known.ensures knows stands;
}
