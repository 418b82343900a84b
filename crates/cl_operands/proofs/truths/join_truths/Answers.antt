use Rattle.std.proofs.Common.{◌<◌, ◌≤◌, length, arith}
use Rattle.cl_meaning.specs.Calls.{truths}
use Rattle.cl_operands.specs.Truths.{join}
use Rattle.cl_operands.proofs.SieveLaws.{joined_turn, joined_stops, join_starts, joined_ends}
use Rattle.cl_operands.proofs.truths.join_truths.Goals as goal

pub returns-in-None : goal.returns-in-None
returns-in-None c =
    let here : c.loop-value.value-index < length c.args.values.now = omega arith in
    joined_stops _ _ _ _ _ _ _ here c.value-item.is c.in-None.is c.truth_of.ensures c.loop-value.invariant

pub loop-value-init : goal.loop-value-init
loop-value-init c = join_starts c.args.all (truths (join c.args.all) c.args.all c.args.values.now)

pub loop-value-preserved : goal.loop-value-preserved
loop-value-preserved c =
    let here : c.loop-value.value-index < length c.args.values.now = omega arith in
    joined_turn _ _ _ _ _ _ _ _ _ here c.value-item.is c.in-Some.is c.truth_of.ensures c.join-so_far.ensures c.loop-value.invariant

pub returns : goal.returns
returns c =
    let past : length c.args.values.now ≤ c.loop-value.value-index = omega arith in
    joined_ends _ _ _ _ _ past c.loop-value.invariant
