use Rattle.cl_judging.proofs.Atoms.{node_fine}
use Rattle.cl_judging.proofs.leaves.typed.Goals as goal

pub returns-clause-found : goal.returns-clause-found
returns-clause-found c = node_fine c.args.ty c.args.span c.node.result c.new-codes.result.items _ c.args.op c.requires.goes c.new-codes.ensures.items c.node.ensures.facts c.node.ensures.code
