use Rattle.std.proofs.Common.{sym, ap, ◌∙◌}
use Rattle.cl_code.specs.declared.op.Op.{Op}
use Rattle.cl_contracts.specs.Seen.{deployed_seen}
use Rattle.cl_footprint.specs.NodeUses.{uses_of_node}
use Rattle.cl_footprint.specs.Gathering.{gathered, with_uses}
use Rattle.cl_footprint.proofs.walk.add_node.Goals as goal

pub returns-in_ok-add_own-in-Call : goal.returns-in_ok-add_own-in-Call
returns-in_ok-add_own-in-Call c =
    c.in_ok-add_own-in-Call.ensures (deployed_seen c.args.deployed.now) c.args.touched.now.keys c.args.written.now.keys
    ∙ ap (λ (o : Op). with_uses (deployed_seen c.args.deployed.now) c.args.own.now (uses_of_node c.args.own.now o) (gathered c.args.reached.now.keys c.args.touched.now.keys c.args.written.now.keys)) (sym c.in-Call.is)
