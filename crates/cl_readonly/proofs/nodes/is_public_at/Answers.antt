use Rattle.std.proofs.Common.{sym, ◌∙◌}
use Rattle.cl_readonly.proofs.Publics.{other_public}
use Rattle.cl_readonly.proofs.nodes.is_public_at.Goals as goal

pub returns : goal.returns
returns c known knows =
    other_public c.what_callers_know.ensures.known c.args.deployed.now c.args.own.now c.args.principal.now known c.args.name.now c.is_public_there.result c.are_known.ensures.indexed (sym c.is_same.ensures ∙ c.if-is_same.false) knows c.is_public_there.ensures
