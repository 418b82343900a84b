use Rattle.std.proofs.Common.{sym, ◌∙◌}
use Rattle.cl_bound.proofs.Knowing.{kept_new, kept_old}
use Rattle.cl_bound.proofs.known.put.Goals as goal

pub returns-in-Ok : goal.returns-in-Ok
returns-in-Ok c = kept_new c.args.principal c.args.contract c.args.contracts.now.entries c.insert.new.self.entries (sym c.contains_key.ensures ∙ c.if-not-contains_key.true) (c.in-Ok.ensures.updates.0)

pub returns-else-not-contains_key : goal.returns-else-not-contains_key
returns-else-not-contains_key c = kept_old c.args.principal c.args.contract c.args.contracts.now.entries (sym c.contains_key.ensures ∙ c.if-not-contains_key.false)
