use Rattle.std.proofs.Common.{Some, None, ap, ◌∙◌}
use Rattle.cl_rules.specs.Context.{known_at, signature_in}
use Rattle.cl_tx.specs.Rebounds.{functions_of}
use Rattle.cl_bound.specs.Reaches.{over_of}
use Rattle.cl_bound.proofs.Reaching.{over_is, over_nowhere, functions_kept, is_shown}
use Rattle.cl_bound.proofs.known.KnownBounds.over.Goals as goal

pub returns-in-Some : goal.returns-in-Some
returns-in-Some c table contracts known are stand =
    let k = known_at c.args.contract.now known in
    let shows = functions_kept table k c.in-Some.bounds.now (is_shown table known c.args.self.now.contracts.entries c.args.contract.now (are known stand) (Some c.in-Some.bounds.now) c.in-Some.ensures.value) in
    c.over_of.ensures ∙ ap over_of (c.reach_at.ensures table (functions_of k) shows) ∙ over_is table (signature_in c.args.function.now (functions_of k))

pub returns-in-None : goal.returns-in-None
returns-in-None c table contracts known are stand =
    over_nowhere table c.args.function.now (known_at c.args.contract.now known) (is_shown table known c.args.self.now.contracts.entries c.args.contract.now (are known stand) None c.in-None.ensures.value)
