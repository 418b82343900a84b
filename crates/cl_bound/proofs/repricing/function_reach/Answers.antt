use Rattle.std.proofs.Common.{◌∙◌, ap, List, ℕ}
use Rattle.std.specs.Prelude.{option_map}
use Rattle.cl_rules.specs.Context.{signature_in}
use Rattle.cl_tx.specs.declared.outcome.Reach.{Reach}
use Rattle.cl_bound.proofs.Reaching.{reach_named}
use Rattle.cl_bound.proofs.repricing.function_reach.Goals as goal

pub returns-in-Some : goal.returns-in-Some
returns-in-Some c table D shows =
    ap (option_map {U = List ℕ × Reach} (λ (r : Reach). (c.args.name.now, r))) (c.in-Some.ensures table D.context.functions shows)
    ∙ reach_named table c.args.name.now (signature_in c.args.name.now D.context.functions)

pub returns-in-None : goal.returns-in-None
returns-in-None c table D shows =
    ap (option_map {U = List ℕ × Reach} (λ (r : Reach). (c.args.name.now, r))) (c.in-None.ensures table D.context.functions shows)
    ∙ reach_named table c.args.name.now (signature_in c.args.name.now D.context.functions)
