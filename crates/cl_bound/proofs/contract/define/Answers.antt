use Rattle.std.proofs.Common.{ℕ, List, refl, subst, ◌≡◌}
use Rattle.std.proofs.lemmas.Result.{on_ok_weaker}
use Rattle.cl_types.specs.Types.{PlainType}
use Rattle.cl_costs.specs.Tables.{function_of}
use Rattle.cl_rules.specs.Bills.{cost_under}
use Rattle.cl_rules.specs.FormRules.{application}
use Rattle.cl_contracts.specs.Standing.{Stands}
use Rattle.cl_sums.specs.Sums.{told}
use Rattle.cl_bound.proofs.Definitions.{defined_shows}
use Rattle.cl_bound.proofs.contract.define.Goals as goal

pub returns-clause-shown : goal.returns-clause-shown
returns-clause-shown c =
    on_ok_weaker c.keep.result (λ kept D fs shows stands.
    defined_shows c.args.prices.now (record c.args.prices.now { functions = c.keep.new.functions }) D fs c.args.function.now (record { access = c.args.function.now.access; bound = c.application-bound.result })
    kept refl
    (λ g. subst (λ (ps : List (List ℕ × PlainType)). Stands D.context ps c.args.function.now.body g → c.application-bound.result ≡ told (cost_under (function_of c.args.prices.now.costs) (application ps g))) c.deref.ensures.value (λ s. c.application-bound.ensures D.context g shows s))
    shows stands) c.keep.ensures
