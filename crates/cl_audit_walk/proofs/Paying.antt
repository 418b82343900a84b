-- Charges that are paid.
use Rattle.std.proofs.Common.{◌≡◌, ℕ, Option, Some, None, Ok, Err, sym, ap, ◌∙◌}
use Rattle.cl_shapes.specs.declared.cost.Cost5.{Cost5}
use Rattle.cl_shapes.specs.declared.function.CostFn.{CostFn}
use Rattle.cl_shapes.specs.declared.limit.Over.{Over}
use Rattle.cl_shapes.specs.declared.name.CostName.{CostName}
use Rattle.cl_shapes.specs.Functions.{cost_at}
use Rattle.cl_shapes.specs.Limits.{Purse, spend}
use Rattle.cl_values.specs.Tree.{Tree as Val}
use Rattle.cl_meaning.specs.Answers.{Answer}
use Rattle.cl_meaning.specs.Limits.{Costs, Charge, cost_of}
use Rattle.cl_walks.specs.Walked.{Rules, Book, Passed, walked}
use Rattle.cl_walks.proofs.WalkLaws.{charge_within, charge_over}
use Rattle.cl_audit_steps.specs.Steps.{behind}

-- the cost of a charge, as the code finds it
pub cost_found : (costs : Costs) (d : Charge) (cost : Cost5) (f : CostFn) (name : CostName) (n : ℕ) → cost ≡ cost_at f n → f ≡ costs name → name ≡ d.0 → n ≡ d.1 → cost ≡ cost_of costs d.0 d.1
cost_found costs d cost f name n h is named at = h ∙ λ i. cost_at ((is ∙ ap costs named) i) (at i)

module _ {K : Type 0} (R : Rules K) (b : Book K) where
  pub within : (c : Option Charge) (d : Charge) (cost : Cost5) (q : Purse) → c ≡ Some d → cost ≡ cost_of R.costs d.0 d.1 → spend b.purse cost ≡ Ok q → (a : Answer Val) → walked R b (behind c a) ≡ walked R (record b { purse = q }) a
  unfolding behind
  within c d cost q is same paid a =
      ap (λ e. walked R b (behind e a)) is ∙ charge_within R b q d.0 d.1 a (sym (ap (spend b.purse) same) ∙ paid)

  pub over : (c : Option Charge) (d : Charge) (cost : Cost5) (o : Over) → c ≡ Some d → cost ≡ cost_of R.costs d.0 d.1 → spend b.purse cost ≡ Err o → (a : Answer Val) → walked R b (behind c a) ≡ Passed o b
  unfolding behind
  over c d cost o is same paid a =
      ap (λ e. walked R b (behind e a)) is ∙ charge_over R b o d.0 d.1 a (sym (ap (spend b.purse) same) ∙ paid)

  pub free : (c : Option Charge) → c ≡ None → (a : Answer Val) → walked R b (behind c a) ≡ walked R b a
  unfolding behind
  free c is a = ap (λ e. walked R b (behind e a)) is
