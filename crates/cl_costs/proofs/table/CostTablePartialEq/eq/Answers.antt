use Rattle.std.proofs.Common.{◌≡◌, Bool, sym, subst, ◌∙◌}
use Rattle.std.specs.Prelude.{nat_eq}
use Rattle.std.specs.Bool.{Decides}
use Rattle.std.specs.Cmp.Lexicographic.{pointwise}
use Rattle.cl_costs.specs.Numbers.{is_same}
use Rattle.cl_costs.proofs.SameNumbers.{same_decides}
use Rattle.cl_costs.proofs.table.CostTablePartialEq.eq.Goals as goal

pub returns-clause-decides : goal.returns-clause-decides
returns-clause-decides c =
    let same : c.all_are_same.result ≡ is_same c.args.self.now c.args.other.now =
    c.all_are_same.ensures ∙ (λ i. pointwise (pointwise nat_eq) (c.self.invariant i) (c.other.invariant i)) ∙ (λ i. is_same (c.self.view_is i) (c.other.view_is i)) in
    subst (λ (b : Bool). Decides b (c.args.self.now ≡ c.args.other.now)) (sym same) (same_decides c.args.self.now c.args.other.now)
