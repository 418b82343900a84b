-- What is given by name, and so many applications of it.
use Rattle.std.proofs.Common.{◌≡◌, ℕ, List, Option, Some, None, refl, ap, ◌∙◌}
use Rattle.cl_types.specs.Types.{PlainType}
use Rattle.cl_shapes.specs.declared.cost.Cost5.{Cost5}
use Rattle.cl_shapes.specs.declared.name.CostName.{CostName}
use Rattle.cl_shapes.specs.declared.name.CostName.TheVariants.{Iterate}
use Rattle.cl_shapes.specs.Costs.{plus, times}
use Rattle.cl_forms.specs.Heads.{Row}
use Rattle.cl_rules.specs.Bills.{Bill, Charge, cost_under}
use Rattle.cl_rules.specs.Context.{CostTable, Signature}
use Rattle.cl_rules.specs.Verdicts.{number_at, sizes_of}
use Rattle.cl_rules.specs.CallShapes.{Usable, ANative, usable_function}
use Rattle.cl_sums.specs.declared.sum.Sum.{Sum}
use Rattle.cl_sums.specs.Sums.{told}
use Rattle.cl_bound.specs.Own.{applied, applied_to, iterated}

function_applied : (f : Option Signature) (ts : List PlainType) → applied f ≡ applied_to (usable_function f) ts
function_applied None ts = refl
function_applied (Some g) ts = refl

pub native_sum : (row : Row) (c : CostName) (n : ℕ) (ts : List PlainType) (t : CostTable) (s : Sum) → c ≡ row.cost → n ≡ number_at c ts → s ≡ told (cost_under t (Charge c n)) → s ≡ told (cost_under t (applied_to (Some (ANative row)) ts))
native_sum row c n ts t s cost count is =
    is ∙ ap (λ (m : ℕ). told (cost_under t (Charge c m))) count ∙ ap (λ (d : CostName). told (cost_under t (Charge d (number_at d ts)))) cost

pub function_sum : (f : Option Signature) (ts : List PlainType) (t : CostTable) (s : Sum) → s ≡ told (cost_under t (applied f)) → s ≡ told (cost_under t (applied_to (usable_function f) ts))
function_sum f ts t s is = is ∙ ap (λ (b : Bill). told (cost_under t b)) (function_applied f ts)

-- the iteration and so many applications
pub iterated_sum : (u : Option Usable) (arguments values : List PlainType) (t : CostTable) (a n : ℕ) (s one all sum : Sum) → a ≡ sizes_of arguments → s ≡ told (cost_under t (Charge Iterate a)) → one ≡ told (cost_under t (applied_to u values)) → ((x : Cost5) → one ≡ told x → all ≡ told (times x n)) → ((x y : Cost5) → s ≡ told x → all ≡ told y → sum ≡ told (plus x y)) → sum ≡ told (cost_under t (iterated u arguments n values))
iterated_sum u arguments values t a n s one all sum sizes s_is one_is all_is add = add (cost_under t (Charge Iterate (sizes_of arguments))) (times (cost_under t (applied_to u values)) n) (s_is ∙ ap (λ (m : ℕ). told (cost_under t (Charge Iterate m))) sizes) (all_is (cost_under t (applied_to u values)) one_is)
