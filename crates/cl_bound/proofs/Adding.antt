-- Sums that are added up one by one.
use Rattle.std.proofs.Common.{◌≡◌, ℕ, suc, ◌+◌, ◌<◌, ◌≤◌, List, length, map, drop, get_or, refl, ap, sym, subst, ◌∙◌, arith}
use Rattle.std.proofs.lemmas.List.{drop_all, length-map, take-map}
use Rattle.std.specs.Prelude.{◌-◌, take}
use Rattle.cl_shapes.specs.declared.name.CostName.TheVariants.{Control}
use Rattle.cl_rules.specs.Bills.{Charge, Both, cost_under}
use Rattle.cl_types.specs.Types.{PlainType, size_of}
use Rattle.cl_values.proofs.Lists.{rest_of}
use Rattle.cl_shapes.specs.declared.cost.Cost5.{Cost5}
use Rattle.cl_shapes.specs.declared.name.CostName.TheVariants.{Bind}
use Rattle.cl_shapes.specs.Costs.{plus, zero_cost}
use Rattle.cl_shapes.proofs.Sums.{plus_assoc, plus_zero, zero_plus}
use Rattle.cl_rules.specs.Context.{CostTable}
use Rattle.cl_rules.specs.ControlShapes.{binds}
use Rattle.cl_code.specs.Typed.{Typed, type_of}
use Rattle.cl_sums.specs.declared.sum.Sum.{Sum}
use Rattle.cl_sums.specs.Sums.{told, Increases}

-- one cost more, and another
pub both_more : (s t u : Sum) (x y : Cost5) → Increases s t x → Increases t u y → Increases s u (plus x y)
both_more s t u x y first second a is = second (plus a x) (first a is) ∙ ap told (plus_assoc a x y)

-- another sum more
pub sum_more : (s t u : Sum) (x : Cost5) → t ≡ told x → ((a b : Cost5) → s ≡ told a → t ≡ told b → u ≡ told (plus a b)) → Increases s u x
sum_more s t u x t_is add a is = add a x is t_is

-- from nothing
pub all_more : (u : Sum) (x : Cost5) → Increases (told zero_cost) u x → u ≡ told x
all_more u x more = more zero_cost refl ∙ ap told (zero_plus x)

-- a sum so far that gives the whole with what is left
abbrev pub Adds : Cost5 → Cost5 → Sum → Type 0
Adds whole rest sum = (a : Cost5) × (sum ≡ told a) × (plus a rest ≡ whole)

pub adds_more : (whole x rest : Cost5) (s u : Sum) → Adds whole (plus x rest) s → Increases s u x → Adds whole rest u
adds_more whole x rest s u adds more = (plus adds.0 x, more adds.0 adds.1, plus_assoc adds.0 x rest ∙ adds.2)

pub adds_end : (whole : Cost5) (s : Sum) → Adds whole zero_cost s → s ≡ told whole
adds_end whole s adds = adds.1 ∙ ap told (sym (plus_zero adds.0) ∙ adds.2)

-- ---- parts one by one

pub binds_turn : (table : CostTable) (whole : Cost5) (parts : List Typed) (i : ℕ) (p : Typed) (ty : PlainType) (s u : Sum) → i < length parts → get_or parts i p ≡ p → type_of p ≡ ty → Increases s u (cost_under table (Charge Bind (size_of ty))) → Adds whole (cost_under table (binds (map type_of (drop i parts)))) s → Adds whole (cost_under table (binds (map type_of (drop (i + 1) parts)))) u
binds_turn table whole parts i p ty s u lt at type more adds =
    adds_more whole (cost_under table (Charge Bind (size_of (type_of p)))) (cost_under table (binds (map type_of (drop (i + 1) parts)))) s u
    (subst (λ (qs : List Typed). Adds whole (cost_under table (binds (map type_of qs))) s) (rest_of parts i p lt at) adds)
    (subst (λ (v : PlainType). Increases s u (cost_under table (Charge Bind (size_of v)))) (sym type) more)

pub binds_end : (table : CostTable) (whole : Cost5) (parts : List Typed) (i : ℕ) (s : Sum) → length parts ≤ i → Adds whole (cost_under table (binds (map type_of (drop i parts)))) s → s ≡ told whole
binds_end table whole parts i s far adds = adds_end whole s (subst (λ (qs : List Typed). Adds whole (cost_under table (binds (map type_of qs))) s) (drop_all i parts far) adds)

-- a let with so many bindings
pub let_sum : (table : CostTable) (parts front : List Typed) (n bodies : ℕ) (s t u : Sum) → front ≡ take n parts → bodies ≡ length parts - n → Increases s t (cost_under table (Charge Control (bodies + 1))) → Increases t u (cost_under table (binds (map type_of front))) → Increases s u (cost_under table (Both (Charge Control (suc (length (map type_of parts) - n))) (binds (take n (map type_of parts)))))
let_sum table parts front n bodies s t u front_is bodies_is controls binding =
    let count : bodies + 1 ≡ suc (length (map type_of parts) - n) = omega (arith, bodies_is, length-map parts type_of) in
    both_more s t u (cost_under table (Charge Control (suc (length (map type_of parts) - n)))) (cost_under table (binds (take n (map type_of parts))))
    (subst (λ (m : ℕ). Increases s t (cost_under table (Charge Control m))) count controls)
    (subst (λ (ts : List PlainType). Increases t u (cost_under table (binds ts))) (ap (map type_of) front_is ∙ sym (take-map type_of n parts)) binding)

-- ---- parameters one by one

abbrev pub types_at : List (List ℕ × PlainType) → List PlainType
types_at ps = map (λ (p : List ℕ × PlainType). p.1) ps

pub params_turn : (table : CostTable) (whole : Cost5) (ps : List (List ℕ × PlainType)) (i n : ℕ) (p : List ℕ × PlainType) (s u : Sum) → i < length ps → get_or ps i p ≡ p → n ≡ size_of p.1 → Increases s u (cost_under table (Charge Bind n)) → Adds whole (cost_under table (binds (types_at (drop i ps)))) s → Adds whole (cost_under table (binds (types_at (drop (i + 1) ps)))) u
params_turn table whole ps i n p s u lt at size more adds =
    adds_more whole (cost_under table (Charge Bind (size_of p.1))) (cost_under table (binds (types_at (drop (i + 1) ps)))) s u
    (subst (λ (qs : List (List ℕ × PlainType)). Adds whole (cost_under table (binds (types_at qs))) s) (rest_of ps i p lt at) adds)
    (subst (λ (m : ℕ). Increases s u (cost_under table (Charge Bind m))) size more)

pub params_end : (table : CostTable) (whole : Cost5) (ps : List (List ℕ × PlainType)) (i : ℕ) (s : Sum) → length ps ≤ i → Adds whole (cost_under table (binds (types_at (drop i ps)))) s → s ≡ told whole
params_end table whole ps i s far adds = adds_end whole s (subst (λ (qs : List (List ℕ × PlainType)). Adds whole (cost_under table (binds (types_at qs))) s) (drop_all i ps far) adds)
