-- Rows of what is given by name to be applied.
use Rattle.std.proofs.Common.{◌≡◌, ℕ, Bool, true, false, List, [], ◌∷◌, map, Some, Result, Ok, Err, refl, sym, ap, subst, ◌∙◌}
use Rattle.cl_types.specs.Types.{PlainType}
use Rattle.cl_types.specs.Lattice.{least_supertype}
use Rattle.cl_types.specs.declared.fault.Fault.{Fault}
use Rattle.cl_types.specs.declared.fault.Fault.TheVariants.{Refused, NoMemory}
use Rattle.cl_sexpr.specs.declared.rule.Rule.{Rule}
use Rattle.cl_forms.specs.declared.head.Head.{Head}
use Rattle.cl_rules.specs.Faults.{type_rules}
use Rattle.cl_rules.specs.NativeTypes.{Ruled, of_kind, and_lub, and_ruled, or_broken, native_type}
use Rattle.cl_rules.specs.ControlShapes.{truth_row}
use Rattle.cl_rules.specs.CallShapes.{Usable, AFunction, ANative, all_admit, use_row, by_name_row, fold_native}
use Rattle.cl_typing.specs.declared.uses.Usable.{Usable as CodeUsable}
use Rattle.cl_typing.specs.declared.uses.Usable.TheVariants.{Function, OnValues, And, Or}
use Rattle.cl_typing.specs.Verdicts.{Rules, first_rule}
use Rattle.cl_typing.specs.Uses.{IsUsed, RulesUse}

-- ---- what follows of something that is ruled

pub ruled_then : (R : Ruled) (make : PlainType → Ruled) (t : PlainType) (r : Result PlainType (Fault Rule)) → Rules R (Ok t) → Rules (make t) r → Rules (and_ruled R make) r
ruled_then R make t r h k =
    subst (λ (S : Ruled). Rules S r) (sym (ap (λ (rs : List Rule). or_broken rs R (make R.type)) h.0 ∙ ap make h.1)) k

broken_by : (rs : List Rule) (R next : Ruled) (q : Rule) → first_rule rs ≡ Some q → or_broken rs R next ≡ R
broken_by [] R next q h = absurd cc
broken_by (r ∷ rs) R next q h = refl

pub ruled_not : (R : Ruled) (make : PlainType → Ruled) (f : Fault Rule) → Rules R (Err f) → Rules (and_ruled R make) (Err f)
ruled_not R make (Refused q) h = subst (λ (S : Ruled). Rules S (Err (Refused q))) (sym (broken_by (type_rules R.faults) R (make R.type) q h.0)) h
ruled_not R make NoMemory h = tt

-- ---- what is applied

-- what the code's own of it rules
abbrev pub row_used : CodeUsable → List PlainType → Ruled
row_used (Function params returns height) ts = of_kind (all_admit (map (λ (p : List ℕ × PlainType). p.1) params.now) ts) returns.now
row_used (OnValues n) ts = native_type n ts
row_used And ts = truth_row ts
row_used Or ts = truth_row ts

abbrev pub native_used : CodeUsable → Bool
native_used (Function params returns height) = false
native_used used = true

pub used_rules : (ts : List PlainType) (used : CodeUsable) (u : Usable) → IsUsed used u → use_row u ts ≡ row_used used ts
used_rules ts (Function params returns height) (AFunction f) is =
    ap (λ (ps : List (List ℕ × PlainType)). of_kind (all_admit (map (λ (p : List ℕ × PlainType). p.1) ps) ts) f.returns) is.0
    ∙ ap (λ (t : PlainType). of_kind (all_admit (map (λ (p : List ℕ × PlainType). p.1) params.now) ts) t) is.1
used_rules ts (Function params returns height) (ANative row) is = absurd is
used_rules ts (OnValues n) (AFunction f) is = absurd is
used_rules ts (OnValues n) (ANative row) is = ap (λ (h : Head). by_name_row h ts) is
used_rules ts And (AFunction f) is = absurd is
used_rules ts And (ANative row) is = ap (λ (h : Head). by_name_row h ts) is
used_rules ts Or (AFunction f) is = absurd is
used_rules ts Or (ANative row) is = ap (λ (h : Head). by_name_row h ts) is

pub rules_used : (ts : List PlainType) (used : CodeUsable) (r : Result PlainType (Fault Rule)) → Rules (row_used used ts) r → RulesUse (λ u. use_row u ts) used r
rules_used ts used r h u is = subst (λ (S : Ruled). Rules S r) (sym (used_rules ts used u is)) h

-- ---- a fold by what is applied

pub fold_then : (used : CodeUsable) (x i t : PlainType) (r : Result PlainType (Fault Rule)) → RulesUse (λ u. use_row u (x ∷ i ∷ [])) used (Ok t) → RulesUse (λ u. and_lub (least_supertype i t) (λ c. record (use_row u (x ∷ c ∷ [])) { type = c })) used r → RulesUse (λ u. fold_native u x i) used r
fold_then used x i t r h k u is = ruled_then (use_row u (x ∷ i ∷ [])) (λ (s : PlainType). and_lub (least_supertype i s) (λ c. record (use_row u (x ∷ c ∷ [])) { type = c })) t r (h u is) (k u is)
