-- Values of types, and what may be thrown.
use Rattle.std.proofs.Common.{◌≡◌, ◌⊎◌, inl, inr, ℕ, false, List, [], ◌∷◌, ◌++◌, map, Option, Some, None, Result, Ok, Err, refl}
use Rattle.cl_types.specs.Types.{PlainType}
use Rattle.cl_types.specs.Lattice.{least_supertype}
use Rattle.cl_types.specs.declared.sized.TyRefusal.{TyRefusal}
use Rattle.cl_types.specs.declared.sized.TyRefusal.TheVariants.{Differ, TooLarge, TooDeep, EmptyTuple, KeyTwice}
use Rattle.cl_types.proofs.LatticeAnswers.{ok_least}
use Rattle.cl_values.specs.Tree.{Tree as Val}
use Rattle.cl_rules.specs.Faults.{type_rules}
use Rattle.cl_rules.specs.NativeTypes.{Ruled}
use Rattle.cl_rules.specs.Bills.{Bill}
use Rattle.cl_rules.specs.Verdicts.{Found, Thrown, and_throws, thrown_after, thrown_by, concluded}
use Rattle.cl_expression_sound.specs.Sound.{IsThrown}
use Rattle.cl_expression_sound.proofs.Rules.{AreFineTypes, fine_types, no_type_rules, or_left, or_right}
use Rattle.cl_values.specs.Typed.{IsOf}
use Rattle.cl_values.proofs.OfTypes.{raised_of}

-- ---- values of types

-- a least supertype has the values of both
pub of_left : (v : Val) (a b c : PlainType) → least_supertype a b ≡ Ok c → IsOf v a → IsOf v c
of_left v a b c h i = raised_of v c a (ok_least a b c h).left i

pub of_right : (v : Val) (a b c : PlainType) → least_supertype a b ≡ Ok c → IsOf v b → IsOf v c
of_right v a b c h i = raised_of v c b (ok_least a b c h).right i

-- ---- what may be thrown

-- a value that one of the parts may throw
abbrev pub ThrownIn : List Found → Val → Type 0
ThrownIn [] v = ⊥
ThrownIn (f ∷ fs) v = IsThrown f.thrown v ⊎ ThrownIn fs v

-- or the expression itself
abbrev pub MayThrow : List Found → Option PlainType → Val → Type 0
MayThrow fs own v = ThrownIn fs v ⊎ IsThrown own v

-- a value that one of these types has
abbrev AmongTypes : List (Option PlainType) → Val → Type 0
AmongTypes [] v = ⊥
AmongTypes (t ∷ ts) v = IsThrown t v ⊎ AmongTypes ts v

abbrev pub IsFineThrown : Thrown → Type 0
IsFineThrown t = (t.differ ≡ false) × (t.large ≡ false)

covered_by : (r : Result PlainType TyRefusal) (next : PlainType → Thrown) (v : Val) → IsFineThrown (and_throws r next) → ((c : PlainType) → r ≡ Ok c → IsFineThrown (next c) → IsThrown (next c).type v) → IsThrown (and_throws r next).type v
covered_by (Ok c) next v h k = k c refl h
covered_by (Err Differ) next v h k = let e = h.0 in absurd cc
covered_by (Err TooLarge) next v h k = let e = h.1 in absurd cc
covered_by (Err TooDeep) next v h k = let e = h.1 in absurd cc
covered_by (Err EmptyTuple) next v h k = let e = h.1 in absurd cc
covered_by (Err KeyTwice) next v h k = let e = h.1 in absurd cc

-- what one of the types has, the type of all has
pub covered : (t : Option PlainType) (ts : List (Option PlainType)) (v : Val) → IsFineThrown (thrown_after t ts) → (IsThrown t v ⊎ AmongTypes ts v) → IsThrown (thrown_after t ts).type v
covered t [] v h (inl k) = k
covered t [] v h (inr k) = absurd k
covered t (None ∷ ts) v h (inl k) = covered t ts v h (inl k)
covered t (None ∷ ts) v h (inr (inl k)) = absurd k
covered t (None ∷ ts) v h (inr (inr k)) = covered t ts v h (inr k)
covered None (Some u ∷ ts) v h (inl k) = absurd k
covered None (Some u ∷ ts) v h (inr (inl k)) = covered (Some u) ts v h (inl k)
covered None (Some u ∷ ts) v h (inr (inr k)) = covered (Some u) ts v h (inr k)
covered (Some t) (Some u ∷ ts) v h (inl k) =
    covered_by (least_supertype t u) (λ c. thrown_after (Some c) ts) v h (λ c e g. covered (Some c) ts v g (inl (of_left v t u c e k)))
covered (Some t) (Some u ∷ ts) v h (inr (inl k)) =
    covered_by (least_supertype t u) (λ c. thrown_after (Some c) ts) v h (λ c e g. covered (Some c) ts v g (inl (of_right v t u c e k)))
covered (Some t) (Some u ∷ ts) v h (inr (inr k)) =
    covered_by (least_supertype t u) (λ c. thrown_after (Some c) ts) v h (λ c e g. covered (Some c) ts v g (inr k))

among : (fs : List Found) (own : Option PlainType) (v : Val) → MayThrow fs own v → AmongTypes (map (λ (f : Found). f.thrown) fs ++ own ∷ []) v
among [] own v (inl k) = absurd k
among [] own v (inr k) = inl k
among (f ∷ fs) own v (inl (inl k)) = inl k
among (f ∷ fs) own v (inl (inr k)) = inr (among fs own v (inl k))
among (f ∷ fs) own v (inr k) = inr (among fs own v (inr k))

-- ---- verdicts

pub thrown_covered : (r : Ruled) (n : ℕ) (b : Bill) (fs : List Found) → type_rules (concluded r n b fs).faults ≡ [] → (v : Val) → MayThrow fs r.throws v → IsThrown (concluded r n b fs).found.thrown v
thrown_covered r n b fs h v k =
    let e = fine_types (concluded r n b fs).faults h in
    covered None (map (λ (f : Found). f.thrown) fs ++ r.throws ∷ []) v
    (or_right r.faults.thrown_differ (thrown_by fs r.throws).differ e.thrown_differ, or_right r.faults.too_large (thrown_by fs r.throws).large e.too_large)
    (inr (among fs r.throws v k))

-- and the ruling breaks nothing by itself
pub ruling_fine : (r : Ruled) (n : ℕ) (b : Bill) (fs : List Found) → type_rules (concluded r n b fs).faults ≡ [] → AreFineTypes r.faults
ruling_fine r n b fs h =
    let e = fine_types (concluded r n b fs).faults h in
    record {
      argument_kind = e.argument_kind;
      not_same = e.not_same;
      too_large = or_left r.faults.too_large (thrown_by fs r.throws).large e.too_large;
      too_deep = e.too_deep;
      undetermined = e.undetermined;
      thrown_differ = or_left r.faults.thrown_differ (thrown_by fs r.throws).differ e.thrown_differ;
      unused_response = e.unused_response;
      no_such_key = e.no_such_key;
    }

pub ruling_unbroken : (r : Ruled) (n : ℕ) (b : Bill) (fs : List Found) → type_rules (concluded r n b fs).faults ≡ [] → type_rules r.faults ≡ []
ruling_unbroken r n b fs h = no_type_rules r.faults (ruling_fine r n b fs h)
