-- Arguments of stated types, and a name that stands first.
use Rattle.std.proofs.Common.{◌≡◌, ℕ, ◌<◌, ◌^◌, Bool, true, false, List, [], ◌∷◌, length, Option, refl, subst, arith}
use Rattle.std.specs.Prelude.{not}
use Rattle.cl_types.specs.Types.{PlainType}
use Rattle.cl_c32.specs.declared.principal.Principal.{Principal}
use Rattle.cl_sexpr.specs.declared.sexpr.Span.{Span}
use Rattle.cl_sexpr.specs.Tree.{Tree, LeafAt, Named}
use Rattle.cl_values.specs.Tree.{Tree as Val, UintV, PrincipalV}
use Rattle.cl_values.specs.Valid.{IsVal, IsPrincipal}
use Rattle.cl_events.specs.State.{State}
use Rattle.cl_meaning.specs.Answers.{Answer}
use Rattle.cl_rules.specs.NativeTypes.{Ruled}
use Rattle.cl_rules.specs.Shapes.{Shape, Wanted, AUint, APrincipal, Admitted, is_wanted, are_wanted, stated, first_named, is_no_name}
use Rattle.cl_expression_sound.specs.Sound.{World}
use Rattle.cl_expression_sound.proofs.Rules.{AreFineTypes, IsFineShape, fine_shape, not_false, or_left}
use Rattle.cl_expression_sound.proofs.Values.{number_of, principal_of}
use Rattle.cl_expression_sound.proofs.Strict.{named_first}
use Rattle.cl_expression_sound.proofs.Stands.{Stands, IsSoundShape}
use Rattle.cl_values.specs.Typed.{IsOf, AreOf}
use Rattle.cl_values.proofs.OfTypes.{raised_of}

pub record IsUint (v : Val) : Type 0 where
  pub number : ℕ
  pub is : v ≡ UintV number
  pub low : number < 2 ^ 128

pub record IsWho (v : Val) : Type 0 where
  pub who : Principal
  pub is : v ≡ PrincipalV who
  pub valid : IsPrincipal who

abbrev pub IsWantedValue : Wanted → Val → Type 0
IsWantedValue AUint v = IsUint v
IsWantedValue APrincipal v = IsWho v
IsWantedValue (Admitted t) v = IsOf v t

abbrev pub AreWantedValues : List Wanted → List Val → Type 0
AreWantedValues [] [] = Unit {0}
AreWantedValues (w ∷ ws) (v ∷ vs) = IsWantedValue w v × AreWantedValues ws vs
AreWantedValues ws vs = ⊥

wanted_value : (w : Wanted) (t : PlainType) (v : Val) → is_wanted w t ≡ true → IsOf v t → IsWantedValue w v
wanted_value AUint t v h i =
    let n = number_of v t h i in
    record { number = n.0; is = n.1; low = (subst IsVal n.1 i.valid).ranges }
wanted_value APrincipal t v h i =
    let p = principal_of v t h i in
    record { who = p.0; is = p.1; valid = (subst IsVal p.1 i.valid).ranges }
wanted_value (Admitted u) t v h i = raised_of v u t h i

pub wanted_values : (ws : List Wanted) (ts : List PlainType) (vs : List Val) → are_wanted ws ts ≡ true → AreOf vs ts → AreWantedValues ws vs
wanted_values [] [] [] h i = tt
wanted_values [] [] (v ∷ vs) h i = absurd i
wanted_values [] (t ∷ ts) vs h i = absurd cc
wanted_values (w ∷ ws) [] vs h i = absurd cc
wanted_values (w ∷ ws) (t ∷ ts) [] h i = absurd i
wanted_values (w ∷ ws) (t ∷ ts) (v ∷ vs) h i = by (is_wanted w t) refl h (λ k. wanted_values ws ts vs k i.1)
  where
    by : (b : Bool) → is_wanted w t ≡ b → elim b [ true ↦ are_wanted ws ts | false ↦ false ] ≡ true → (are_wanted ws ts ≡ true → AreWantedValues ws vs) → IsWantedValue w v × AreWantedValues ws vs
    by true e k more = (wanted_value w t v e i.0, more k)
    by false e k more = absurd cc

pub stated_values : (ws : List Wanted) (answer : Ruled) (ts : List PlainType) (vs : List Val) → AreFineTypes (stated ws answer ts).faults → AreOf vs ts → AreWantedValues ws vs
stated_values ws answer ts vs h i = wanted_values ws ts vs (not_false (are_wanted ws ts) (or_left (not (are_wanted ws ts)) answer.faults.argument_kind h.argument_kind)) i

-- ---- a name that stands first

module _ (K : World) (N : Stands K) where
  pub by_named : {A : Type 0} (sh : List Tree → Shape) (form : List Tree → State → Answer Val) (find : List ℕ → Option A) → ((es : List Tree) → IsFineShape (sh es).faults → 0 < length es) → ((a : Tree) (es : List Tree) → IsFineShape (sh (a ∷ es)).faults → is_no_name (first_named find (a ∷ es)) ≡ false) → ((x : List ℕ) (at : Span) (es : List Tree) → IsSoundShape K N (sh (LeafAt (Named x) at ∷ es)) (form (LeafAt (Named x) at ∷ es))) → (es : List Tree) → IsSoundShape K N (sh es) (form es)
  by_named sh form find some name k [] = record { each = λ fs shape follows types low s n. let h = some [] (fine_shape (sh []).faults shape) in absurd (omega (arith, h)) }
  by_named sh form find some name k (a ∷ es) = record {
    each = λ fs shape.
        (named_first (λ a. IsSoundShape K N (sh (a ∷ es)) (form (a ∷ es))) find es (λ x at. k x at es) a (name a es (fine_shape (sh (a ∷ es)).faults shape))).each fs shape;
  }
