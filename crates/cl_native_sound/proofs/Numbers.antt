-- Numbers of one kind, and what operations on them come to.
use Rattle.std.proofs.Common.{◌≡◌, ℕ, suc, Bool, true, false, List, [], ◌∷◌, length, Result, Ok, Err, refl, subst, ◌∙◌, arith}
use Rattle.std.specs.Prelude.{ℤ}
use Rattle.cl_types.specs.Types.{PlainType, IntType, UintType, BoolType}
use Rattle.cl_arith.specs.declared.Num.{Num}
use Rattle.cl_arith.specs.declared.Num.TheVariants.{Int, Uint}
use Rattle.cl_arith.specs.declared.ArithRefusal.{ArithRefusal}
use Rattle.cl_arith.specs.Numbers.{Kind, IntKind, UintKind, kind_of, whole}
use Rattle.cl_arith.specs.Ranges.{IsNumber, IsInRange}
use Rattle.cl_arith.specs.Operations.{Operation, difference, tested, computed}
use Rattle.cl_arith.proofs.Ranges.{its_kind, tested_fits}
use Rattle.cl_values.specs.Tree.{BoolV}
use Rattle.cl_values.specs.Computed.{Computed}
use Rattle.cl_values.specs.Arithmetic.{value_of, number_or_abort, work_on, from_left, subtracted, of_two, of_one, zero_of, comparison}
use Rattle.cl_values.proofs.OfTypes.{IsIn}
use Rattle.cl_native_sound.proofs.Coming.{ComesTo}

-- ---- numbers of a kind, within its range

abbrev pub AreNumbers : Kind → List Num → Type 0
AreNumbers kind [] = Unit {0}
AreNumbers kind (n ∷ ns) = IsNumber kind n × AreNumbers kind ns

abbrev pub number_type : Kind → PlainType
number_type IntKind = IntType
number_type UintKind = UintType

pub number_in : (kind : Kind) (n : Num) → IsNumber kind n → IsIn (value_of n) (number_type kind)
number_in IntKind (Int z) h = record { ranges = h; keys = refl; texts = refl; typed = refl }
number_in UintKind (Uint n) h = record { ranges = h; keys = refl; texts = refl; typed = refl }
number_in IntKind (Uint n) h = absurd h
number_in UintKind (Int z) h = absurd h

computed_fits : (operation : Operation) (kind : Kind) (a b : Num) → IsNumber kind a → IsInRange kind (computed operation a b)
computed_fits operation kind a b h = subst (λ k. IsInRange k (computed operation a b)) (its_kind kind a h) (tested_fits (kind_of a) (operation (whole a) (whole b)))

work_fits : (operation : Operation) (kind : Kind) (r : Result Num ArithRefusal) (ns : List Num) → IsInRange kind r → IsInRange kind (work_on operation r ns)
work_fits operation kind (Err why) ns h = tt
work_fits operation kind (Ok a) [] h = h
work_fits operation kind (Ok a) (b ∷ ns) h = work_fits operation kind (computed operation a b) ns (computed_fits operation kind a b h)

-- ---- what they come to

pub comes_to_number : (kind : Kind) (panics : Bool) (r : Result Num ArithRefusal) → IsInRange kind r → ComesTo true panics (number_type kind) (number_or_abort r)
comes_to_number kind panics (Ok n) h = number_in kind n h
comes_to_number kind panics (Err why) h = refl

-- what a native on numbers of one kind comes to
abbrev pub OnNumbers : Bool → (Kind → PlainType) → ℕ → (List Num → Computed) → Type 0
OnNumbers fails type count f = (kind : Kind) (a : Num) (ns : List Num) → IsNumber kind a → AreNumbers kind ns → suc (length ns) ≡ count → ComesTo fails false (type kind) (f (a ∷ ns))

pub left_in : (operation : Operation) (count : ℕ) → OnNumbers true number_type count (from_left operation)
left_in operation count kind a ns h hs e = comes_to_number kind false (work_on operation (Ok a) ns) (work_fits operation kind (Ok a) ns h)

pub subtracted_in : (count : ℕ) → OnNumbers true number_type count subtracted
subtracted_in count kind a [] h hs e = comes_to_number kind false (computed difference (zero_of (kind_of a)) a) (subst (λ k. IsInRange k (computed difference (zero_of (kind_of a)) a)) (zero_kind (kind_of a) ∙ its_kind kind a h) (tested_fits (kind_of (zero_of (kind_of a))) (difference (whole (zero_of (kind_of a))) (whole a))))
  where
    zero_kind : (k : Kind) → kind_of (zero_of k) ≡ k
    zero_kind IntKind = refl
    zero_kind UintKind = refl
subtracted_in count kind a (b ∷ ns) h hs e = left_in difference count kind a (b ∷ ns) h hs e

pub two_in : (fails : Bool) (type : Kind → PlainType) (f : Num → Num → Computed) → ((kind : Kind) (a b : Num) → IsNumber kind a → IsNumber kind b → ComesTo fails false (type kind) (f a b)) → OnNumbers fails type 2 (of_two f)
two_in fails type f p kind a [] h hs e = absurd (omega arith)
two_in fails type f p kind a (b ∷ []) h hs e = p kind a b h hs.0
two_in fails type f p kind a (b ∷ c ∷ ns) h hs e = absurd (omega arith)

pub one_in : (fails : Bool) (type : Kind → PlainType) (f : Num → Computed) → ((kind : Kind) (a : Num) → IsNumber kind a → ComesTo fails false (type kind) (f a)) → OnNumbers fails type 1 (of_one f)
one_in fails type f p kind a [] h hs e = p kind a h
one_in fails type f p kind a (b ∷ ns) h hs e = absurd (omega arith)

pub pair_in : (operation : Operation) (kind : Kind) (a b : Num) → IsNumber kind a → IsNumber kind b → ComesTo true false (number_type kind) (number_or_abort (computed operation a b))
pair_in operation kind a b h k = comes_to_number kind false (computed operation a b) (computed_fits operation kind a b h)

pub alone_in : (operation : ℤ → Result ℤ ArithRefusal) (kind : Kind) (a : Num) → IsNumber kind a → ComesTo true false (number_type kind) (number_or_abort (tested (kind_of a) (operation (whole a))))
alone_in operation kind a h = comes_to_number kind false (tested (kind_of a) (operation (whole a))) (subst (λ k. IsInRange k (tested (kind_of a) (operation (whole a)))) (its_kind kind a h) (tested_fits (kind_of a) (operation (whole a))))

pub bool_in : (b : Bool) → IsIn (BoolV b) BoolType
bool_in b = record { ranges = tt; keys = refl; texts = refl; typed = refl }

pub compared_in : (test : ℤ → ℤ → Bool) (kind : Kind) (a b : Num) → IsNumber kind a → IsNumber kind b → ComesTo false false BoolType (comparison test a b)
compared_in test kind a b h k = bool_in (test (whole a) (whole b))
