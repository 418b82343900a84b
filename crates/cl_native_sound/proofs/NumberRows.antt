-- The rows of numbers: what natives on one or more numbers of one kind come to.
use Rattle.std.proofs.Common.{◌≡◌, ℕ, suc, ◌<◌, ◌^◌, Bool, true, false, inl, inr, List, [], ◌∷◌, length, Option, Some, refl, sym, ap, subst, arith}
use Rattle.std.specs.Prelude.{ℤ, FitsSigned}
use Rattle.std.specs.Int.{w128}
use Rattle.std.specs.List.{list_all}
use Rattle.std.proofs.lemmas.Bool.{and_parts, or_cases}
use Rattle.cl_types.specs.Types.{PlainType, IntType, UintType, BoolType}
use Rattle.cl_types.specs.TypeKinds.{is_int, is_uint, are_numbers}
use Rattle.cl_types.proofs.OfKind.{int_type, uint_type}
use Rattle.cl_arith.specs.declared.Num.{Num}
use Rattle.cl_arith.specs.declared.Num.TheVariants.{Int, Uint}
use Rattle.cl_arith.specs.Numbers.{Kind, IntKind, UintKind}
use Rattle.cl_arith.specs.Operations.{exclusive_or}
use Rattle.cl_arith.specs.Ranges.{IsNumber}
use Rattle.cl_arith.proofs.Ranges.{xor_fits}
use Rattle.cl_values.specs.Tree.{Tree, IntV, UintV}
use Rattle.cl_values.specs.Computed.{Computed}
use Rattle.cl_values.specs.Arithmetic.{and_number, of_kind, on_numbers, numeric, xor_value}
use Rattle.cl_values.proofs.ByType.{int_value, uint_value}
use Rattle.cl_values.proofs.OfTypes.{IsIn, AreIn}
use Rattle.cl_rules.specs.NativeTypes.{first_of, number_row, compare_row}
use Rattle.cl_native_sound.proofs.Coming.{ComesTo}
use Rattle.cl_native_sound.proofs.Rulings.{IsClean, kind_holds}
use Rattle.cl_native_sound.proofs.Numbers.{AreNumbers, number_type, number_in, OnNumbers}

-- values as so many numbers of a kind
record Found (kind : Kind) (o : Option (List Num)) (count : ℕ) : Type 0 where
  numbers : List Num
  are : o ≡ Some numbers
  fit : AreNumbers kind numbers
  many : length numbers ≡ count

ints_found : (vs : List Tree) (ts : List PlainType) → AreIn vs ts → list_all is_int ts ≡ true → Found IntKind (of_kind IntKind vs) (length ts)
ints_found [] [] h k = record { numbers = []; are = refl; fit = tt; many = refl }
ints_found [] (t ∷ ts) h k = absurd h
ints_found (v ∷ vs) [] h k = absurd h
ints_found (v ∷ vs) (t ∷ ts) h k =
    let both = and_parts (is_int t) (list_all is_int ts) k in
    int_type (λ t. IsIn v t → Found IntKind (of_kind IntKind (v ∷ vs)) (suc (length ts))) t both.0
    (λ i. int_value (λ v. IsIn v IntType → Found IntKind (of_kind IntKind (v ∷ vs)) (suc (length ts))) v i.typed (λ z j. one_more z j.ranges (ints_found vs ts h.1 both.1)) i) h.0
  where
    one_more : (z : ℤ) → FitsSigned w128 z → Found IntKind (of_kind IntKind vs) (length ts) → Found IntKind (of_kind IntKind (IntV z ∷ vs)) (suc (length ts))
    one_more z f rest = record { numbers = Int z ∷ rest.numbers; are = ap (and_number (Int z)) rest.are; fit = (f, rest.fit); many = ap suc rest.many }

uints_found : (vs : List Tree) (ts : List PlainType) → AreIn vs ts → list_all is_uint ts ≡ true → Found UintKind (of_kind UintKind vs) (length ts)
uints_found [] [] h k = record { numbers = []; are = refl; fit = tt; many = refl }
uints_found [] (t ∷ ts) h k = absurd h
uints_found (v ∷ vs) [] h k = absurd h
uints_found (v ∷ vs) (t ∷ ts) h k =
    let both = and_parts (is_uint t) (list_all is_uint ts) k in
    uint_type (λ t. IsIn v t → Found UintKind (of_kind UintKind (v ∷ vs)) (suc (length ts))) t both.0
    (λ i. uint_value (λ v. IsIn v UintType → Found UintKind (of_kind UintKind (v ∷ vs)) (suc (length ts))) v i.typed (λ n j. one_more n j.ranges (uints_found vs ts h.1 both.1)) i) h.0
  where
    one_more : (n : ℕ) → n < 2 ^ 128 → Found UintKind (of_kind UintKind vs) (length ts) → Found UintKind (of_kind UintKind (UintV n ∷ vs)) (suc (length ts))
    one_more n f rest = record { numbers = Uint n ∷ rest.numbers; are = ap (and_number (Uint n)) rest.are; fit = (f, rest.fit); many = ap suc rest.many }

-- what a native on numbers comes to at values of the types of a row, of the kind that they have
record IsNumeric (fails : Bool) (type : Kind → PlainType) (ts : List PlainType) (c : Computed) : Type 0 where
  kind : Kind
  first : first_of ts ≡ number_type kind
  comes : ComesTo fails false (type kind) c

int_numeric : (fails : Bool) (type : Kind → PlainType) (f : List Num → Computed) (v : Tree) (vs : List Tree) (t : PlainType) (ts : List PlainType) → OnNumbers fails type (suc (length ts)) f → IsIn v t → AreIn vs ts → is_int t ≡ true → list_all is_int ts ≡ true → IsNumeric fails type (t ∷ ts) (numeric f (v ∷ vs))
int_numeric fails type f v vs t ts on i is k ks =
    int_type (λ t. IsIn v t → IsNumeric fails type (t ∷ ts) (numeric f (v ∷ vs))) t k
    (λ i. int_value (λ v. IsIn v IntType → IsNumeric fails type (IntType ∷ ts) (numeric f (v ∷ vs))) v i.typed (λ z j. made z j.ranges (ints_found vs ts is ks)) i) i
  where
    made : (z : ℤ) → FitsSigned w128 z → Found IntKind (of_kind IntKind vs) (length ts) → IsNumeric fails type (IntType ∷ ts) (numeric f (IntV z ∷ vs))
    made z j rest = record {
      kind = IntKind;
      first = refl;
      comes = subst (λ o. ComesTo fails false (type IntKind) (on_numbers f (and_number (Int z) o))) (sym rest.are) (on IntKind (Int z) rest.numbers j rest.fit (ap suc rest.many));
    }

uint_numeric : (fails : Bool) (type : Kind → PlainType) (f : List Num → Computed) (v : Tree) (vs : List Tree) (t : PlainType) (ts : List PlainType) → OnNumbers fails type (suc (length ts)) f → IsIn v t → AreIn vs ts → is_uint t ≡ true → list_all is_uint ts ≡ true → IsNumeric fails type (t ∷ ts) (numeric f (v ∷ vs))
uint_numeric fails type f v vs t ts on i is k ks =
    uint_type (λ t. IsIn v t → IsNumeric fails type (t ∷ ts) (numeric f (v ∷ vs))) t k
    (λ i. uint_value (λ v. IsIn v UintType → IsNumeric fails type (UintType ∷ ts) (numeric f (v ∷ vs))) v i.typed (λ n j. made n j.ranges (uints_found vs ts is ks)) i) i
  where
    made : (n : ℕ) → n < 2 ^ 128 → Found UintKind (of_kind UintKind vs) (length ts) → IsNumeric fails type (UintType ∷ ts) (numeric f (UintV n ∷ vs))
    made n j rest = record {
      kind = UintKind;
      first = refl;
      comes = subst (λ o. ComesTo fails false (type UintKind) (on_numbers f (and_number (Uint n) o))) (sym rest.are) (on UintKind (Uint n) rest.numbers j rest.fit (ap suc rest.many));
    }

numeric_in : (fails : Bool) (type : Kind → PlainType) (f : List Num → Computed) (ts : List PlainType) (vs : List Tree) → OnNumbers fails type (length ts) f → 0 < length ts → AreIn vs ts → are_numbers ts ≡ true → IsNumeric fails type ts (numeric f vs)
numeric_in fails type f [] vs on l is k = absurd (omega (arith, l))
numeric_in fails type f (t ∷ ts) [] on l is k = absurd is
numeric_in fails type f (t ∷ ts) (v ∷ vs) on l is k =
    elim (or_cases (list_all is_int (t ∷ ts)) (list_all is_uint (t ∷ ts)) k) [
      | inl g ↦ let both = and_parts (is_int t) (list_all is_int ts) g in int_numeric fails type f v vs t ts on is.0 is.1 both.0 both.1
      | inr g ↦ let both = and_parts (is_uint t) (list_all is_uint ts) g in uint_numeric fails type f v vs t ts on is.0 is.1 both.0 both.1
    ]

-- ---- the two rows

pub number_row_in : (fails : Bool) (f : List Num → Computed) (ts : List PlainType) (vs : List Tree) → OnNumbers fails number_type (length ts) f → 0 < length ts → AreIn vs ts → IsClean (number_row ts) → ComesTo fails false (number_row ts).type (numeric f vs)
number_row_in fails f ts vs on l is c =
    let n : IsNumeric fails number_type ts (numeric f vs) = numeric_in fails number_type f ts vs on l is (kind_holds (are_numbers ts) (first_of ts) c) in
    subst (λ t. ComesTo fails false t (numeric f vs)) (sym n.first) n.comes

pub compare_row_in : (f : List Num → Computed) (ts : List PlainType) (vs : List Tree) → OnNumbers false (λ kind. BoolType) (length ts) f → 0 < length ts → AreIn vs ts → IsClean (compare_row ts) → ComesTo false false BoolType (numeric f vs)
compare_row_in f ts vs on l is c = (numeric_in false (λ kind. BoolType) f ts vs on l is (kind_holds (are_numbers ts) BoolType c)).comes

pub xor_in : (kind : Kind) (a b : Num) → IsNumber kind a → IsNumber kind b → ComesTo false false (number_type kind) (xor_value a b)
xor_in kind a b h k = number_in kind (exclusive_or a b) (xor_fits kind a b h k)
