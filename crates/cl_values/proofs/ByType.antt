-- What a value of a type is, by the kind of the type: a fact on all values of the kind is one on the value.
use Rattle.std.proofs.Common.{◌≡◌, ℕ, Bool, true, false, ◌&&◌, nat_le, List, length}
use Rattle.std.specs.Prelude.{ℤ}
use Rattle.std.proofs.lemmas.Bool.{false≢true}
use Rattle.cl_c32.specs.declared.principal.Principal.{Principal}
use Rattle.cl_types.specs.Types.{PlainType, NoType, IntType, UintType, BoolType, PrincipalType, BuffType, AsciiType, Utf8Type, ListType, TupleType, OptionalType, ResponseType, Fields}
use Rattle.cl_values.specs.Tree.{Tree, IntV, UintV, BoolV, BuffV, AsciiV, Utf8V, PrincipalV, ListV, TupleV, NoneV, SomeV, ResponseV, Items, Entries, items_count}
use Rattle.cl_values.specs.Inhabits.{inhabits, items_inhabit, entries_inhabit}
use Rattle.cl_values.proofs.Admitted.{no_inhabitant}

pub no_value : (v : Tree) → inhabits v NoType ≡ true → ⊥
no_value v h =
    let e : inhabits v NoType ≡ false = no_inhabitant v in
    cc

pub int_value : (P : Tree → Type 0) (v : Tree) → inhabits v IntType ≡ true → ((z : ℤ) → P (IntV z)) → P v
int_value P (IntV z) h p = p z
int_value P (ResponseV true v) h p = absurd (false≢true h)
int_value P (ResponseV false v) h p = absurd (false≢true h)
int_value P v h p = absurd (false≢true h)

pub uint_value : (P : Tree → Type 0) (v : Tree) → inhabits v UintType ≡ true → ((n : ℕ) → P (UintV n)) → P v
uint_value P (UintV n) h p = p n
uint_value P (ResponseV true v) h p = absurd (false≢true h)
uint_value P (ResponseV false v) h p = absurd (false≢true h)
uint_value P v h p = absurd (false≢true h)

pub bool_value : (P : Tree → Type 0) (v : Tree) → inhabits v BoolType ≡ true → ((b : Bool) → P (BoolV b)) → P v
bool_value P (BoolV b) h p = p b
bool_value P (ResponseV true v) h p = absurd (false≢true h)
bool_value P (ResponseV false v) h p = absurd (false≢true h)
bool_value P v h p = absurd (false≢true h)

pub principal_value : (P : Tree → Type 0) (v : Tree) → inhabits v PrincipalType ≡ true → ((q : Principal) → P (PrincipalV q)) → P v
principal_value P (PrincipalV q) h p = p q
principal_value P (ResponseV true v) h p = absurd (false≢true h)
principal_value P (ResponseV false v) h p = absurd (false≢true h)
principal_value P v h p = absurd (false≢true h)

pub buff_value : (P : Tree → Type 0) (v : Tree) (n : ℕ) → inhabits v (BuffType n) ≡ true → ((bytes : List ℕ) → nat_le (length bytes) n ≡ true → P (BuffV bytes)) → P v
buff_value P (BuffV bytes) n h p = p bytes h
buff_value P (ResponseV true v) n h p = absurd (false≢true h)
buff_value P (ResponseV false v) n h p = absurd (false≢true h)
buff_value P v n h p = absurd (false≢true h)

pub ascii_value : (P : Tree → Type 0) (v : Tree) (n : ℕ) → inhabits v (AsciiType n) ≡ true → ((bytes : List ℕ) → nat_le (length bytes) n ≡ true → P (AsciiV bytes)) → P v
ascii_value P (AsciiV bytes) n h p = p bytes h
ascii_value P (ResponseV true v) n h p = absurd (false≢true h)
ascii_value P (ResponseV false v) n h p = absurd (false≢true h)
ascii_value P v n h p = absurd (false≢true h)

pub utf8_value : (P : Tree → Type 0) (v : Tree) (n : ℕ) → inhabits v (Utf8Type n) ≡ true → ((characters : List ℕ) → nat_le (length characters) n ≡ true → P (Utf8V characters)) → P v
utf8_value P (Utf8V characters) n h p = p characters h
utf8_value P (ResponseV true v) n h p = absurd (false≢true h)
utf8_value P (ResponseV false v) n h p = absurd (false≢true h)
utf8_value P v n h p = absurd (false≢true h)

pub list_value : (P : Tree → Type 0) (v : Tree) (n : ℕ) (t : PlainType) → inhabits v (ListType n t) ≡ true → ((vs : Items) → (nat_le (items_count vs) n && items_inhabit vs t) ≡ true → P (ListV vs)) → P v
list_value P (ListV vs) n t h p = p vs h
list_value P (ResponseV true v) n t h p = absurd (false≢true h)
list_value P (ResponseV false v) n t h p = absurd (false≢true h)
list_value P v n t h p = absurd (false≢true h)

pub tuple_value : (P : Tree → Type 0) (v : Tree) (fs : Fields) → inhabits v (TupleType fs) ≡ true → ((es : Entries) → entries_inhabit es fs ≡ true → P (TupleV es)) → P v
tuple_value P (TupleV es) fs h p = p es h
tuple_value P (ResponseV true v) fs h p = absurd (false≢true h)
tuple_value P (ResponseV false v) fs h p = absurd (false≢true h)
tuple_value P v fs h p = absurd (false≢true h)

pub optional_value : (P : Tree → Type 0) (v : Tree) (t : PlainType) → inhabits v (OptionalType t) ≡ true → P NoneV → ((w : Tree) → inhabits w t ≡ true → P (SomeV w)) → P v
optional_value P NoneV t h none some = none
optional_value P (SomeV w) t h none some = some w h
optional_value P (ResponseV true v) t h none some = absurd (false≢true h)
optional_value P (ResponseV false v) t h none some = absurd (false≢true h)
optional_value P v t h none some = absurd (false≢true h)

pub response_value : (P : Tree → Type 0) (v : Tree) (t e : PlainType) → inhabits v (ResponseType t e) ≡ true → ((w : Tree) → inhabits w t ≡ true → P (ResponseV true w)) → ((w : Tree) → inhabits w e ≡ true → P (ResponseV false w)) → P v
response_value P (ResponseV true w) t e h ok err = ok w h
response_value P (ResponseV false w) t e h ok err = err w h
response_value P v t e h ok err = absurd (false≢true h)
