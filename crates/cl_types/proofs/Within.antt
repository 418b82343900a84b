-- Sizes within the limit.
use Rattle.std.proofs.Common.{◌≡◌, ℕ, ◌+◌, ◌*◌, ◌&&◌, max, nat_le, length, Bool, true, false, Option, Some, None, IfSome, if◌then◌else◌, List, arith, refl, ap, sym, ◌∙◌}
use Rattle.std.proofs.lemmas.Bool.{and_from, leb-false, le-leb, lt-leb}
use Rattle.cl_types.specs.Name.{IsName, fits_pattern}
use Rattle.cl_types.specs.Types.{PlainType, ListType, TupleType, OptionalType, ResponseType, Fields, Field, size_of, sizes_of}
use Rattle.cl_types.specs.Sized.{everywhere, everywhere_in, is_within, is_name, are_named, keys_are_names}

-- the size where a test holds
abbrev pub size_where : Bool → ℕ → Option ℕ
size_where b n = if b then Some n else None

pub some_where : (b : Bool) (n m : ℕ) → Some n ≡ size_where b m → (b ≡ true) × (n ≡ m)
some_where true n m e = (refl, cc)
some_where false n m e = absurd cc

pub none_where : (b : Bool) (m : ℕ) → None ≡ size_where b m → b ≡ false
none_where true m e = absurd cc
none_where false m e = refl

pub no_size : (b c : Bool) (n : ℕ) → c ≡ false → None ≡ size_where (b && c) n
no_size true true n e = absurd cc
no_size true false n e = refl
no_size false c n e = refl

pub no_size_left : (b c : Bool) (n : ℕ) → b ≡ false → None ≡ size_where (b && c) n
no_size_left true c n e = absurd cc
no_size_left false c n e = refl

two_parts : (b p q : Bool) (n : ℕ) → p ≡ true → q ≡ true → size_where b n ≡ size_where ((b && true) && p && q) n
two_parts true true true n d e = refl
two_parts true true false n d e = absurd cc
two_parts true false q n d e = absurd cc
two_parts false p q n d e = refl

pub response_measured : (t e : PlainType) (good bad most : ℕ) → Some good ≡ size_where (everywhere is_within t) (size_of t) → Some bad ≡ size_where (everywhere is_within e) (size_of e) → most ≡ max good bad → size_where (nat_le (1 + most) 1048576) (1 + most) ≡ size_where (everywhere is_within (ResponseType t e)) (size_of (ResponseType t e))
response_measured t e good bad most g b is =
    let first = some_where (everywhere is_within t) good (size_of t) g in
    let second = some_where (everywhere is_within e) bad (size_of e) b in
    let size : 1 + most ≡ size_of (ResponseType t e) = omega (arith, first.1, second.1) in
    ap (λ (n : ℕ). size_where (nat_le n 1048576) n) size ∙ two_parts (nat_le (size_of (ResponseType t e)) 1048576) (everywhere is_within t) (everywhere is_within e) (size_of (ResponseType t e)) first.0 second.0

part_kept : (b p : Bool) (n : ℕ) → p ≡ true → size_where b n ≡ size_where (b && p) n
part_kept true true n h = refl
part_kept true false n h = absurd cc
part_kept false p n h = refl

pub list_measured : (t : PlainType) (most entry m e : ℕ) → Some entry ≡ size_where (everywhere is_within t) (size_of t) → m ≡ most → e ≡ entry → size_where (nat_le (5 + m * e) 1048576 && nat_le most 1048576) (5 + m * e) ≡ size_where (everywhere is_within (ListType most t)) (size_of (ListType most t))
list_measured t most entry m e h long is =
    let part = some_where (everywhere is_within t) entry (size_of t) h in
    let size : 5 + m * e ≡ size_of (ListType most t) = ap (λ (n : ℕ). 5 + n * e) long ∙ ap (λ (n : ℕ). 5 + most * n) (is ∙ part.1) in
    ap (λ (n : ℕ). size_where (nat_le n 1048576 && nat_le most 1048576) n) size ∙ part_kept (nat_le (size_of (ListType most t)) 1048576 && nat_le most 1048576) (everywhere is_within t) (size_of (ListType most t)) part.0

pub optional_measured : (t : PlainType) (part n : ℕ) → Some part ≡ size_where (everywhere is_within t) (size_of t) → n ≡ part → size_where (nat_le (1 + n) 1048576) (1 + n) ≡ size_where (everywhere is_within (OptionalType t)) (size_of (OptionalType t))
optional_measured t part n h is =
    let inner = some_where (everywhere is_within t) part (size_of t) h in
    let small : Bool = nat_le (1 + size_of t) 1048576 in
    ap (λ (m : ℕ). size_where (nat_le (1 + m) 1048576) (1 + m)) (is ∙ inner.1) ∙ part_kept small true (1 + size_of t) refl ∙ part_kept (small && true) (everywhere is_within t) (1 + size_of t) inner.0

pub tuple_measured : (b p : Bool) (n : ℕ) → size_where (b && p) n ≡ size_where ((b && true) && p) n
tuple_measured true p n = refl
tuple_measured false p n = refl

pub in_any : (o : Option ℕ) (P : Type 0) → P → IfSome o (λ _. P)
in_any (Some n) P h = h
in_any None P h = tt

pub tuple_named : (o : Option ℕ) (fs : Fields) (t : PlainType) → TupleType fs ≡ t → IfSome o (λ _. (are_named fs ≡ true) × (everywhere_in keys_are_names fs ≡ true)) → IfSome o (λ _. everywhere keys_are_names t ≡ true)
tuple_named (Some n) fs t is h = ap (everywhere keys_are_names) (sym is) ∙ and_from (are_named fs) (everywhere_in keys_are_names fs) h.0 h.1
tuple_named None fs t is h = tt

pub named : (k : List ℕ) → IsName k → is_name k ≡ true
named k h = and_from (fits_pattern k) (nat_le (length k) 128) h.pattern (le-leb (length k) 128 h.within)

-- a row of fields whose first is measured, after others of size so far
module _ (k : List ℕ) (t : PlainType) (rest row : Fields) (far : ℕ) (counted : 5 + sizes_of row ≡ far + sizes_of (Field k t rest)) where
  pub row_counted : (size : ℕ) → size ≡ far + (1 + length k + size_of t) → 5 + sizes_of row ≡ size + sizes_of rest
  row_counted size e = omega arith

  pub row_too_large : (n : ℕ) → n ≡ far + (1 + length k + size_of t) → nat_le n 1048576 ≡ false → nat_le (5 + sizes_of row) 1048576 ≡ false
  row_too_large n e h = lt-leb (5 + sizes_of row) 1048576 (omega (arith, leb-false n 1048576 h))
