-- A value is no deeper than its type.
use Rattle.std.proofs.Common.{◌≡◌, ◌+◌, ◌≤◌, max, true, false, ◌&&◌, nat_eq, nat_le, arith}
use Rattle.std.specs.Cmp.Lexicographic.{pointwise}
use Rattle.std.proofs.lemmas.Bool.{false≢true, and_parts}
use Rattle.cl_types.specs.Types.{PlainType, NoType, IntType, UintType, BoolType, PrincipalType, BuffType, AsciiType, Utf8Type, ListType, TupleType, OptionalType, ResponseType, Fields, NoField, Field, depth_of as type_depth, depths_of}
use Rattle.cl_values.specs.Tree.{Tree, Items, NoItem, Item, Entries, NoEntry, Entry, items_count, depth_of, items_depth, entries_depth}
use Rattle.cl_values.specs.Inhabits.{inhabits, items_inhabit, entries_inhabit}
use Rattle.cl_values.proofs.ByType.{no_value, int_value, uint_value, bool_value, principal_value, buff_value, ascii_value, utf8_value, list_value, tuple_value, optional_value, response_value}

items_no_deeper : (t : PlainType) → ((v : Tree) → inhabits v t ≡ true → depth_of v ≤ type_depth t) → (vs : Items) → items_inhabit vs t ≡ true → items_depth vs ≤ type_depth t
items_no_deeper t each NoItem h = omega arith
items_no_deeper t each (Item v vs) h =
    let both = and_parts (inhabits v t) (items_inhabit vs t) h in
    omega (arith, each v both.0, items_no_deeper t each vs both.1)

mutual
  pub no_deeper : (v : Tree) (t : PlainType) → inhabits v t ≡ true → depth_of v ≤ type_depth t
  no_deeper v NoType h = absurd (no_value v h)
  no_deeper v IntType h = int_value (λ v. depth_of v ≤ 1) v h (λ z. omega arith)
  no_deeper v UintType h = uint_value (λ v. depth_of v ≤ 1) v h (λ n. omega arith)
  no_deeper v BoolType h = bool_value (λ v. depth_of v ≤ 1) v h (λ b. omega arith)
  no_deeper v PrincipalType h = principal_value (λ v. depth_of v ≤ 1) v h (λ q. omega arith)
  no_deeper v (BuffType n) h = buff_value (λ v. depth_of v ≤ 1) v n h (λ b g. omega arith)
  no_deeper v (AsciiType n) h = ascii_value (λ v. depth_of v ≤ 1) v n h (λ b g. omega arith)
  no_deeper v (Utf8Type n) h = utf8_value (λ v. depth_of v ≤ 1) v n h (λ b g. omega arith)
  no_deeper v (ListType n t) h =
      list_value (λ v. depth_of v ≤ 1 + type_depth t) v n t h
      (λ vs g. let k : items_depth vs ≤ type_depth t = items_no_deeper t (λ v g. no_deeper v t g) vs (and_parts (nat_le (items_count vs) n) (items_inhabit vs t) g).1 in omega arith)
  no_deeper v (TupleType fs) h = tuple_value (λ v. depth_of v ≤ 1 + depths_of fs) v fs h (λ es g. let k : entries_depth es ≤ depths_of fs = entries_no_deeper fs es g in omega arith)
  no_deeper v (OptionalType t) h = optional_value (λ v. depth_of v ≤ 1 + type_depth t) v t h (omega arith) (λ w g. let k : depth_of w ≤ type_depth t = no_deeper w t g in omega arith)
  no_deeper v (ResponseType t e) h =
      response_value (λ v. depth_of v ≤ 1 + max (type_depth t) (type_depth e)) v t e h
      (λ w g. let k : depth_of w ≤ type_depth t = no_deeper w t g in omega arith)
      (λ w g. let k : depth_of w ≤ type_depth e = no_deeper w e g in omega arith)

  entries_no_deeper : (fs : Fields) (es : Entries) → entries_inhabit es fs ≡ true → entries_depth es ≤ depths_of fs
  entries_no_deeper NoField NoEntry h = omega arith
  entries_no_deeper (Field j t fs) NoEntry h = absurd (false≢true h)
  entries_no_deeper NoField (Entry k v es) h = absurd (false≢true h)
  entries_no_deeper (Field j t fs) (Entry k v es) h =
      let both = and_parts (pointwise nat_eq k j && inhabits v t) (entries_inhabit es fs) h in
      omega (arith, no_deeper v t (and_parts (pointwise nat_eq k j) (inhabits v t) both.0).1, entries_no_deeper fs es both.1)
