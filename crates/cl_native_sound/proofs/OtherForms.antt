-- The other forms that take all their arguments: a sequence within a length, tuples of pairs; and lists of values of a type.
use Rattle.std.proofs.Common.{◌≡◌, ℕ, ◌<◌, ◌≤◌, List, Bool, true, false, nat_le, if◌then◌else◌, Some, length, refl, sym, subst}
use Rattle.std.specs.Prelude.{zip}
use Rattle.std.proofs.lemmas.Bool.{leb-true}
use Rattle.cl_types.specs.Name.{AreNames}
use Rattle.cl_types.specs.Types.{PlainType, ListType, TupleType, OptionalType}
use Rattle.cl_types.specs.TypeKinds.{is_sequence, resized}
use Rattle.cl_values.specs.Tree.{Tree, TupleV, ListV, NoneV, SomeV, items_of}
use Rattle.cl_values.specs.Computed.{Gives}
use Rattle.cl_values.specs.Sequences.{entries_of, on_entries, within_length}
use Rattle.cl_values.specs.Tuples.{sorted_entries}
use Rattle.cl_values.specs.Typed.{IsOf, AreOf, AllOf}
use Rattle.cl_values.proofs.OfTypes.{IsIn, is_of, is_in, are_in, all_in}
use Rattle.cl_values.proofs.Entries.{HasEntries, entries_in, list_in}
use Rattle.cl_values.proofs.Joined.{shortened}
use Rattle.cl_rules.specs.NativeTypes.{made, max_len_row}
use Rattle.cl_rules.specs.DataShapes.{stands_twice, fields_by, tuple_row}
use Rattle.cl_native_sound.specs.Ending.{EndsAs}
use Rattle.cl_native_sound.proofs.Coming.{ComesTo, ends_as}
use Rattle.cl_native_sound.proofs.Rulings.{IsClean, if_kind_holds}
use Rattle.cl_native_sound.proofs.Limits.{limits, max_len_limits}
use Rattle.cl_native_sound.proofs.ValueRows.{some_in, none_in}
use Rattle.cl_native_sound.proofs.Tuples.{pairs_in}

max_len_by : (m : ℕ) (t : PlainType) (v : Tree) (xs : List Tree) → IsIn v t → entries_of v ≡ Some xs → is_sequence t ≡ true → IsIn (if nat_le (length xs) m then SomeV v else NoneV) (OptionalType (resized m t))
max_len_by m t v xs i e h = by (nat_le (length xs) m) refl
  where
    by : (b : Bool) → nat_le (length xs) m ≡ b → IsIn (if b then SomeV v else NoneV) (OptionalType (resized m t))
    by true k = some_in (resized m t) v (shortened m t v xs i e h (leb-true (length xs) m k))
    by false k = none_in (resized m t)

pub max_len_in : (m : ℕ) (t : PlainType) (v : Tree) → IsIn v t → IsClean (max_len_row m t) → ComesTo false false (OptionalType (resized m t)) (within_length m v)
max_len_in m t v i c =
    let h : is_sequence t ≡ true = if_kind_holds (is_sequence t) (made (OptionalType (resized m t))) c in
    let e : HasEntries v t = entries_in v t i h in
    subst (λ o. ComesTo false false (OptionalType (resized m t)) (on_entries (λ xs. Gives (if nat_le (length xs) m then SomeV v else NoneV)) o)) (sym e.are) (max_len_by m t v e.entries i e.are h)

pub max_len_ends : (m : ℕ) (t : PlainType) (v : Tree) → IsOf v t → IsClean (max_len_row m t) → EndsAs false false (max_len_row m t).type (within_length m v)
max_len_ends m t v i c = ends_as false false (max_len_row m t).type (within_length m v) (max_len_limits m t c) (max_len_in m t v (is_in v t i) c)

pub tuple_typed : (ks : List (List ℕ)) (ts : List PlainType) (vs : List Tree) → AreNames ks → stands_twice ks ≡ false → 0 < length ks → length ks ≡ length ts → AreOf vs ts → IsClean (tuple_row ks ts) → IsOf (TupleV (sorted_entries (zip ks vs))) (tuple_row ks ts).type
tuple_typed ks ts vs ns d l e is c = is_of (TupleV (sorted_entries (zip ks vs))) (TupleType (fields_by ks ts)) (limits (TupleType (fields_by ks ts)) c) (pairs_in ks ts vs ns d l e (are_in vs ts is))

pub list_typed : (n : ℕ) (t : PlainType) (vs : List Tree) → IsClean (made (ListType n t)) → AllOf vs t → length vs ≤ n → IsOf (ListV (items_of vs)) (ListType n t)
list_typed n t vs c is l = is_of (ListV (items_of vs)) (ListType n t) (limits (ListType n t) c) (list_in vs n t (all_in vs t is) l)
