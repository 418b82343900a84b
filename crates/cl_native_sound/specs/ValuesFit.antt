-- Values fit their types: what a native on values, a tuple, a part or a shortened sequence comes to has the type of its row, and
-- sequences have entries of their entry types.
use Rattle.std.specs.Prelude.{◌≡◌, ℕ, ◌<◌, ◌≤◌, true, false, List, [], length, zip, Some}
use Rattle.cl_types.specs.Name.{AreNames}
use Rattle.cl_types.specs.Types.{PlainType, ListType}
use Rattle.cl_types.specs.TypeKinds.{is_sequence}
use Rattle.cl_values.specs.declared.native.Native.{Native}
use Rattle.cl_values.specs.Tree.{Tree, TupleV, ListV, items_of}
use Rattle.cl_values.specs.Computed.{Computed}
use Rattle.cl_values.specs.Natives.{native_value}
use Rattle.cl_values.specs.Sequences.{within_length, entries_of, like}
use Rattle.cl_values.specs.Tuples.{sorted_entries, part_at}
use Rattle.cl_values.specs.Typed.{IsOf, AreOf, AllOf, AreSome, HasEntriesOf}
use Rattle.cl_forms.specs.declared.head.Head.TheVariants.{OnValues}
use Rattle.cl_forms.specs.Heads.{takes, row_of}
use Rattle.cl_rules.specs.Faults.{type_rules}
use Rattle.cl_rules.specs.NativeTypes.{native_type, get_row, max_len_row, made}
use Rattle.cl_rules.specs.DataShapes.{stands_twice, tuple_row}
use Rattle.cl_native_sound.specs.Ending.{EndsAs}

-- a value of the type, or an abort
abbrev pub IsComputed : PlainType → Computed → Type 0
IsComputed t c = EndsAs true true t c

pub record ValuesFit : Type 0 where
  -- a native at as many values as it takes, of types at which its row breaks no rule
  pub natives : (n : Native) (ts : List PlainType) (vs : List Tree) → takes (row_of (OnValues n)).arity (length ts) ≡ true → AreOf vs ts → type_rules (native_type n ts).faults ≡ [] → IsComputed (native_type n ts).type (native_value n vs)
  -- a tuple of names, none twice, with as many values
  pub tuples : (keys : List (List ℕ)) (ts : List PlainType) (vs : List Tree) → AreNames keys → length keys ≡ length ts → 0 < length keys → stands_twice keys ≡ false → AreOf vs ts → type_rules (tuple_row keys ts).faults ≡ [] → IsOf (TupleV (sorted_entries (zip keys vs))) (tuple_row keys ts).type
  -- the part of a tuple, or of an optional tuple, at a key
  pub parts : (key : List ℕ) (t : PlainType) (v : Tree) → IsOf v t → type_rules (get_row key t).faults ≡ [] → IsComputed (get_row key t).type (part_at key v)
  -- a sequence within a length
  pub lengths : (most : ℕ) (t : PlainType) (v : Tree) → IsOf v t → type_rules (max_len_row most t).faults ≡ [] → IsComputed (max_len_row most t).type (within_length most v)
  -- the entries of a sequence
  pub entries : (t : PlainType) (v : Tree) → IsOf v t → is_sequence t ≡ true → HasEntriesOf v t
  -- a list of so many values of a type
  pub lists : (n : ℕ) (t : PlainType) (vs : List Tree) → AllOf vs t → length vs ≤ n → type_rules (made (ListType n t)).faults ≡ [] → IsOf (ListV (items_of vs)) (ListType n t)
  -- some of the entries of a sequence, joined again
  pub likes : (t : PlainType) (v : Tree) (entries some : List Tree) → IsOf v t → is_sequence t ≡ true → entries_of v ≡ Some entries → AreSome some entries → IsOf (like v some) t
