-- Values fit their types.
use Rattle.std.proofs.Common.{Bool, refl}
use Rattle.cl_types.specs.Types.{PlainType}
use Rattle.cl_values.specs.Computed.{Computed, Gives, Fails, Panics, Undefined}
use Rattle.cl_values.specs.Natives.{native_value}
use Rattle.cl_values.specs.Sequences.{within_length}
use Rattle.cl_values.specs.Tuples.{part_at}
use Rattle.cl_values.proofs.Entries.{entries_of_value}
use Rattle.cl_values.proofs.Joined.{like_some}
use Rattle.cl_rules.specs.NativeTypes.{native_type, get_row, max_len_row}
use Rattle.cl_native_sound.specs.Ending.{EndsAs, may_fail, may_panic}
use Rattle.cl_native_sound.specs.ValuesFit.{IsComputed, ValuesFit}
use Rattle.cl_native_sound.proofs.EachNative.{native_ends}
use Rattle.cl_native_sound.proofs.Tuples.{get_ends}
use Rattle.cl_native_sound.proofs.OtherForms.{tuple_typed, max_len_ends, list_typed}

computed : (f p : Bool) (t : PlainType) (c : Computed) → EndsAs f p t c → IsComputed t c
computed f p t (Gives v) h = h
computed f p t (Fails why) h = refl
computed f p t Panics h = refl
computed f p t Undefined h = h

pub values_fit : ValuesFit
values_fit = record {
  natives = λ n ts vs count is c. computed (may_fail n) (may_panic n) (native_type n ts).type (native_value n vs) (native_ends n ts vs count is c);
  tuples = λ keys ts vs names many some twice is c. tuple_typed keys ts vs names twice some many is c;
  parts = λ key t v i c. computed _ _ (get_row key t).type (part_at key v) (get_ends key t v i c);
  lengths = λ most t v i c. computed _ _ (max_len_row most t).type (within_length most v) (max_len_ends most t v i c);
  entries = λ t v. entries_of_value v t;
  lists = λ n t vs is many c. list_typed n t vs c is many;
  likes = like_some;
}
