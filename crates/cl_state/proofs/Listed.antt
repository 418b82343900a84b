-- Each key of a state is that of something that has a row.
use Rattle.std.proofs.Common.{◌≡◌, ℕ, List, [], ◌∷◌, refl, sym, ◌∙◌}
use Rattle.std.specs.Prelude.{Bool, true, false, cond, Some}
use Rattle.std.proofs.lemmas.Option.{none-some}
use Rattle.cl_maps.specs.Maps.{get}
use Rattle.cl_maps.proofs.MapLaws.{get-put, same_keys}
use Rattle.cl_tokens.specs.Table.{is_key}
use Rattle.cl_events.specs.declared.event.Event.{Event}
use Rattle.cl_events.specs.declared.event.Move.{Move}
use Rattle.cl_events.specs.State.{State}
use Rattle.cl_tables.specs.declared.place.Place.{Place}
use Rattle.cl_tables.specs.Variables.{key_of, IsPlaceKey}
use Rattle.cl_tables.specs.Numbered.{by_place, ArePlaced}
use Rattle.cl_tables.specs.Spelled.{Each}
use Rattle.cl_state.specs.Sums.{HasSums}
use Rattle.cl_tables.specs.Notes.{Held, state_of, IsSound}
use Rattle.cl_state.specs.Rows.{with_told}
use Rattle.cl_tables.specs.StateRows.{IsListed}

token_step : {A : Type 0} (key : List ℕ) (e : Place × A) (es : List (Place × A)) (a : A) (b : Bool) → is_key key (key_of e.0) ≡ b → ArePlaced (e ∷ es) → cond b (Some e.1) (get key (by_place es)) ≡ Some a → (get key (by_place es) ≡ Some a → IsPlaceKey key) → IsPlaceKey key
token_step key e es a true same placed is rest = (e.0, placed.0, same_keys key (key_of e.0) same)
token_step key e es a false other placed is rest = rest is

tokens_listed : {A : Type 0} (es : List (Place × A)) → ArePlaced es → Each (λ key a. IsPlaceKey key) (by_place es)
unfolding by_place
tokens_listed [] placed key a is = absurd (none-some a is)
tokens_listed (e ∷ es) placed key a is =
    token_step key e es a (is_key key (key_of e.0)) refl placed (sym (get-put (by_place es) (key_of e.0) e.1 key) ∙ is) (λ behind. tokens_listed es placed.1 key a behind)

pub sound_is_listed : (h : Held) → IsSound h → IsListed (state_of h)
sound_is_listed h sound = record {
  variables = sound.variables;
  fungibles = tokens_listed h.fungibles sound.fungibles;
  nonfungibles = tokens_listed h.nonfungibles sound.nonfungibles;
  spelled = sound.spelled;
}

pub listed_told : (s : State) (es : List Event) (ms : List Move) → IsListed s → IsListed (with_told es ms s)
listed_told s es ms listed = record {
  variables = listed.variables;
  fungibles = listed.fungibles;
  nonfungibles = listed.nonfungibles;
  spelled = record { entries = listed.spelled.entries; fungibles = listed.spelled.fungibles; nonfungibles = listed.spelled.nonfungibles; stx = listed.spelled.stx };
}

-- supplies are sums
pub sound_has_sums : (h : Held) → IsSound h → HasSums (state_of h)
sound_has_sums h sound = record { fungibles = λ key l is. (sound.spelled.fungibles key l is).sums; stx = sound.spelled.stx.sums }

pub sums_told : (s : State) (es : List Event) (ms : List Move) → HasSums s → HasSums (with_told es ms s)
sums_told s es ms sums = record { fungibles = sums.fungibles; stx = sums.stx }
