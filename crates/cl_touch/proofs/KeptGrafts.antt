-- A state that is kept stays so with spots of another.
use Rattle.std.proofs.Common.{◌≡◌, ℕ, Bool, true, false, List, Some, None, refl, sym, ◌∙◌}
use Rattle.std.specs.Prelude.{if◌then◌else◌}
use Rattle.std.specs.List.{list_any}
use Rattle.cl_maps.specs.Maps.{Map, get}
use Rattle.cl_tokens.specs.Ledger.{Ledger}
use Rattle.cl_events.specs.State.{place}
use Rattle.cl_meaning.specs.Kept.{IsHeld, Stands}
use Rattle.cl_spots.specs.Spots.{is_variable_at, is_entry_at, is_token_at, is_stx, joined}
use Rattle.cl_tables.proofs.Joined.{get-joined}
use Rattle.cl_touch.specs.Laws.{GraftsAreKept}

-- what a joined map has under a key, one of the two maps has
one_of_two : {A P : Type 0} (test : List ℕ → Bool) (from m : Map A) (key : List ℕ) (v : A) → get key (joined test from m) ≡ Some v → (get key from ≡ Some v → P) → (get key m ≡ Some v → P) → P
one_of_two {A} {P} test from m key v e first second = by (test key) (sym (get-joined test from m key) ∙ e)
  where
    by : (b : Bool) → (if b then get key from else get key m) ≡ Some v → P
    by true h = first h
    by false h = second h

-- what both maps have, the joined one has
both_stand : {A : Type 0} (test : List ℕ → Bool) (from m : Map A) (key : List ℕ) → Stands from key → Stands m key → Stands (joined test from m) key
both_stand {A} test from m key h k = by (test key) refl
  where
    taken : (b : Bool) → test key ≡ b → get key (joined test from m) ≡ (if b then get key from else get key m)
    taken b e = get-joined test from m key ∙ (λ i. if e i then get key from else get key m)

    by : (b : Bool) → test key ≡ b → Stands (joined test from m) key
    by true e = record { value = h.value; there = taken true e ∙ h.there }
    by false e = record { value = k.value; there = taken false e ∙ k.there }

one_ledger : (P : Ledger → Type 0) (b : Bool) (l m : Ledger) → P l → P m → P (if b then l else m)
one_ledger P true l m h k = h
one_ledger P false l m h k = k

pub kept_grafts : GraftsAreKept
kept_grafts W stage spots from s h k = record {
  variables_there = λ c x t e d so. both_stand (λ key. list_any (is_variable_at key) spots) from.variables s.variables (place c.principal x) (h.variables_there c x t e d so) (k.variables_there c x t e d so);
  variables = λ key v e. one_of_two (λ key. list_any (is_variable_at key) spots) from.variables s.variables key v e (h.variables key v) (k.variables key v);
  entries = λ key v e. one_of_two (λ key. list_any (is_entry_at key) spots) from.entries s.entries key v e (h.entries key v) (k.entries key v);
  fungibles_there = λ c x e d so. both_stand (λ key. list_any (is_token_at key) spots) from.fungibles s.fungibles (place c.principal x) (h.fungibles_there c x e d so) (k.fungibles_there c x e d so);
  fungibles = λ key l e. one_of_two (λ key. list_any (is_token_at key) spots) from.fungibles s.fungibles key l e (h.fungibles key l) (k.fungibles key l);
  nonfungibles_there = λ c x t d so. both_stand (λ key. list_any (is_token_at key) spots) from.nonfungibles s.nonfungibles (place c.principal x) (h.nonfungibles_there c x t d so) (k.nonfungibles_there c x t d so);
  nonfungibles = λ key o e. one_of_two (λ key. list_any (is_token_at key) spots) from.nonfungibles s.nonfungibles key o e (h.nonfungibles key o) (k.nonfungibles key o);
  stx = one_ledger IsHeld (list_any is_stx spots) from.stx s.stx h.stx k.stx;
  uncapped = one_ledger (λ (l : Ledger). l.cap ≡ None) (list_any is_stx spots) from.stx s.stx h.uncapped k.uncapped;
}
