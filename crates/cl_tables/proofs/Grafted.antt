-- Tokens that are put into a map by their places, and what grafted tables hold.
use Rattle.std.proofs.Common.{◌≡◌, refl, sym, ap, subst, ◌∙◌, ℕ, ◌+◌, ◌<◌, List, [], ◌∷◌, length, drop, get_or}
use Rattle.std.specs.Prelude.{T, Bool, true, false, cond, not, Option, None, Some, if◌then◌else◌}
use Rattle.std.specs.Option.{option_map}
use Rattle.std.specs.List.{list_any}
use Rattle.std.proofs.lemmas.List.{drop_more}
use Rattle.std.specs.FinMap.Entries.{find}
use Rattle.indexmap.specs.IndexMap.{insert_entry}
use Rattle.cl_maps.specs.Maps.{Map, key_cmp, empty, get, put}
use Rattle.cl_maps.proofs.MapLaws.{same_map, same_keys, get-put}
use Rattle.cl_tokens.specs.Table.{is_key}
use Rattle.cl_tokens.specs.Ledger.{Ledger, Held as LedgerHeld}
use Rattle.cl_tokens.specs.Owners.{Owned}
use Rattle.cl_events.specs.State.{State}
use Rattle.cl_tables.specs.declared.place.Place.{Place}
use Rattle.cl_tables.specs.declared.spot.Spot.{Spot}
use Rattle.cl_tables.specs.declared.spot.Spot.TheVariants.{Variable, MapOf, Token, Stx}
use Rattle.cl_tables.specs.contracts.place.PlacePartialEq.TheImpl.{eq-value}
use Rattle.cl_tables.specs.Variables.{IsPlace, IsPlaceKey, key_of}
use Rattle.cl_tables.specs.declared.tables.Tables.{Tables}
use Rattle.cl_tables.specs.Numbered.{by_place, ArePlaced, ledgers_of, owners_of}
use Rattle.cl_tables.specs.Tables.{held_in}
use Rattle.cl_tables.specs.Spelled.{Each, IsSpot, AreHeld, AreOwned, IsSpelled}
use Rattle.cl_tables.specs.Notes.{Held, state_of, IsSound}
use Rattle.cl_tables.specs.Spots.{is_variable_at, is_entry_at, is_token_at, is_stx, joined, grafted, with_tokens}
use Rattle.cl_tables.proofs.SamePlaces.{equal_is}
use Rattle.cl_tables.proofs.Numbered.{keyed, get-by_place, first_changed, later_changed, parts_of, get-parts}
use Rattle.cl_tables.proofs.Joined.{get-joined, is_joined, each_joined}

module _ {A : Type 0} where
  -- ------------------------------------------------------------ a token at a place

  inserted_step : (at : Place) (a : A) (e : Place × A) (es new : List (Place × A)) (q : List ℕ) (b : Bool) → is_key (key_of at) (key_of e.0) ≡ b → find key_cmp q (keyed new) ≡ cond (is_key q (key_of at)) (Some a) (find key_cmp q (keyed es))
      → find key_cmp q (keyed (cond b ((e.0, a) ∷ es) (e ∷ new))) ≡ cond (is_key q (key_of at)) (Some a) (find key_cmp q (keyed (e ∷ es)))
  inserted_step at a e es new q true same rest = first_changed (key_of at) e es a q (same_keys (key_of at) (key_of e.0) same)
  inserted_step at a e es new q false apart rest = later_changed (key_of at) q (key_of e.0) e.1 a _ _ apart (is_key q (key_of e.0)) refl (is_key q (key_of at)) refl rest

  inserted_keyed : (at : Place) (a : A) (es : List (Place × A)) → IsPlace at → ArePlaced es → (q : List ℕ) → find key_cmp q (keyed (insert_entry eq-value.it es at a)) ≡ cond (is_key q (key_of at)) (Some a) (find key_cmp q (keyed es))
  inserted_keyed at a [] real all q = refl
  inserted_keyed at a (e ∷ es) real all q =
      inserted_step at a e es (insert_entry eq-value.it es at a) q (eq-value.it at e.0) (sym (equal_is at e.0 real all.0)) (inserted_keyed at a es real all.1 q)

  pub inserted_map : (at : Place) (a : A) (es : List (Place × A)) → IsPlace at → ArePlaced es → by_place (insert_entry eq-value.it es at a) ≡ put (key_of at) a (by_place es)
  inserted_map at a es real all = same_map _ _ (λ q.
      get-by_place (insert_entry eq-value.it es at a) q ∙ inserted_keyed at a es real all q
      ∙ ap (cond (is_key q (key_of at)) (Some a)) (sym (get-by_place es q)) ∙ sym (get-put (by_place es) (key_of at) a q))

  placed_step : (a : A) (e : Place × A) (es new : List (Place × A)) (b : Bool) → ArePlaced (e ∷ es) → ArePlaced new → ArePlaced (cond b ((e.0, a) ∷ es) (e ∷ new))
  placed_step a e es new true all rest = all
  placed_step a e es new false all rest = (all.0, rest)

  pub inserted_placed : (at : Place) (a : A) (es : List (Place × A)) → IsPlace at → ArePlaced es → ArePlaced (insert_entry eq-value.it es at a)
  inserted_placed at a [] real all = (real, tt)
  inserted_placed at a (e ∷ es) real all = placed_step a e es (insert_entry eq-value.it es at a) (eq-value.it at e.0) all (inserted_placed at a es real all.1)

  -- ------------------------------------------------------------ tokens of a test

  -- one more in front of those that were put
  pub token_put : (test : List ℕ → Bool) (es : List (Place × A)) (i : ℕ) (e : Place × A) (m old new : Map A) → i < length es → e ≡ get_or es i e → old ≡ with_tokens test (drop (i + 1) es) m
      → new ≡ with_tokens test (e ∷ []) old → new ≡ with_tokens test (drop i es) m
  token_put test es i e m old new low at before after =
      after ∙ ap (with_tokens test (e ∷ [])) before ∙ ap (λ xs. with_tokens test xs m) (ap (λ x. x ∷ drop (i + 1) es) at ∙ sym (drop_more es i e low))

  put_step : (same wanted : Bool) (x m o : Option A) (y : A) → (same ≡ true → wanted ≡ true) → o ≡ (if wanted then x else m) → cond same (Some y) o ≡ (if wanted then cond same (Some y) x else m)
  put_step true true x m o y also rest = refl
  put_step true false x m o y also rest = absurd (subst T (sym (also refl)) tt)
  put_step false true x m o y also rest = rest
  put_step false false x m o y also rest = rest

  left_step : (same wanted : Bool) (x m o : Option A) (y : A) → (same ≡ true → wanted ≡ false) → o ≡ (if wanted then x else m) → o ≡ (if wanted then cond same (Some y) x else m)
  left_step true true x m o y never rest = absurd (subst T (never refl) tt)
  left_step true false x m o y never rest = rest
  left_step false true x m o y never rest = rest
  left_step false false x m o y never rest = rest

  some_put : (test : List ℕ → Bool) (e : Place × A) (r m : Map A) (x : Option A) (q : List ℕ) (b : Bool) → test (key_of e.0) ≡ b → get q r ≡ (if test q then x else get q m)
      → get q (if b then put (key_of e.0) e.1 r else r) ≡ (if test q then cond (is_key q (key_of e.0)) (Some e.1) x else get q m)
  some_put test e r m x q true is rest =
      get-put r (key_of e.0) e.1 q ∙ put_step (is_key q (key_of e.0)) (test q) x (get q m) (get q r) e.1 (λ same. ap test (same_keys q (key_of e.0) same) ∙ is) rest
  some_put test e r m x q false is rest = left_step (is_key q (key_of e.0)) (test q) x (get q m) (get q r) e.1 (λ same. ap test (same_keys q (key_of e.0) same) ∙ is) rest

  none_there : (b : Bool) (o : Option A) → (b ≡ true → o ≡ None) → o ≡ (if b then None else o)
  none_there true o none = none refl
  none_there false o none = refl

  tokens_put : (test : List ℕ → Bool) (es : List (Place × A)) (m : Map A) → ((q : List ℕ) → test q ≡ true → get q m ≡ None) → (q : List ℕ) → get q (with_tokens test es m) ≡ (if test q then get q (by_place es) else get q m)
  unfolding by_place
  tokens_put test [] m none q = none_there (test q) (get q m) (none q)
  tokens_put test (e ∷ es) m none q =
      some_put test e (with_tokens test es m) m (get q (by_place es)) q (test (key_of e.0)) refl (tokens_put test es m none q)
      ∙ ap (λ z. if test q then z else get q m) (sym (get-put (by_place es) (key_of e.0) e.1 q))

  none_yet : (b : Bool) (x : Option A) → b ≡ true → (if not b then x else None) ≡ None
  none_yet true x is = refl
  none_yet false x is = absurd (subst T (sym is) tt)

  both_ways : (b : Bool) (x y : Option A) → (if b then x else (if not b then y else None)) ≡ (if b then x else y)
  both_ways true x y = refl
  both_ways false x y = refl

  -- the tokens of two lists, of each those at its keys
  pub tokens_joined : (test : List ℕ → Bool) (from old : List (Place × A)) (first both : Map A) → first ≡ with_tokens (λ q. not (test q)) old empty → both ≡ with_tokens test from first → both ≡ joined test (by_place from) (by_place old)
  tokens_joined test from old first both one two =
      let half : (q : List ℕ) → get q first ≡ (if not (test q) then get q (by_place old) else None) = λ q. ap (get q) one ∙ tokens_put (λ q. not (test q)) old empty (λ q w. refl) q in
      is_joined test (by_place from) (by_place old) both (λ q.
      ap (get q) two
      ∙ tokens_put test from first (λ q w. half q ∙ none_yet (test q) (get q (by_place old)) w) q
      ∙ ap (λ z. if test q then get q (by_place from) else z) (half q)
      ∙ both_ways (test q) (get q (by_place from)) (get q (by_place old)))

  pub tokens_copied : (test : List ℕ → Bool) (old : List (Place × A)) (both : Map A) → ((q : List ℕ) → test q ≡ false) → both ≡ with_tokens (λ q. not (test q)) old empty → both ≡ by_place old
  tokens_copied test old both never one = same_map _ _ (λ q.
      ap (get q) one ∙ tokens_put (λ q. not (test q)) old empty (λ q w. refl) q ∙ ap (λ b. if not b then get q (by_place old) else None) (never q))

-- ------------------------------------------------------------ a part of each token

module _ {A B : Type 0} (part : A → B) where
  part_step : (b : Bool) (x y : Option A) → option_map part (if b then x else y) ≡ (if b then option_map part x else option_map part y)
  part_step true x y = refl
  part_step false x y = refl

  pub parts_joined : (test : List ℕ → Bool) (from old new : List (Place × A)) → by_place new ≡ joined test (by_place from) (by_place old) → by_place (parts_of part new) ≡ joined test (by_place (parts_of part from)) (by_place (parts_of part old))
  parts_joined test from old new is = is_joined test (by_place (parts_of part from)) (by_place (parts_of part old)) (by_place (parts_of part new)) (λ q.
      get-parts part new q ∙ ap (λ m. option_map part (get q m)) is ∙ ap (option_map part) (get-joined test (by_place from) (by_place old) q)
      ∙ part_step (test q) (get q (by_place from)) (get q (by_place old))
      ∙ sym (λ i. if test q then get-parts part from q i else get-parts part old q i))

  pub parts_copied : (old new : List (Place × A)) → by_place new ≡ by_place old → by_place (parts_of part new) ≡ by_place (parts_of part old)
  parts_copied old new is = same_map _ _ (λ q. get-parts part new q ∙ ap (λ m. option_map part (get q m)) is ∙ sym (get-parts part old q))

  pub parts_all_placed : (es : List (Place × A)) → ArePlaced es → ArePlaced (parts_of part es)
  parts_all_placed [] all = tt
  parts_all_placed (e ∷ es) all = (all.0, parts_all_placed es all.1)

-- ------------------------------------------------------------ whole tables

pub tables_grafted : (spots : List Spot) (from s new : Tables) → new.variables.content ≡ joined (λ key. list_any (is_variable_at key) spots) from.variables.content s.variables.content
    → new.entries.content ≡ joined (λ key. list_any (is_entry_at key) spots) from.entries.content s.entries.content
    → by_place new.fungibles.entries ≡ joined (λ key. list_any (is_token_at key) spots) (by_place from.fungibles.entries) (by_place s.fungibles.entries)
    → by_place new.nonfungibles.entries ≡ joined (λ key. list_any (is_token_at key) spots) (by_place from.nonfungibles.entries) (by_place s.nonfungibles.entries)
    → new.stx.ledger ≡ (if list_any is_stx spots then from.stx.ledger else s.stx.ledger) → state_of (held_in new) ≡ grafted spots (state_of (held_in from)) (state_of (held_in s))
tables_grafted spots from s new variables entries fungibles nonfungibles stx =
    let test : List ℕ → Bool = λ key. list_any (is_token_at key) spots in
    let ledgers = parts_joined (λ (l : LedgerHeld). l.ledger) test from.fungibles.entries s.fungibles.entries new.fungibles.entries fungibles in
    let owners = parts_joined (λ (l : Owned). l.owners) test from.nonfungibles.entries s.nonfungibles.entries new.nonfungibles.entries nonfungibles in
    λ i. record { variables = variables i; entries = entries i; fungibles = ledgers i; nonfungibles = owners i; stx = stx i; events = []; moves = [] }

pub tables_copied : (s new : Tables) → new.variables ≡ s.variables → new.entries ≡ s.entries → by_place new.fungibles.entries ≡ by_place s.fungibles.entries → by_place new.nonfungibles.entries ≡ by_place s.nonfungibles.entries
    → new.stx ≡ s.stx → state_of (held_in new) ≡ state_of (held_in s)
tables_copied s new variables entries fungibles nonfungibles stx =
    let ledgers = parts_copied (λ (l : LedgerHeld). l.ledger) s.fungibles.entries new.fungibles.entries fungibles in
    let owners = parts_copied (λ (l : Owned). l.owners) s.nonfungibles.entries new.nonfungibles.entries nonfungibles in
    λ i. record { variables = (variables i).content; entries = (entries i).content; fungibles = ledgers i; nonfungibles = owners i; stx = (stx i).ledger; events = []; moves = [] }

pub ledgers_placed : (es : List (Place × LedgerHeld)) → ArePlaced es → ArePlaced (ledgers_of es)
ledgers_placed es all = parts_all_placed (λ (l : LedgerHeld). l.ledger) es all

pub owners_placed : (es : List (Place × Owned)) → ArePlaced es → ArePlaced (owners_of es)
owners_placed es all = parts_all_placed (λ (l : Owned). l.owners) es all

held_either : (b : Bool) (x y : Ledger) → AreHeld x → AreHeld y → AreHeld (if b then x else y)
held_either true x y p r = p
held_either false x y p r = r

pub grafted_spelled : (spots : List Spot) (from s : State) → IsSpelled from → IsSpelled s → IsSpelled (grafted spots from s)
grafted_spelled spots from s p r = record {
  entries = each_joined (λ key v. IsSpot key) (λ key. list_any (is_entry_at key) spots) from.entries s.entries p.entries r.entries;
  fungibles = each_joined (λ key l. AreHeld l) (λ key. list_any (is_token_at key) spots) from.fungibles s.fungibles p.fungibles r.fungibles;
  nonfungibles = each_joined (λ key m. AreOwned m) (λ key. list_any (is_token_at key) spots) from.nonfungibles s.nonfungibles p.nonfungibles r.nonfungibles;
  stx = held_either (list_any is_stx spots) from.stx s.stx p.stx r.stx;
}

pub grafted_sound : (spots : List Spot) (from s new : Held) → IsSound from → IsSound s → state_of new ≡ grafted spots (state_of from) (state_of s) → ArePlaced new.fungibles → ArePlaced new.nonfungibles → IsSound new
grafted_sound spots from s new p r is fungibles nonfungibles = record {
  variables = subst (Each (λ key v. IsPlaceKey key)) (sym (ap (λ (t : State). t.variables) is)) (each_joined (λ key v. IsPlaceKey key) (λ key. list_any (is_variable_at key) spots) from.variables s.variables p.variables r.variables);
  fungibles = fungibles;
  nonfungibles = nonfungibles;
  spelled = subst IsSpelled (sym is) (grafted_spelled spots (state_of from) (state_of s) p.spelled r.spelled);
}

pub copied_sound : (s new : Held) → IsSound s → state_of new ≡ state_of s → ArePlaced new.fungibles → ArePlaced new.nonfungibles → IsSound new
copied_sound s new r is fungibles nonfungibles = record {
  variables = subst (Each (λ key v. IsPlaceKey key)) (sym (ap (λ (t : State). t.variables) is)) r.variables;
  fungibles = fungibles;
  nonfungibles = nonfungibles;
  spelled = subst IsSpelled (sym is) r.spelled;
}

-- ------------------------------------------------------------ spots of other kinds

pub not_variable : (s : Spot) → ((at : Place) → s ≡ Variable at → ⊥) → (q : List ℕ) → is_variable_at q s ≡ false
not_variable (Variable at) h q = absurd (h at refl)
not_variable (MapOf at) h q = refl
not_variable (Token at) h q = refl
not_variable Stx h q = refl
