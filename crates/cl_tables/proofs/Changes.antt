-- What each change of a table is to all tables.
use Rattle.std.proofs.Common.{◌≡◌, refl, sym, ap, subst, ◌∙◌, ℕ, ◌+◌, ◌<◌, List, [], ◌∷◌, ◌++◌, length, arith}
use Rattle.std.specs.Prelude.{Option, Some, None, Result, Ok, Err}
use Rattle.std.proofs.lemmas.List.{length-map, map-append, length-append}
use Rattle.std.specs.Result.{IsErrAnd}
use Rattle.std.proofs.lemmas.Result.{err_from_is_err_and}
use Rattle.indexmap.specs.Layout.{set_value_at, length-set_value_at}
use Rattle.cl_types.specs.declared.fault.Fault.{Fault}
use Rattle.cl_types.specs.declared.fault.Fault.TheVariants.{Refused, NoMemory}
use Rattle.cl_values.specs.Tree.{Tree}
use Rattle.cl_maps.specs.Maps.{empty, get, put, with_value}
use Rattle.cl_maps.proofs.MapLaws.{undone_write}
use Rattle.cl_tokens.specs.Table.{Shelf, HasRoom}
use Rattle.cl_tokens.specs.declared.refusal.TokenRefusal.{TokenRefusal}
use Rattle.cl_tokens.specs.declared.act.Act.{Act}
use Rattle.cl_tokens.specs.declared.act.AssetAct.{AssetAct}
use Rattle.cl_tokens.specs.Ledger.{Ledger, Held as LedgerHeld, no_tokens}
use Rattle.cl_tokens.specs.Owners.{Owners, Owned}
use Rattle.cl_tokens.specs.Deeds.{done, undone as act_undone, HasGiver}
use Rattle.cl_tokens.specs.AssetDeeds.{done as asset_done}
use Rattle.cl_events.specs.State.{State, with_fungibles, with_nonfungibles, with_stx}
use Rattle.cl_events.specs.Acts.{Acted, replaced, on_stx, on_ledger, on_owners}
use Rattle.cl_tables.specs.declared.place.Place.{Place}
use Rattle.cl_tables.specs.declared.note.Note.{Note}
use Rattle.cl_tables.specs.declared.note.Note.TheVariants.{Variable, Entry, Stx, Fungible, Asset, FungibleDefined, NonFungibleDefined}
use Rattle.cl_tables.specs.Variables.{IsPlace, key_of, IsPlaceKey}
use Rattle.cl_tables.specs.Spelled.{IsSpot, Each, IsSpelled}
use Rattle.cl_tables.proofs.Spelled.{each_put, each_with}
use Rattle.cl_tables.specs.Numbered.{by_place, value_at, IsNumber, ArePlaced, but_last, ledgers_of, owners_of, no_ledger, no_owners}
use Rattle.cl_tables.specs.Notes.{Held, state_of, Rooms, room_at, Keeps, Serves, IsSound, Gives, IsRefusedBy, fungibles_in, nonfungibles_in}
use Rattle.cl_tables.specs.Tables.{IsChange, IsAsBefore}
use Rattle.cl_tables.proofs.Numbered.{number_found, number_changed, one_more, but_the_last, placed_set, placed_more, changed_back, set_same, parts_set, parts_at, parts_numbered, rooms_of, room_is, rooms_set, rooms_more}

-- ------------------------------------------------------------ room

pub same_rooms : (r : Rooms) → Serves 0 0 0 0 r r
same_rooms r = record {
  variables = λ q h. h;
  entries = λ q h. h;
  stx = λ q h. h;
  fungibles = omega arith;
  nonfungibles = omega arith;
  holders = λ i a b q h. h;
  assets = λ i a b q h. h;
}

variables_serve : (r : Rooms) (new : List (List ℕ)) → Keeps r.variables new → Serves 0 0 0 0 r (record r { variables = new })
variables_serve r new keeps = record {
  variables = keeps;
  entries = λ q h. h;
  stx = λ q h. h;
  fungibles = omega arith;
  nonfungibles = omega arith;
  holders = λ i a b q h. h;
  assets = λ i a b q h. h;
}

entries_serve : (r : Rooms) (new : List (List ℕ)) → Keeps r.entries new → Serves 0 0 0 0 r (record r { entries = new })
entries_serve r new keeps = record {
  variables = λ q h. h;
  entries = keeps;
  stx = λ q h. h;
  fungibles = omega arith;
  nonfungibles = omega arith;
  holders = λ i a b q h. h;
  assets = λ i a b q h. h;
}

stx_serves : (r : Rooms) (new : List (List ℕ)) → Keeps r.stx new → Serves 0 0 0 0 r (record r { stx = new })
stx_serves r new keeps = record {
  variables = λ q h. h;
  entries = λ q h. h;
  stx = keeps;
  fungibles = omega arith;
  nonfungibles = omega arith;
  holders = λ i a b q h. h;
  assets = λ i a b q h. h;
}

pub kept_room : (old new : List (List ℕ)) → new ≡ old → Keeps old new
kept_room old new is q h = subst (λ r. HasRoom r q) (sym is) h

-- ------------------------------------------------------------ a variable

pub variable_change : (h : Held) (r : Rooms) (s : Shelf Tree) (key : List ℕ) (b : Option Tree) (v : Tree) → IsSound h → IsPlaceKey key → b ≡ get key h.variables → s.content ≡ put key v h.variables
    → HasRoom s.room key → Keeps r.variables s.room → IsChange (Variable key b) h (record h { variables = s.content }) r (record r { variables = s.room })
variable_change h r s key b v sound at was done ready keeps =
    let back : with_value key b s.content ≡ h.variables = (λ i. with_value key (was i) (done i)) ∙ undone_write h.variables key (Some v) in
    record {
      back = λ i. record h { variables = back i };
      ready = (ready, at);
      rooms = variables_serve r s.room keeps;
      sound = record {
        variables = subst (λ m. Each (λ k x. IsPlaceKey k) m) (sym done) (each_put (λ k x. IsPlaceKey k) h.variables key v sound.variables at);
        fungibles = sound.fungibles;
        nonfungibles = sound.nonfungibles;
        spelled = record { entries = sound.spelled.entries; fungibles = sound.spelled.fungibles; nonfungibles = sound.spelled.nonfungibles; stx = sound.spelled.stx };
      };
    }

pub variable_same : (h : Held) (r : Rooms) (s : Shelf Tree) → s.content ≡ h.variables → Keeps r.variables s.room → IsAsBefore h (record h { variables = s.content }) r (record r { variables = s.room })
variable_same h r s is keeps = record { held = λ i. record h { variables = is i }; rooms = variables_serve r s.room keeps }

-- ------------------------------------------------------------ an entry

pub entry_change : (h : Held) (r : Rooms) (s : Shelf Tree) (key : List ℕ) (b o : Option Tree) → IsSound h → IsSpot key → b ≡ get key h.entries → s.content ≡ with_value key o h.entries
    → HasRoom s.room key → Keeps r.entries s.room → IsChange (Entry key b) h (record h { entries = s.content }) r (record r { entries = s.room })
entry_change h r s key b o sound at was done ready keeps =
    let back : with_value key b s.content ≡ h.entries = (λ i. with_value key (was i) (done i)) ∙ undone_write h.entries key o in
    record {
      back = λ i. record h { entries = back i };
      ready = (ready, at);
      rooms = entries_serve r s.room keeps;
      sound = record {
        variables = sound.variables;
        fungibles = sound.fungibles;
        nonfungibles = sound.nonfungibles;
        spelled = record {
          entries = subst (λ m. Each (λ k v. IsSpot k) m) (sym done) (each_with (λ k v. IsSpot k) h.entries key o sound.spelled.entries (λ v. at));
          fungibles = sound.spelled.fungibles;
          nonfungibles = sound.spelled.nonfungibles;
          stx = sound.spelled.stx;
        };
      };
    }

pub entry_same : (h : Held) (r : Rooms) (s : Shelf Tree) → s.content ≡ h.entries → Keeps r.entries s.room → IsAsBefore h (record h { entries = s.content }) r (record r { entries = s.room })
entry_same h r s is keeps = record { held = λ i. record h { entries = is i }; rooms = entries_serve r s.room keeps }

-- ------------------------------------------------------------ STX

pub stx_change : (h : Held) (r : Rooms) (x : LedgerHeld) (act : Act) → IsSound h → IsSpelled (state_of (record h { stx = x.ledger })) → act_undone act x.ledger ≡ h.stx → HasGiver x.room act → Keeps r.stx x.room
    → IsChange (Stx act) h (record h { stx = x.ledger }) r (record r { stx = x.room })
stx_change h r x act sound spelled back ready keeps = record {
  back = λ i. record h { stx = back i };
  ready = ready;
  rooms = stx_serves r x.room keeps;
  sound = record { variables = sound.variables; fungibles = sound.fungibles; nonfungibles = sound.nonfungibles; spelled = spelled };
}

pub stx_gives : (s : State) (act : Act) (l : Ledger) → done act s.stx ≡ Ok l → on_stx (done act) s ≡ Some (Ok (with_stx l s))
stx_gives s act l is = ap (replaced (λ m. with_stx m s)) is

-- what a refusal of a part is to the whole
part_refused : (A B : Type 0) {P : Type 0} (put_back : P → State) (meant : Result P TokenRefusal) (f : Fault TokenRefusal) (t : State) → IsRefusedBy {A = B} meant (Err f) → Gives {A = A} (replaced put_back meant) (Err f) t
part_refused A B put_back meant (Refused x) t is = ap (replaced put_back) is
part_refused A B put_back meant NoMemory t is = tt

pub refused_gives : {A : Type 0} (meant : Acted) (f : Fault TokenRefusal) (r : Result A (Fault TokenRefusal)) (t : State) → Gives {A = A} meant (Err f) t → IsErrAnd r (λ y. y ≡ f) → Gives {A = A} meant r t
refused_gives {A} meant f r t gives is =
    let gave = err_from_is_err_and r is in
    subst (λ (x : Result A (Fault TokenRefusal)). Gives {A = A} meant x t) (sym (gave.1 ∙ ap Err gave.2)) gives

-- ------------------------------------------------------------ an act on a token

-- the list of the tokens' ledgers after an act
pub ledger_set : (es new : List (Place × LedgerHeld)) (i : ℕ) (v : LedgerHeld) → new ≡ set_value_at es i v → ledgers_of new ≡ set_value_at (ledgers_of es) i v.ledger
ledger_set es new i v is = ap ledgers_of is ∙ parts_set (λ (h : LedgerHeld). h.ledger) es i v

pub owners_set : (es new : List (Place × Owned)) (i : ℕ) (v : Owned) → new ≡ set_value_at es i v → owners_of new ≡ set_value_at (owners_of es) i v.owners
owners_set es new i v is = ap owners_of is ∙ parts_set (λ (h : Owned). h.owners) es i v

module _ {A : Type 0} (room : A → List (List ℕ)) (none : A) where
  same_length : (es new : List (Place × A)) (i : ℕ) (v : A) → new ≡ set_value_at es i v → length (rooms_of room new) ≡ length (rooms_of room es)
  same_length es new i v is = ap (λ xs. length (rooms_of room xs)) is ∙ length-map (set_value_at es i v) (λ e. room e.1) ∙ length-set_value_at es i v ∙ sym (length-map es (λ e. room e.1))

  each_kept : (es new : List (Place × A)) (i : ℕ) (v : A) → new ≡ set_value_at es i v → Keeps (room (value_at none es i)) (room v) → (j : ℕ) → Keeps (room_at (rooms_of room es) j) (room_at (rooms_of room new) j)
  each_kept es new i v is keeps j = subst (λ xs. Keeps (room_at (rooms_of room es) j) (room_at (rooms_of room xs) j)) (sym is) (rooms_set room none v es i keeps j)

  below_rooms : (es new : List (Place × A)) (i : ℕ) (v : A) → new ≡ set_value_at es i v → i < length es → i + 0 < length (rooms_of room new)
  below_rooms es new i v is low = let same = same_length es new i v is in let all = length-map es (λ e. room e.1) in omega (arith, low, same, all)

  one_longer : (es new : List (Place × A)) (e : Place × A) → new ≡ es ++ e ∷ [] → length (rooms_of room new) ≡ length (rooms_of room es) + 1
  one_longer es new e is =
      let longer = length-append es (e ∷ []) in
      let sizes = length-map new (λ e. room e.1) in
      let size = length-map es (λ e. room e.1) in
      let total = ap length is in
      omega (arith, longer, sizes, size, total)

  each_stays : (es new : List (Place × A)) (e : Place × A) → new ≡ es ++ e ∷ [] → (j : ℕ) → j < length (rooms_of room es) → room_at (rooms_of room new) j ≡ room_at (rooms_of room es) j
  each_stays es new e is j low = let size = length-map es (λ e. room e.1) in ap (λ xs. room_at (rooms_of room xs) j) is ∙ rooms_more room es e j (omega (arith, low, size))

abbrev ledger_room : LedgerHeld → List (List ℕ)
ledger_room h = h.room

abbrev owned_room : Owned → List (List ℕ)
owned_room h = h.room

pub fungible_change : (h : Held) (r : Rooms) (es new : List (Place × LedgerHeld)) (i : ℕ) (act : Act) → IsSound (record h { fungibles = ledgers_of es }) → IsSpelled (state_of (record h { fungibles = ledgers_of new })) → i < length es
    → new ≡ set_value_at es i (value_at no_ledger new i) → act_undone act (value_at no_ledger new i).ledger ≡ (value_at no_ledger es i).ledger
    → HasGiver (value_at no_ledger new i).room act → Keeps (value_at no_ledger es i).room (value_at no_ledger new i).room
    → IsChange (Fungible i act) (record h { fungibles = ledgers_of es }) (record h { fungibles = ledgers_of new }) (record r { fungibles = rooms_of ledger_room es }) (record r { fungibles = rooms_of ledger_room new })
fungible_change h r es new i act sound spelled low is back giver keeps =
    let v = value_at no_ledger new i in
    let set = ledger_set es new i v is in
    let size = length-map {B = Place × Ledger} es (λ (e : Place × LedgerHeld). (e.0, e.1.ledger)) in
    let undone_back : set_value_at (ledgers_of new) i (act_undone act (value_at (no_tokens None) (ledgers_of new) i)) ≡ ledgers_of es =
    changed_back (no_tokens None) v.ledger (act_undone act) (ledgers_of es) (ledgers_of new) i (omega (arith, low, size)) set (back ∙ sym (parts_at (λ (h : LedgerHeld). h.ledger) no_ledger es i)) in
    let same = same_length ledger_room no_ledger es new i v is in
    record {
      back = λ j. record h { fungibles = undone_back j };
      ready = (below_rooms ledger_room no_ledger es new i v is low, subst (λ rs. HasGiver rs act) (sym (room_is ledger_room no_ledger refl new i)) giver);
      rooms = record {
        variables = λ q h. h;
        entries = λ q h. h;
        stx = λ q h. h;
        fungibles = omega (arith, same);
        nonfungibles = omega arith;
        holders = λ j a b. each_kept ledger_room no_ledger es new i v is keeps j;
        assets = λ j a b q h. h;
      };
      sound = record {
        variables = sound.variables;
        fungibles = subst ArePlaced (sym set) (placed_set v.ledger (ledgers_of es) i sound.fungibles);
        nonfungibles = sound.nonfungibles;
        spelled = spelled;
      };
    }

pub fungible_same : (h : Held) (r : Rooms) (es new : List (Place × LedgerHeld)) (i : ℕ) → new ≡ set_value_at es i (value_at no_ledger new i) → (value_at no_ledger new i).ledger ≡ (value_at no_ledger es i).ledger
    → Keeps (value_at no_ledger es i).room (value_at no_ledger new i).room
    → IsAsBefore (record h { fungibles = ledgers_of es }) (record h { fungibles = ledgers_of new }) (record r { fungibles = rooms_of ledger_room es }) (record r { fungibles = rooms_of ledger_room new })
fungible_same h r es new i is same keeps =
    let v = value_at no_ledger new i in
    let size = same_length ledger_room no_ledger es new i v is in
    let held : ledgers_of new ≡ ledgers_of es = ledger_set es new i v is ∙ ap (set_value_at (ledgers_of es) i) (same ∙ sym (parts_at (λ (h : LedgerHeld). h.ledger) no_ledger es i)) ∙ set_same (no_tokens None) (ledgers_of es) i in
    record {
      held = λ j. record h { fungibles = held j };
      rooms = record {
        variables = λ q h. h;
        entries = λ q h. h;
        stx = λ q h. h;
        fungibles = omega (arith, size);
        nonfungibles = omega arith;
        holders = λ j a b. each_kept ledger_room no_ledger es new i v is keeps j;
        assets = λ j a b q h. h;
      };
    }

-- the ledger at a place, by its number
fungible_found : (h : Held) (es : List (Place × LedgerHeld)) (at : List ℕ) (i : ℕ) → IsNumber at es i → get at (by_place (ledgers_of es)) ≡ Some (value_at no_ledger es i).ledger
fungible_found h es at i n =
    number_found (no_tokens None) at (ledgers_of es) i (parts_numbered (λ (h : LedgerHeld). h.ledger) at es i n) ∙ ap Some (parts_at (λ (h : LedgerHeld). h.ledger) no_ledger es i)

-- a look-up that is found
ledger_there : (s : State) (at : List ℕ) (f : Ledger → Result Ledger TokenRefusal) (l : Ledger) → get at s.fungibles ≡ Some l → on_ledger at f s ≡ replaced (λ m. with_fungibles (put at m s.fungibles) s) (f l)
ledger_there s at f l is =
    let given : Option Ledger → Acted = λ o. elim o [ None ↦ None | Some l ↦ replaced (λ m. with_fungibles (put at m s.fungibles) s) (f l) ] in
    ap given is

pub fungible_gives : (h : Held) (es new : List (Place × LedgerHeld)) (at : List ℕ) (i : ℕ) (act : Act) → IsNumber at es i → new ≡ set_value_at es i (value_at no_ledger new i)
    → done act (value_at no_ledger es i).ledger ≡ Ok (value_at no_ledger new i).ledger → on_ledger at (done act) (state_of (record h { fungibles = ledgers_of es })) ≡ Some (Ok (state_of (record h { fungibles = ledgers_of new })))
fungible_gives h es new at i act n is gives =
    let v = value_at no_ledger new i in
    let s = state_of (record h { fungibles = ledgers_of es }) in
    ledger_there s at (done act) (value_at no_ledger es i).ledger (fungible_found h es at i n)
    ∙ ap (replaced (λ m. with_fungibles (put at m s.fungibles) s)) gives
    ∙ ap (λ m. Some (Ok (with_fungibles m s))) (sym (ap by_place (ledger_set es new i v is) ∙ number_changed at (ledgers_of es) i v.ledger (parts_numbered (λ (h : LedgerHeld). h.ledger) at es i n)))

pub fungible_refused : (A B : Type 0) (h : Held) (es : List (Place × LedgerHeld)) (at : List ℕ) (i : ℕ) (act : Act) (f : Fault TokenRefusal) (t : State) → IsNumber at es i → IsRefusedBy {A = B} (done act (value_at no_ledger es i).ledger) (Err f)
    → Gives {A = A} (on_ledger at (done act) (state_of (record h { fungibles = ledgers_of es }))) (Err f) t
fungible_refused A B h es at i act f t n is =
    let s = state_of (record h { fungibles = ledgers_of es }) in
    subst (λ (meant : Acted). Gives {A = A} meant (Err f) t) (sym (ledger_there s at (done act) (value_at no_ledger es i).ledger (fungible_found h es at i n)))
    (part_refused A B (λ m. with_fungibles (put at m s.fungibles) s) (done act (value_at no_ledger es i).ledger) f t is)

-- ------------------------------------------------------------ an act on an asset

pub asset_change : (h : Held) (r : Rooms) (es new : List (Place × Owned)) (i : ℕ) (id : List ℕ) (act : AssetAct) (owner : Option (List ℕ)) → IsSound (record h { nonfungibles = owners_of es }) → IsSpelled (state_of (record h { nonfungibles = owners_of new })) → i < length es
    → new ≡ set_value_at es i (value_at no_owners new i) → asset_done id act (value_at no_owners es i).owners ≡ Ok (value_at no_owners new i).owners
    → with_value id owner (value_at no_owners new i).owners ≡ (value_at no_owners es i).owners → HasRoom (value_at no_owners new i).room id → Keeps (value_at no_owners es i).room (value_at no_owners new i).room
    → IsChange (Asset i id owner) (record h { nonfungibles = owners_of es }) (record h { nonfungibles = owners_of new }) (record r { nonfungibles = rooms_of owned_room es }) (record r { nonfungibles = rooms_of owned_room new })
asset_change h r es new i id act owner sound spelled low is gives back slot keeps =
    let v = value_at no_owners new i in
    let set = owners_set es new i v is in
    let size = length-map {B = Place × Owners} es (λ (e : Place × Owned). (e.0, e.1.owners)) in
    let undone_back : set_value_at (owners_of new) i (with_value id owner (value_at empty (owners_of new) i)) ≡ owners_of es =
    changed_back empty v.owners (with_value id owner) (owners_of es) (owners_of new) i (omega (arith, low, size)) set (back ∙ sym (parts_at (λ (h : Owned). h.owners) no_owners es i)) in
    let same = same_length owned_room no_owners es new i v is in
    record {
      back = λ j. record h { nonfungibles = undone_back j };
      ready = (below_rooms owned_room no_owners es new i v is low, subst (λ rs. HasRoom rs id) (sym (room_is owned_room no_owners refl new i)) slot);
      rooms = record {
        variables = λ q h. h;
        entries = λ q h. h;
        stx = λ q h. h;
        fungibles = omega arith;
        nonfungibles = omega (arith, same);
        holders = λ j a b q h. h;
        assets = λ j a b. each_kept owned_room no_owners es new i v is keeps j;
      };
      sound = record {
        variables = sound.variables;
        fungibles = sound.fungibles;
        nonfungibles = subst ArePlaced (sym set) (placed_set v.owners (owners_of es) i sound.nonfungibles);
        spelled = spelled;
      };
    }

pub asset_same : (h : Held) (r : Rooms) (es new : List (Place × Owned)) (i : ℕ) → new ≡ set_value_at es i (value_at no_owners new i) → (value_at no_owners new i).owners ≡ (value_at no_owners es i).owners
    → Keeps (value_at no_owners es i).room (value_at no_owners new i).room
    → IsAsBefore (record h { nonfungibles = owners_of es }) (record h { nonfungibles = owners_of new }) (record r { nonfungibles = rooms_of owned_room es }) (record r { nonfungibles = rooms_of owned_room new })
asset_same h r es new i is same keeps =
    let v = value_at no_owners new i in
    let size = same_length owned_room no_owners es new i v is in
    let held : owners_of new ≡ owners_of es = owners_set es new i v is ∙ ap (set_value_at (owners_of es) i) (same ∙ sym (parts_at (λ (h : Owned). h.owners) no_owners es i)) ∙ set_same empty (owners_of es) i in
    record {
      held = λ j. record h { nonfungibles = held j };
      rooms = record {
        variables = λ q h. h;
        entries = λ q h. h;
        stx = λ q h. h;
        fungibles = omega arith;
        nonfungibles = omega (arith, size);
        holders = λ j a b q h. h;
        assets = λ j a b. each_kept owned_room no_owners es new i v is keeps j;
      };
    }

asset_found : (es : List (Place × Owned)) (at : List ℕ) (i : ℕ) → IsNumber at es i → get at (by_place (owners_of es)) ≡ Some (value_at no_owners es i).owners
asset_found es at i n =
    number_found empty at (owners_of es) i (parts_numbered (λ (h : Owned). h.owners) at es i n) ∙ ap Some (parts_at (λ (h : Owned). h.owners) no_owners es i)

owners_there : (s : State) (at : List ℕ) (f : Owners → Result Owners TokenRefusal) (l : Owners) → get at s.nonfungibles ≡ Some l → on_owners at f s ≡ replaced (λ m. with_nonfungibles (put at m s.nonfungibles) s) (f l)
owners_there s at f l is =
    let given : Option Owners → Acted = λ o. elim o [ None ↦ None | Some l ↦ replaced (λ m. with_nonfungibles (put at m s.nonfungibles) s) (f l) ] in
    ap given is

pub asset_gives : (h : Held) (es new : List (Place × Owned)) (at : List ℕ) (i : ℕ) (id : List ℕ) (act : AssetAct) → IsNumber at es i → new ≡ set_value_at es i (value_at no_owners new i)
    → asset_done id act (value_at no_owners es i).owners ≡ Ok (value_at no_owners new i).owners → on_owners at (asset_done id act) (state_of (record h { nonfungibles = owners_of es })) ≡ Some (Ok (state_of (record h { nonfungibles = owners_of new })))
asset_gives h es new at i id act n is gives =
    let v = value_at no_owners new i in
    let s = state_of (record h { nonfungibles = owners_of es }) in
    owners_there s at (asset_done id act) (value_at no_owners es i).owners (asset_found es at i n)
    ∙ ap (replaced (λ m. with_nonfungibles (put at m s.nonfungibles) s)) gives
    ∙ ap (λ m. Some (Ok (with_nonfungibles m s))) (sym (ap by_place (owners_set es new i v is) ∙ number_changed at (owners_of es) i v.owners (parts_numbered (λ (h : Owned). h.owners) at es i n)))

pub asset_refused : (A B : Type 0) (h : Held) (es : List (Place × Owned)) (at : List ℕ) (i : ℕ) (id : List ℕ) (act : AssetAct) (f : Fault TokenRefusal) (t : State) → IsNumber at es i → IsRefusedBy {A = B} (asset_done id act (value_at no_owners es i).owners) (Err f)
    → Gives {A = A} (on_owners at (asset_done id act) (state_of (record h { nonfungibles = owners_of es }))) (Err f) t
asset_refused A B h es at i id act f t n is =
    let s = state_of (record h { nonfungibles = owners_of es }) in
    subst (λ (meant : Acted). Gives {A = A} meant (Err f) t) (sym (owners_there s at (asset_done id act) (value_at no_owners es i).owners (asset_found es at i n)))
    (part_refused A B (λ m. with_nonfungibles (put at m s.nonfungibles) s) (asset_done id act (value_at no_owners es i).owners) f t is)

-- ------------------------------------------------------------ a token that is defined

pub fungible_defined : (h : Held) (r : Rooms) (es new : List (Place × LedgerHeld)) (at : Place) (l : LedgerHeld) → IsSound (record h { fungibles = ledgers_of es }) → IsSpelled (state_of (record h { fungibles = ledgers_of new })) → IsPlace at → new ≡ es ++ (at, l) ∷ []
    → IsChange FungibleDefined (record h { fungibles = ledgers_of es }) (record h { fungibles = ledgers_of new }) (record r { fungibles = rooms_of ledger_room es }) (record r { fungibles = rooms_of ledger_room new })
fungible_defined h r es new at l sound spelled real is =
    let ledgers : ledgers_of new ≡ ledgers_of es ++ (at, l.ledger) ∷ [] = ap ledgers_of is ∙ map-append {B = Place × Ledger} (λ (e : Place × LedgerHeld). (e.0, e.1.ledger)) es ((at, l) ∷ []) in
    let back : but_last (ledgers_of new) ≡ ledgers_of es = ap but_last ledgers ∙ but_the_last (ledgers_of es) (at, l.ledger) in
    let longer = one_longer ledger_room no_ledger es new (at, l) is in
    record {
      back = λ j. record h { fungibles = back j };
      ready = omega (arith, longer);
      rooms = record {
        variables = λ q h. h;
        entries = λ q h. h;
        stx = λ q h. h;
        fungibles = omega (arith, longer);
        nonfungibles = omega arith;
        holders = λ j a b. kept_room _ _ (each_stays ledger_room no_ledger es new (at, l) is j a);
        assets = λ j a b q h. h;
      };
      sound = record {
        variables = sound.variables;
        fungibles = subst ArePlaced (sym ledgers) (placed_more (ledgers_of es) at l.ledger sound.fungibles real);
        nonfungibles = sound.nonfungibles;
        spelled = spelled;
      };
    }

pub fungible_defined_state : (h : Held) (es new : List (Place × LedgerHeld)) (at : Place) (l : LedgerHeld) (ledger : Ledger) → get (key_of at) (by_place (ledgers_of es)) ≡ None → new ≡ es ++ (at, l) ∷ [] → l.ledger ≡ ledger
    → state_of (record h { fungibles = ledgers_of new }) ≡ with_fungibles (put (key_of at) ledger (by_place (ledgers_of es))) (state_of (record h { fungibles = ledgers_of es }))
fungible_defined_state h es new at l ledger none is same =
    let ledgers : ledgers_of new ≡ ledgers_of es ++ (at, l.ledger) ∷ [] = ap ledgers_of is ∙ map-append {B = Place × Ledger} (λ (e : Place × LedgerHeld). (e.0, e.1.ledger)) es ((at, l) ∷ []) in
    ap (λ m. with_fungibles m (state_of (record h { fungibles = ledgers_of es }))) (ap by_place ledgers ∙ one_more (ledgers_of es) at l.ledger none ∙ ap (λ x. put (key_of at) x (by_place (ledgers_of es))) same)

pub nonfungible_defined : (h : Held) (r : Rooms) (es new : List (Place × Owned)) (at : Place) (l : Owned) → IsSound (record h { nonfungibles = owners_of es }) → IsSpelled (state_of (record h { nonfungibles = owners_of new })) → IsPlace at → new ≡ es ++ (at, l) ∷ []
    → IsChange NonFungibleDefined (record h { nonfungibles = owners_of es }) (record h { nonfungibles = owners_of new }) (record r { nonfungibles = rooms_of owned_room es }) (record r { nonfungibles = rooms_of owned_room new })
nonfungible_defined h r es new at l sound spelled real is =
    let owners : owners_of new ≡ owners_of es ++ (at, l.owners) ∷ [] = ap owners_of is ∙ map-append {B = Place × Owners} (λ (e : Place × Owned). (e.0, e.1.owners)) es ((at, l) ∷ []) in
    let back : but_last (owners_of new) ≡ owners_of es = ap but_last owners ∙ but_the_last (owners_of es) (at, l.owners) in
    let longer = one_longer owned_room no_owners es new (at, l) is in
    record {
      back = λ j. record h { nonfungibles = back j };
      ready = omega (arith, longer);
      rooms = record {
        variables = λ q h. h;
        entries = λ q h. h;
        stx = λ q h. h;
        fungibles = omega arith;
        nonfungibles = omega (arith, longer);
        holders = λ j a b q h. h;
        assets = λ j a b. kept_room _ _ (each_stays owned_room no_owners es new (at, l) is j a);
      };
      sound = record {
        variables = sound.variables;
        fungibles = sound.fungibles;
        nonfungibles = subst ArePlaced (sym owners) (placed_more (owners_of es) at l.owners sound.nonfungibles real);
        spelled = spelled;
      };
    }

pub nonfungible_defined_state : (h : Held) (es new : List (Place × Owned)) (at : Place) (l : Owned) → get (key_of at) (by_place (owners_of es)) ≡ None → new ≡ es ++ (at, l) ∷ [] → l.owners ≡ empty
    → state_of (record h { nonfungibles = owners_of new }) ≡ with_nonfungibles (put (key_of at) empty (by_place (owners_of es))) (state_of (record h { nonfungibles = owners_of es }))
nonfungible_defined_state h es new at l none is same =
    let owners : owners_of new ≡ owners_of es ++ (at, l.owners) ∷ [] = ap owners_of is ∙ map-append {B = Place × Owners} (λ (e : Place × Owned). (e.0, e.1.owners)) es ((at, l) ∷ []) in
    ap (λ m. with_nonfungibles m (state_of (record h { nonfungibles = owners_of es }))) (ap by_place owners ∙ one_more (owners_of es) at l.owners none ∙ ap (λ x. put (key_of at) x (by_place (owners_of es))) same)

pub fungible_unchanged : (h : Held) (r : Rooms) (es new : List (Place × LedgerHeld)) → new ≡ es
    → IsAsBefore (record h { fungibles = ledgers_of es }) (record h { fungibles = ledgers_of new }) (record r { fungibles = rooms_of ledger_room es }) (record r { fungibles = rooms_of ledger_room new })
fungible_unchanged h r es new is =
    let P : List (Place × LedgerHeld) → Type 0 = λ xs. IsAsBefore (record h { fungibles = ledgers_of es }) (record h { fungibles = ledgers_of xs }) (record r { fungibles = rooms_of ledger_room es }) (record r { fungibles = rooms_of ledger_room xs }) in
    subst P (sym is) (record { held = refl; rooms = same_rooms (record r { fungibles = rooms_of ledger_room es }) })

pub nonfungible_unchanged : (h : Held) (r : Rooms) (es new : List (Place × Owned)) → new ≡ es
    → IsAsBefore (record h { nonfungibles = owners_of es }) (record h { nonfungibles = owners_of new }) (record r { nonfungibles = rooms_of owned_room es }) (record r { nonfungibles = rooms_of owned_room new })
nonfungible_unchanged h r es new is =
    let P : List (Place × Owned) → Type 0 = λ xs. IsAsBefore (record h { nonfungibles = owners_of es }) (record h { nonfungibles = owners_of xs }) (record r { nonfungibles = rooms_of owned_room es }) (record r { nonfungibles = rooms_of owned_room xs }) in
    subst P (sym is) (record { held = refl; rooms = same_rooms (record r { nonfungibles = rooms_of owned_room es }) })

-- ------------------------------------------------------------ a change that is undone

pub undone_rooms : (n m : Note) (r s : Rooms) → n ≡ m → Serves (fungibles_in m) (nonfungibles_in m) 0 0 r s → Serves (fungibles_in n) (nonfungibles_in n) 0 0 r s
undone_rooms n m r s is serves = subst (λ (x : Note). Serves (fungibles_in x) (nonfungibles_in x) 0 0 r s) (sym is) serves

pub giver_at : (es : List (Place × LedgerHeld)) (i : ℕ) (act : Act) → HasGiver (room_at (rooms_of ledger_room es) i) act → HasGiver (value_at no_ledger es i).room act
giver_at es i act has = subst (λ rs. HasGiver rs act) (room_is ledger_room no_ledger refl es i) has

pub slot_at : (es : List (Place × Owned)) (i : ℕ) (asset : List ℕ) → HasRoom (room_at (rooms_of owned_room es) i) asset → HasRoom (value_at no_owners es i).room asset
slot_at es i asset has = subst (λ rs. HasRoom rs asset) (room_is owned_room no_owners refl es i) has

pub ledger_undone_is : (es new : List (Place × LedgerHeld)) (i : ℕ) (act : Act) → new ≡ set_value_at es i (value_at no_ledger new i) → (value_at no_ledger new i).ledger ≡ act_undone act (value_at no_ledger es i).ledger
    → ledgers_of new ≡ set_value_at (ledgers_of es) i (act_undone act (value_at (no_tokens None) (ledgers_of es) i))
ledger_undone_is es new i act is back =
    ledger_set es new i (value_at no_ledger new i) is ∙ ap (set_value_at (ledgers_of es) i) (back ∙ ap (act_undone act) (sym (parts_at (λ (h : LedgerHeld). h.ledger) no_ledger es i)))

pub owners_undone_is : (es new : List (Place × Owned)) (i : ℕ) (asset : List ℕ) (owner : Option (List ℕ)) → new ≡ set_value_at es i (value_at no_owners new i) → (value_at no_owners new i).owners ≡ with_value asset owner (value_at no_owners es i).owners
    → owners_of new ≡ set_value_at (owners_of es) i (with_value asset owner (value_at empty (owners_of es) i))
owners_undone_is es new i asset owner is back =
    owners_set es new i (value_at no_owners new i) is ∙ ap (set_value_at (owners_of es) i) (back ∙ ap (with_value asset owner) (sym (parts_at (λ (h : Owned). h.owners) no_owners es i)))

pub ledger_undone_rooms : (r : Rooms) (es new : List (Place × LedgerHeld)) (i : ℕ) → new ≡ set_value_at es i (value_at no_ledger new i) → (value_at no_ledger new i).room ≡ (value_at no_ledger es i).room
    → Serves 0 0 0 0 (record r { fungibles = rooms_of ledger_room es }) (record r { fungibles = rooms_of ledger_room new })
ledger_undone_rooms r es new i is same =
    let v = value_at no_ledger new i in
    let size = same_length ledger_room no_ledger es new i v is in
    record {
      variables = λ q h. h;
      entries = λ q h. h;
      stx = λ q h. h;
      fungibles = omega (arith, size);
      nonfungibles = omega arith;
      holders = λ j a b. each_kept ledger_room no_ledger es new i v is (kept_room (value_at no_ledger es i).room v.room same) j;
      assets = λ j a b q h. h;
    }

pub owners_undone_rooms : (r : Rooms) (es new : List (Place × Owned)) (i : ℕ) → new ≡ set_value_at es i (value_at no_owners new i) → (value_at no_owners new i).room ≡ (value_at no_owners es i).room
    → Serves 0 0 0 0 (record r { nonfungibles = rooms_of owned_room es }) (record r { nonfungibles = rooms_of owned_room new })
owners_undone_rooms r es new i is same =
    let v = value_at no_owners new i in
    let size = same_length owned_room no_owners es new i v is in
    record {
      variables = λ q h. h;
      entries = λ q h. h;
      stx = λ q h. h;
      fungibles = omega arith;
      nonfungibles = omega (arith, size);
      holders = λ j a b q h. h;
      assets = λ j a b. each_kept owned_room no_owners es new i v is (kept_room (value_at no_owners es i).room v.room same) j;
    }

pub ledgers_cut : (es new : List (Place × LedgerHeld)) (e : Place × LedgerHeld) → es ≡ new ++ e ∷ [] → ledgers_of new ≡ but_last (ledgers_of es)
ledgers_cut es new e is =
    sym (ap (λ xs. but_last (ledgers_of xs)) is ∙ ap but_last (map-append {B = Place × Ledger} (λ (x : Place × LedgerHeld). (x.0, x.1.ledger)) new (e ∷ [])) ∙ but_the_last (ledgers_of new) (e.0, e.1.ledger))

pub owners_cut : (es new : List (Place × Owned)) (e : Place × Owned) → es ≡ new ++ e ∷ [] → owners_of new ≡ but_last (owners_of es)
owners_cut es new e is =
    sym (ap (λ xs. but_last (owners_of xs)) is ∙ ap but_last (map-append {B = Place × Owners} (λ (x : Place × Owned). (x.0, x.1.owners)) new (e ∷ [])) ∙ but_the_last (owners_of new) (e.0, e.1.owners))

pub ledgers_cut_rooms : (r : Rooms) (es new : List (Place × LedgerHeld)) (e : Place × LedgerHeld) → es ≡ new ++ e ∷ [] → Serves 1 0 0 0 (record r { fungibles = rooms_of ledger_room es }) (record r { fungibles = rooms_of ledger_room new })
ledgers_cut_rooms r es new e is =
    let longer = one_longer ledger_room no_ledger new es e is in
    record {
      variables = λ q h. h;
      entries = λ q h. h;
      stx = λ q h. h;
      fungibles = omega (arith, longer);
      nonfungibles = omega arith;
      holders = λ j a b. kept_room _ _ (sym (each_stays ledger_room no_ledger new es e is j b));
      assets = λ j a b q h. h;
    }

pub owners_cut_rooms : (r : Rooms) (es new : List (Place × Owned)) (e : Place × Owned) → es ≡ new ++ e ∷ [] → Serves 0 1 0 0 (record r { nonfungibles = rooms_of owned_room es }) (record r { nonfungibles = rooms_of owned_room new })
owners_cut_rooms r es new e is =
    let longer = one_longer owned_room no_owners new es e is in
    record {
      variables = λ q h. h;
      entries = λ q h. h;
      stx = λ q h. h;
      fungibles = omega arith;
      nonfungibles = omega (arith, longer);
      holders = λ j a b q h. h;
      assets = λ j a b. kept_room _ _ (sym (each_stays owned_room no_owners new es e is j b));
    }
