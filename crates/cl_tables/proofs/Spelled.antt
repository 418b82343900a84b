-- Changes keep that each key spells what it is the key of.
use Rattle.std.proofs.Common.{◌≡◌, refl, sym, ap, subst, ◌∙◌, ℕ, ◌<◌, ◌≤◌, List, [], ◌∷◌, length, drop, get_or, arith}
use Rattle.std.specs.Prelude.{T, ◌+◌, ◌-◌, ◌==◌, Bool, true, false, cond, nat_lt, if◌then◌else◌, Option, Some, None, Result, Ok, Err, is_ok, IfOk}
use Rattle.std.proofs.lemmas.List.{drop_more}
use Rattle.std.proofs.lemmas.Option.{none-some}
use Rattle.cl_c32.specs.declared.principal.Principal.{Principal}
use Rattle.cl_maps.specs.Maps.{Map, empty, get, put, without, with_value}
use Rattle.cl_maps.proofs.MapLaws.{get-put, get-without, same_keys}
use Rattle.cl_tokens.specs.Table.{is_key}
use Rattle.cl_tokens.specs.declared.refusal.TokenRefusal.{TokenRefusal}
use Rattle.cl_tokens.specs.declared.refusal.TokenRefusal.TheVariants.{Code, SupplyOverflow}
use Rattle.cl_tokens.specs.declared.act.Act.{Act}
use Rattle.cl_tokens.specs.declared.act.Act.TheVariants.{Mint, Transfer, Burn}
use Rattle.cl_tokens.specs.declared.act.AssetAct.{AssetAct}
use Rattle.cl_tokens.specs.declared.act.AssetAct.TheVariants as asset
use Rattle.cl_tokens.specs.Ledger.{Ledger, most_of, balance, positive, with_balance, minted, sent, burnt, no_tokens}
use Rattle.cl_tokens.specs.Owners.{Owners}
use Rattle.cl_tokens.specs.Deeds.{done}
use Rattle.cl_tokens.specs.AssetDeeds.{done as asset_done}
use Rattle.cl_tokens.proofs.Balances.{empty_kept}
use Rattle.cl_tokens.proofs.Acts.{minted_sound, sent_sound, burnt_sound}
use Rattle.cl_tokens.proofs.AssetBacks.{minted_gives, sent_gives, burnt_gives}
use Rattle.cl_events.specs.State.{State, holder, holdings, or_as_before, with_fungibles, with_nonfungibles, with_stx}
use Rattle.cl_events.specs.Acts.{Acted, replaced}
use Rattle.cl_tables.specs.declared.deed.Deed.{Deed}
use Rattle.cl_tables.specs.declared.deed.Deed.TheVariants.{OnStx, OnFungible, OnAsset}
use Rattle.cl_values.specs.Tree.{Tree}
use Rattle.cl_tables.specs.declared.place.Place.{Place}
use Rattle.cl_tables.specs.Variables.{key_of}
use Rattle.cl_tables.specs.Numbered.{by_place}
use Rattle.cl_tables.proofs.Numbered.{by_place_none}
use Rattle.cl_tables.specs.Deeds.{deed_done, AreHolders, GivesToHolder, IsSoundDeed}
use Rattle.cl_tables.specs.Spelled.{IsHolder, IsSpot, IsAsset, Each, AreHeld, AreOwned, IsSpelled}

-- ------------------------------------------------------------ maps

module _ {A : Type 0} (P : List ℕ → A → Type 0) where
  put_step : (key q : List ℕ) (v a : A) (o : Option A) (b : Bool) → is_key q key ≡ b → P key v → (o ≡ Some a → P q a) → cond b (Some v) o ≡ Some a → P q a
  put_step key q v a o true same new old is = subst (λ k. P k a) (sym (same_keys q key same)) (subst (λ x. P key x) (cc) new)
  put_step key q v a o false other new old is = old is

  pub each_put : (m : Map A) (key : List ℕ) (v : A) → Each P m → P key v → Each P (put key v m)
  each_put m key v all new q a is = put_step key q v a (get q m) (is_key q key) refl new (all q a) (sym (get-put m key v q) ∙ is)

  without_step : (q : List ℕ) (a : A) (o : Option A) (b : Bool) → (o ≡ Some a → P q a) → cond b None o ≡ Some a → P q a
  without_step q a o true old is = absurd (none-some a is)
  without_step q a o false old is = old is

  each_without : (m : Map A) (key : List ℕ) → Each P m → Each P (without key m)
  each_without m key all q a is = without_step q a (get q m) (is_key q key) (all q a) (sym (get-without m key q) ∙ is)

  pub each_with : (m : Map A) (key : List ℕ) (o : Option A) → Each P m → ((v : A) → P key v) → Each P (with_value key o m)
  each_with m key None all new = each_without m key all
  each_with m key (Some v) all new = each_put m key v all (new v)

  pub none_in : Each P empty
  none_in key a is = absurd (none-some a is)

-- ------------------------------------------------------------ ledgers

abbrev or_other : Ledger → Result Ledger TokenRefusal → Ledger
or_other m (Ok n) = n
or_other m (Err r) = m

refused : {P : Type 0} (n : Ledger) (r : TokenRefusal) → ◌≡◌ {A = Result Ledger TokenRefusal} (Err r) (Ok n) → P
refused n r e = absurd (subst (λ (x : Result Ledger TokenRefusal). T (is_ok x)) (sym e) tt)

after_two : (b c : Bool) (x y : TokenRefusal) (m n : Ledger) → ◌≡◌ {A = Result Ledger TokenRefusal} (if b then Err x else if c then Err y else Ok m) (Ok n) → m ≡ n
after_two true c x y m n e = refused n x e
after_two false true x y m n e = refused n y e
after_two false false x y m n e = ap (or_other m) e

after_three : (b c d : Bool) (x y z : TokenRefusal) (m n : Ledger) → ◌≡◌ {A = Result Ledger TokenRefusal} (if b then Err x else if c then Err y else if d then Err z else Ok m) (Ok n) → m ≡ n
after_three true c d x y z m n e = refused n x e
after_three false c d x y z m n e = after_two c d y z m n e

with_holder : (m : Map ℕ) (who : List ℕ) (n : ℕ) → Each (λ key k. IsHolder key) m → IsHolder who → Each (λ key k. IsHolder key) (with_balance who n m)
unfolding with_balance
with_holder m who n all holds = each_with (λ key k. IsHolder key) m who (positive n) all (λ v. holds)

abbrev Holders : Ledger → Type 0
Holders l = Each (λ key k. IsHolder key) l.balances

pub held_minted : (amount : ℕ) (to : List ℕ) (l n : Ledger) → IsHolder to → AreHeld l → minted amount to l ≡ Ok n → AreHeld n
unfolding minted
held_minted amount to l n holds all e =
    let m : Ledger = record { cap = l.cap; supply = l.supply + amount; balances = with_balance to (balance to l.balances + amount) l.balances } in
    record {
      holders = subst Holders (after_two (amount == 0) (nat_lt (most_of l.cap) (l.supply + amount)) (Code 1) SupplyOverflow m n e) (with_holder l.balances to (balance to l.balances + amount) all.holders holds);
      sums = minted_sound amount to l n all.sums e;
    }

held_sent : (amount : ℕ) (from to : List ℕ) (l n : Ledger) → IsHolder from → IsHolder to → AreHeld l → sent amount from to l ≡ Ok n → AreHeld n
unfolding sent
held_sent amount from to l n gives takes all e =
    let less = with_balance from (balance from l.balances - amount) l.balances in
    let m : Ledger = record { cap = l.cap; supply = l.supply; balances = with_balance to (balance to less + amount) less } in
    record {
      holders = subst Holders (after_three (amount == 0) (is_key from to) (nat_lt (balance from l.balances) amount) (Code 3) (Code 2) (Code 1) m n e)
          (with_holder less to (balance to less + amount) (with_holder l.balances from (balance from l.balances - amount) all.holders gives) takes);
      sums = sent_sound amount from to l n all.sums e;
    }

held_burnt : (amount : ℕ) (from : List ℕ) (l n : Ledger) → IsHolder from → AreHeld l → burnt amount from l ≡ Ok n → AreHeld n
unfolding burnt
held_burnt amount from l n gives all e =
    let m : Ledger = record { cap = l.cap; supply = l.supply - amount; balances = with_balance from (balance from l.balances - amount) l.balances } in
    record {
      holders = subst Holders (after_two (amount == 0) (nat_lt (balance from l.balances) amount) (Code 1) (Code 1) m n e) (with_holder l.balances from (balance from l.balances - amount) all.holders gives);
      sums = burnt_sound amount from l n all.sums e;
    }

held_after : (act : Act) (l n : Ledger) → AreHolders act → AreHeld l → done act l ≡ Ok n → AreHeld n
held_after (Mint amount to) l n holders all e = held_minted amount to l n holders all e
held_after (Transfer amount from to) l n holders all e = held_sent amount from to l n holders.0 holders.1 all e
held_after (Burn amount from) l n holders all e = held_burnt amount from l n holders all e

paid_step : (amount : ℕ) (to : List ℕ) (l : Ledger) (r : Result Ledger TokenRefusal) → IsHolder to → AreHeld l → minted amount to l ≡ r → AreHeld (or_as_before l r)
paid_step amount to l (Ok n) holds all is = held_minted amount to l n holds all is
paid_step amount to l (Err x) holds all is = all

-- who was paid holds
pub held_paid : (amount : ℕ) (to : List ℕ) (l n : Ledger) → IsHolder to → AreHeld l → n ≡ or_as_before l (minted amount to l) → AreHeld n
held_paid amount to l n holds all is = subst AreHeld (sym is) (paid_step amount to l (minted amount to l) holds all refl)

pub nobody_holds : (cap : Option ℕ) → AreHeld (no_tokens cap)
nobody_holds cap = record { holders = none_in (λ key k. IsHolder key); sums = empty_kept cap }

-- ------------------------------------------------------------ owners

owned_after : (id : List ℕ) (act : AssetAct) (m n : Owners) → IsAsset id → GivesToHolder act → AreOwned m → asset_done id act m ≡ Ok n → AreOwned n
owned_after id (asset.Mint to) m n is holds all e = subst AreOwned (sym (minted_gives id to m n e)) (each_put (λ key owner. IsAsset key × IsHolder owner) m id to all (is, holds))
owned_after id (asset.Transfer from to) m n is holds all e = subst AreOwned (sym (sent_gives id from to m n e)) (each_put (λ key owner. IsAsset key × IsHolder owner) m id to all (is, holds))
owned_after id (asset.Burn from) m n is holds all e = subst AreOwned (sym (burnt_gives id from m n e)) (each_without (λ key owner. IsAsset key × IsHolder owner) m id all)

-- ------------------------------------------------------------ acts on a state

abbrev pub state_or : State → Acted → State
state_or s (Some (Ok t)) = t
state_or s (Some (Err r)) = s
state_or s None = s

abbrev pub is_done : Acted → Bool
is_done (Some (Ok t)) = true
is_done (Some (Err r)) = false
is_done None = false

pub part_done : {A : Type 0} (put_back : A → State) (r : Result A TokenRefusal) (t : State) → replaced put_back r ≡ Some (Ok t) → (m : A) × (r ≡ Ok m) × (put_back m ≡ t)
part_done put_back (Ok m) t e = (m, refl, ap (state_or (put_back m)) e)
part_done put_back (Err x) t e = absurd (subst T (ap is_done (sym e)) tt)

pub ledger_done : (at : List ℕ) (f : Ledger → Result Ledger TokenRefusal) (s t : State) (o : Option Ledger) → get at s.fungibles ≡ o
    → ◌≡◌ {A = Acted} (elim o [ None ↦ None | Some l ↦ replaced (λ m. with_fungibles (put at m s.fungibles) s) (f l) ]) (Some (Ok t))
    → (l : Ledger) × (m : Ledger) × (get at s.fungibles ≡ Some l) × (f l ≡ Ok m) × (with_fungibles (put at m s.fungibles) s ≡ t)
ledger_done at f s t None is e = absurd (subst T (ap is_done (sym e)) tt)
ledger_done at f s t (Some l) is e = let r = part_done (λ m. with_fungibles (put at m s.fungibles) s) (f l) t e in (l, r.0, is, r.1, r.2)

pub owners_done : (at : List ℕ) (f : Owners → Result Owners TokenRefusal) (s t : State) (o : Option Owners) → get at s.nonfungibles ≡ o
    → ◌≡◌ {A = Acted} (elim o [ None ↦ None | Some l ↦ replaced (λ m. with_nonfungibles (put at m s.nonfungibles) s) (f l) ]) (Some (Ok t))
    → (l : Owners) × (m : Owners) × (get at s.nonfungibles ≡ Some l) × (f l ≡ Ok m) × (with_nonfungibles (put at m s.nonfungibles) s ≡ t)
owners_done at f s t None is e = absurd (subst T (ap is_done (sym e)) tt)
owners_done at f s t (Some l) is e = let r = part_done (λ m. with_nonfungibles (put at m s.nonfungibles) s) (f l) t e in (l, r.0, is, r.1, r.2)

pub with_spelled_stx : (s : State) (l : Ledger) → IsSpelled s → AreHeld l → IsSpelled (with_stx l s)
with_spelled_stx s l spelled held = record { entries = spelled.entries; fungibles = spelled.fungibles; nonfungibles = spelled.nonfungibles; stx = held }

pub with_spelled_token : (s : State) (at : List ℕ) (l : Ledger) → IsSpelled s → AreHeld l → IsSpelled (with_fungibles (put at l s.fungibles) s)
with_spelled_token s at l spelled held =
    record { entries = spelled.entries; fungibles = each_put (λ key x. AreHeld x) s.fungibles at l spelled.fungibles held; nonfungibles = spelled.nonfungibles; stx = spelled.stx }

pub with_spelled_assets : (s : State) (at : List ℕ) (m : Owners) → IsSpelled s → AreOwned m → IsSpelled (with_nonfungibles (put at m s.nonfungibles) s)
with_spelled_assets s at m spelled owned =
    record { entries = spelled.entries; fungibles = spelled.fungibles; nonfungibles = each_put (λ key x. AreOwned x) s.nonfungibles at m spelled.nonfungibles owned; stx = spelled.stx }

pub spelled_done : (d : Deed) (s t : State) → IsSoundDeed d → IsSpelled s → deed_done d s ≡ Some (Ok t) → IsSpelled t
spelled_done (OnStx act) s t sound spelled e =
    let r = part_done (λ m. with_stx m s) (done act s.stx) t e in
    subst IsSpelled r.2 (with_spelled_stx s r.0 spelled (held_after act s.stx r.0 sound spelled.stx r.1))
spelled_done (OnFungible at act) s t sound spelled e =
    let r = ledger_done (key_of at) (done act) s t (get (key_of at) s.fungibles) refl e in
    subst IsSpelled r.4 (with_spelled_token s (key_of at) r.1 spelled (held_after act r.0 r.1 sound (spelled.fungibles (key_of at) r.0 r.2) r.3))
spelled_done (OnAsset at id act) s t sound spelled e =
    let r = owners_done (key_of at) (asset_done id act) s t (get (key_of at) s.nonfungibles) refl e in
    subst IsSpelled r.4 (with_spelled_assets s (key_of at) r.1 spelled (owned_after id act r.0 r.1 sound.0 sound.1 (spelled.nonfungibles (key_of at) r.0 r.2) r.3))

-- ------------------------------------------------------------ the first state

no_tokens_by_place : {A : Type 0} (P : List ℕ → A → Type 0) (es : List (Place × A)) → es ≡ [] → Each P (by_place es)
no_tokens_by_place P es is = subst (λ m. Each P m) (sym (ap by_place is ∙ by_place_none)) (none_in P)

pub spelled_at_first : (entries : Map Tree) (fungibles : List (Place × Ledger)) (nonfungibles : List (Place × Owners)) (variables : Map Tree) (stx : Ledger) → entries ≡ empty → fungibles ≡ [] → nonfungibles ≡ [] → AreHeld stx
    → IsSpelled (record { variables = variables; entries = entries; fungibles = by_place fungibles; nonfungibles = by_place nonfungibles; stx = stx; events = []; moves = [] })
spelled_at_first entries fungibles nonfungibles variables stx no_entries no_fungibles no_nonfungibles held = record {
  entries = subst (λ m. Each (λ key v. IsSpot key) m) (sym no_entries) (none_in (λ key v. IsSpot key));
  fungibles = no_tokens_by_place (λ key l. AreHeld l) fungibles no_fungibles;
  nonfungibles = no_tokens_by_place (λ key m. AreOwned m) nonfungibles no_nonfungibles;
  stx = held;
}

-- ------------------------------------------------------------ deeds

pub sound_deed : {E : Type 0} (r : Result Deed E) (x : Deed) (A B : Type 0) → IfOk r (λ d. d ≡ x) → IfOk r (λ d. A) → IfOk r (λ d. B) → (A → B → IsSoundDeed x) → IfOk r (λ d. IsSoundDeed d)
sound_deed (Ok d) x A B is a b sound = subst IsSoundDeed (sym is) (sound a b)
sound_deed (Err e) x A B is a b sound = tt

-- one holder more is paid
pub paid_more : (hs : List (Principal × ℕ)) (i : ℕ) (h : Principal × ℕ) (old new : Ledger) → 0 < i → i ≤ length hs → h ≡ get_or hs (i - 1) h → old ≡ holdings (drop i hs) → new ≡ or_as_before old (minted h.1 (holder h.0) old) → new ≡ holdings (drop (i - 1) hs)
paid_more hs i h old new some fits at was is =
    let split : drop (i - 1) hs ≡ get_or hs (i - 1) h ∷ drop (i - 1 + 1) hs = drop_more hs (i - 1) h (omega (arith, some, fits)) in
    let next : i - 1 + 1 ≡ i = omega (arith, some) in
    let front = sym at in
    is ∙ ap (λ l. or_as_before l (minted h.1 (holder h.0) l)) was ∙ sym (ap holdings (split ∙ (λ j. front j ∷ drop (next j) hs)))
