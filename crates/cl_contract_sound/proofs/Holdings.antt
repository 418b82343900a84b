-- States that are kept serve: tokens, STX, and the acts on them.
use Rattle.std.proofs.Common.{◌≡◌, ℕ, ◌+◌, ◌<◌, ◌≤◌, ◌^◌, Bool, true, false, List, Option, Some, None, Result, Ok, Err, refl, sym, ap, subst, ◌∙◌, arith}
use Rattle.std.specs.Prelude.{if◌then◌else◌, ◌==◌, nat_lt}
use Rattle.cl_types.specs.Types.{PlainType}
use Rattle.cl_c32.specs.declared.principal.Principal.{Principal}
use Rattle.cl_sexpr.specs.Tree.{Tree}
use Rattle.cl_values.specs.Tree.{Tree as Val}
use Rattle.cl_values.specs.Wire.{wire}
use Rattle.cl_values.specs.Valid.{IsPrincipal}
use Rattle.cl_maps.specs.Maps.{Map, get, put, without, or_zero}
use Rattle.cl_maps.proofs.MapLaws.{same_keys}
use Rattle.cl_tokens.specs.declared.refusal.TokenRefusal.{TokenRefusal}
use Rattle.cl_tokens.specs.declared.refusal.TokenRefusal.TheVariants.{Code, SupplyOverflow}
use Rattle.cl_tokens.specs.Table.{is_key}
use Rattle.cl_tokens.specs.Ledger.{Ledger, most_of, balance, minted, sent, burnt}
use Rattle.cl_tokens.specs.Owners.{Owners, given_to, handed_on, taken_off, asset_minted, asset_sent, asset_burnt}
use Rattle.cl_tokens.proofs.Acts.{minted_sound, minted_moves, burnt_sound, burnt_moves, sent_sound, sent_moves}
use Rattle.cl_tokens.proofs.Balances.{balance-le-supply}
use Rattle.cl_forms.specs.Forms.{FungibleForm, NonFungibleForm}
use Rattle.cl_events.specs.declared.event.EventKind.{EventKind}
use Rattle.cl_events.specs.declared.event.EventKind.TheVariants.{Print, FtMint, FtTransfer, FtBurn, NftMint, NftTransfer, NftBurn, StxTransfer, StxBurn}
use Rattle.cl_events.specs.declared.event.Asset.{Asset}
use Rattle.cl_events.specs.State.{State, holder, is_principal, place, with_fungibles, with_nonfungibles, with_stx, with_event, with_move}
use Rattle.cl_events.specs.Acts.{Acted, replaced, on_ledger, on_owners, on_stx, burnt_stx, changed, moved, told, acted, sender_refusal, acted_by}
use Rattle.cl_meaning.specs.Deployed.{Contract, Deployed}
use Rattle.cl_meaning.specs.Kept.{Defines, IsHolder, IsHeld, IsKeyOf, AreOwners, IsFungible, IsNonFungible, Stage, Kept, IsSoFar}
use Rattle.cl_rules.specs.Context.{CostTable, Context, named_in}
use Rattle.cl_expression_sound.specs.Sound.{AreUints, IsLedgerThere, AreOwnersThere, IsAct, IsActed, is_fungible, deployed_world}
use Rattle.cl_expression_sound.specs.Stages.{AreDistinct, IsContext}
use Rattle.cl_contract_sound.proofs.Contexts.{stands_in}
use Rattle.cl_contract_sound.proofs.States.{kinds_same, after_put, still_there, after_without, defines, events_serve}
use Rattle.cl_values.specs.Typed.{IsOf}

-- ---- ledgers

-- the cap stays, and refusals have small numbers
abbrev StepFine : Ledger → Result Ledger TokenRefusal → Type 0
StepFine l (Ok m) = m.cap ≡ l.cap
StepFine l (Err (Code n)) = n < 2 ^ 128
StepFine l (Err SupplyOverflow) = Unit {0}

three_step : (l m : Ledger) (a b : Bool) → m.cap ≡ l.cap → StepFine l (if a then Err (Code 1) else if b then Err (Code 1) else Ok m)
three_step l m true b e = omega arith
three_step l m false true e = omega arith
three_step l m false false e = e

mint_step : (l m : Ledger) (a b : Bool) → m.cap ≡ l.cap → StepFine l (if a then Err (Code 1) else if b then Err SupplyOverflow else Ok m)
mint_step l m true b e = omega arith
mint_step l m false true e = tt
mint_step l m false false e = e

send_step : (l m : Ledger) (a b c : Bool) → m.cap ≡ l.cap → StepFine l (if a then Err (Code 3) else if b then Err (Code 2) else if c then Err (Code 1) else Ok m)
send_step l m true b c e = omega arith
send_step l m false true c e = omega arith
send_step l m false false true e = omega arith
send_step l m false false false e = e

minted_fine : (n : ℕ) (to : List ℕ) (l : Ledger) → StepFine l (minted n to l)
unfolding minted
minted_fine n to l = mint_step l _ (n == 0) (nat_lt (most_of l.cap) (l.supply + n)) refl

burnt_fine : (n : ℕ) (from : List ℕ) (l : Ledger) → StepFine l (burnt n from l)
unfolding burnt
burnt_fine n from l = three_step l _ (n == 0) (nat_lt (balance from l.balances) n) refl

sent_fine : (n : ℕ) (from to : List ℕ) (l : Ledger) → StepFine l (sent n from to l)
unfolding sent
sent_fine n from to l = send_step l _ (n == 0) (is_key from to) (nat_lt (balance from l.balances) n) refl

some_there : (o : Option ℕ) (n : ℕ) → or_zero o ≡ n → 0 < n → (k : ℕ) × (o ≡ Some k)
some_there (Some k) n e h = (k, refl)
some_there None n e h = absurd (omega (arith, e, h))

there_before : (key : List ℕ) (m : Map ℕ) (n : ℕ) → balance key m ≡ n → 0 < n → (k : ℕ) × (get key m ≡ Some k)
unfolding balance
there_before key m n e h = some_there (get key m) n e h

balance_there : (key : List ℕ) (m : Map ℕ) (n : ℕ) → get key m ≡ Some n → balance key m ≡ n
unfolding balance
balance_there key m n e = ap or_zero e

by_key : (key : List ℕ) (p : Principal) → IsPrincipal p → is_key key (holder p) ≡ true → IsHolder key
by_key key p valid e = record { principal = p; valid = valid; spelled = same_keys key (holder p) e }

-- a holder of what is left was one before
held_before : (l : Ledger) (key : List ℕ) (n : ℕ) → IsHeld l → balance key l.balances ≡ n → 0 < n → IsHolder key
held_before l key n h e some = let k = there_before key l.balances n e some in h.holders key k.0 k.1

one_changed : (p : Principal) (l : Ledger) (key : List ℕ) (n k : ℕ) → IsPrincipal p → IsHeld l → (b : Bool) → is_key key (holder p) ≡ b → n ≡ (if b then k else balance key l.balances) → 0 < n → IsHolder key
one_changed p l key n k valid h true e same some = by_key key p valid e
one_changed p l key n k valid h false e same some = held_before l key n h (sym same) some

two_changed : (p q : Principal) (l : Ledger) (key : List ℕ) (n j k : ℕ) → IsPrincipal p → IsPrincipal q → IsHeld l → (b c : Bool) → is_key key (holder p) ≡ b → is_key key (holder q) ≡ c → n ≡ (if b then j else if c then k else balance key l.balances) → 0 < n → IsHolder key
two_changed p q l key n j k vp vq h true c e f same some = by_key key p vp e
two_changed p q l key n j k vp vq h false true e f same some = by_key key q vq f
two_changed p q l key n j k vp vq h false false e f same some = held_before l key n h (sym same) some

-- what an act leaves: a ledger with the same cap whose holders are principals
abbrev pub IsLedgerActed : Ledger → Result Ledger TokenRefusal → Type 0
IsLedgerActed l (Ok m) = IsHeld m × (m.cap ≡ l.cap)
IsLedgerActed l (Err (Code n)) = n < 2 ^ 128
IsLedgerActed l (Err SupplyOverflow) = Unit {0}

act_by : (l : Ledger) (r : Result Ledger TokenRefusal) → StepFine l r → ((m : Ledger) → r ≡ Ok m → IsHeld m) → IsLedgerActed l r
act_by l (Ok m) fine held = (held m refl, fine)
act_by l (Err (Code n)) fine held = fine
act_by l (Err SupplyOverflow) fine held = tt

mint_acted : (n : ℕ) (p : Principal) (l : Ledger) → IsPrincipal p → IsHeld l → IsLedgerActed l (minted n (holder p) l)
mint_acted n p l valid h = act_by l (minted n (holder p) l) (minted_fine n (holder p) l) (λ m e.
    let sound = minted_sound n (holder p) l m h.ledger e in
    record { ledger = sound; holders = λ key k there. one_changed p l key k _ valid h (is_key key (holder p)) refl (sym (balance_there key m.balances k there) ∙ minted_moves n (holder p) l m e key) (sound.positive key k there) })

burn_acted : (n : ℕ) (p : Principal) (l : Ledger) → IsPrincipal p → IsHeld l → IsLedgerActed l (burnt n (holder p) l)
burn_acted n p l valid h = act_by l (burnt n (holder p) l) (burnt_fine n (holder p) l) (λ m e.
    let sound = burnt_sound n (holder p) l m h.ledger e in
    record { ledger = sound; holders = λ key k there. one_changed p l key k _ valid h (is_key key (holder p)) refl (sym (balance_there key m.balances k there) ∙ burnt_moves n (holder p) l m e key) (sound.positive key k there) })

send_acted : (n : ℕ) (p q : Principal) (l : Ledger) → IsPrincipal p → IsPrincipal q → IsHeld l → IsLedgerActed l (sent n (holder p) (holder q) l)
send_acted n p q l vp vq h = act_by l (sent n (holder p) (holder q) l) (sent_fine n (holder p) (holder q) l) (λ m e.
    let sound = sent_sound n (holder p) (holder q) l m h.ledger e in
    record { ledger = sound; holders = λ key k there. two_changed p q l key k _ _ vp vq h (is_key key (holder p)) (is_key key (holder q)) refl refl (sym (balance_there key m.balances k there) ∙ sent_moves n (holder p) (holder q) l m e key) (sound.positive key k there) })

burn_stx_acted : (n : ℕ) (p : Principal) (l : Ledger) → IsPrincipal p → IsHeld l → IsLedgerActed l (burnt_stx n (holder p) l)
burn_stx_acted n p l valid h = by (n == 0) (burn_acted n p l valid h)
  where
    by : (b : Bool) → IsLedgerActed l (burnt n (holder p) l) → IsLedgerActed l (if b then Err (Code 3) else burnt n (holder p) l)
    by true k = omega arith
    by false k = k

-- ---- owners

abbrev pub IsOwnersActed : PlainType → Result Owners TokenRefusal → Type 0
IsOwnersActed t (Ok m) = AreOwners t m
IsOwnersActed t (Err (Code n)) = n < 2 ^ 128
IsOwnersActed t (Err SupplyOverflow) = Unit {0}

owned_put : (t : PlainType) (id : Val) (p : Principal) (m : Owners) → IsOf id t → IsPrincipal p → AreOwners t m → AreOwners t (put (wire id) (holder p) m)
owned_put t id p m i valid h = record {
  assets = λ key owner e. after_put (λ o. IsKeyOf t key) m (wire id) key (holder p) owner e (λ is. record { value = id; typed = i; spelled = is }) (h.assets key owner);
  principals = λ key owner e. after_put IsHolder m (wire id) key (holder p) owner e (λ is. record { principal = p; valid = valid; spelled = refl }) (h.principals key owner);
}

asset_mint_acted : (t : PlainType) (id : Val) (p : Principal) (m : Owners) → IsOf id t → IsPrincipal p → AreOwners t m → IsOwnersActed t (asset_minted (wire id) (holder p) m)
unfolding asset_minted
asset_mint_acted t id p m i valid h = by (get (wire id) m)
  where
    by : (o : Option (List ℕ)) → IsOwnersActed t (given_to (wire id) (holder p) o m)
    by (Some owner) = omega arith
    by None = owned_put t id p m i valid h

asset_send_acted : (t : PlainType) (id : Val) (p q : Principal) (m : Owners) → IsOf id t → IsPrincipal q → AreOwners t m → IsOwnersActed t (asset_sent (wire id) (holder p) (holder q) m)
unfolding asset_sent
asset_send_acted t id p q m i valid h = first (is_key (holder p) (holder q)) (get (wire id) m)
  where
    second : (owner : List ℕ) (b : Bool) → IsOwnersActed t (if b then Ok (put (wire id) (holder q) m) else Err (Code 1))
    second owner true = owned_put t id q m i valid h
    second owner false = omega arith

    first : (b : Bool) (o : Option (List ℕ)) → IsOwnersActed t (if b then Err (Code 2) else handed_on (wire id) (holder p) (holder q) o m)
    first true o = omega arith
    first false None = omega arith
    first false (Some owner) = second owner (is_key owner (holder p))

asset_burn_acted : (t : PlainType) (id : Val) (p : Principal) (m : Owners) → AreOwners t m → IsOwnersActed t (asset_burnt (wire id) (holder p) m)
unfolding asset_burnt
asset_burn_acted t id p m h = by (get (wire id) m)
  where
    second : (b : Bool) → IsOwnersActed t (if b then Ok (without (wire id) m) else Err (Code 1))
    second true = record { assets = λ key owner e. h.assets key owner (after_without m (wire id) key owner e); principals = λ key owner e. h.principals key owner (after_without m (wire id) key owner e) }
    second false = omega arith

    by : (o : Option (List ℕ)) → IsOwnersActed t (taken_off (wire id) (holder p) o m)
    by None = omega arith
    by (Some owner) = second (is_key owner (holder p))

non_fungible_type : (t u : PlainType) → NonFungibleForm t ≡ NonFungibleForm u → t ≡ u
non_fungible_type t u h = cc

module _ (W : Deployed) (stage : Stage) (A : AreDistinct W) where
  -- ---- what is there

  uints_of : (l : Ledger) → IsHeld l → most_of l.cap < 2 ^ 128 → AreUints l
  uints_of l h cap =
      let within = h.ledger.within in
      record {
        supply = omega (arith, within, cap);
        balances = λ who. let low : balance who l.balances ≤ l.supply = balance-le-supply l who h.ledger in omega (arith, low, within, cap);
      }

  pub fungibles_serve : (G : Context) → IsContext W stage G → (x : List ℕ) → is_fungible G x ≡ true → (s : State) → Kept W stage s → IsLedgerThere (get (place G.principal x) s.fungibles)
  fungibles_serve G I x h s n =
      let S = stands_in W stage G I in
      let f = S.fungibles x h in
      let l = n.fungibles_there I.contract x f.supply (defines W stage A G I x (FungibleForm f.supply) f.form) f.there in
      let k = n.fungibles (place I.contract.principal x) l.value l.there in
      record {
        ledger = l.value;
        there = ap (λ p. get (place p x) s.fungibles) S.home ∙ l.there;
        uints = uints_of l.value k.held k.capped;
      }

  pub stx_serves : (s : State) → Kept W stage s → AreUints s.stx
  stx_serves s n = uints_of s.stx n.stx (subst (λ o. most_of o < 2 ^ 128) (sym n.uncapped) (omega arith))

  pub nonfungibles_serve : (G : Context) → IsContext W stage G → (x : List ℕ) (t : PlainType) → named_in x G.nonfungibles ≡ Some t → (s : State) → Kept W stage s → AreOwnersThere (get (place G.principal x) s.nonfungibles)
  nonfungibles_serve G I x t h s n =
      let S = stands_in W stage G I in
      let o = n.nonfungibles_there I.contract x t (defines W stage A G I x (NonFungibleForm t) (S.nonfungibles x t h).0) (S.nonfungibles x t h).1 in
      let k = n.nonfungibles (place I.contract.principal x) o.value o.there in
      record { owners = o.value; there = ap (λ p. get (place p x) s.nonfungibles) S.home ∙ o.there; principals = k.owned.principals }

  -- ---- acts

  module _ (costs : CostTable) where
    pub ledger_kept : (c : Contract) (x : List ℕ) (e : Option Tree) → Defines W c x (FungibleForm e) → (l m : Ledger) → IsHeld m → m.cap ≡ l.cap → most_of l.cap < 2 ^ 128 → (s : State) → Kept W stage s → Kept W stage (with_fungibles (put (place c.principal x) m s.fungibles) s)
    ledger_kept c x e d l m held cap low s n = record {
      variables_there = n.variables_there;
      variables = n.variables;
      entries = n.entries;
      fungibles_there = λ b y u g now. still_there s.fungibles (place c.principal x) (place b.principal y) m (n.fungibles_there b y u g now);
      fungibles = λ key k h. after_put (λ k. IsFungible W key k) s.fungibles (place c.principal x) key m k h (λ is. record { contract = c; name = x; supply = e; defined = d; place = is; held = held; capped = subst (λ o. most_of o < 2 ^ 128) (sym cap) low }) (n.fungibles key k);
      nonfungibles_there = n.nonfungibles_there;
      nonfungibles = n.nonfungibles;
      stx = n.stx;
      uncapped = n.uncapped;
    }

    ledger_acted : (c : Contract) (x : List ℕ) (e : Option Tree) → Defines W c x (FungibleForm e) → IsSoFar stage c.principal x → (act : Ledger → Result Ledger TokenRefusal) → ((l : Ledger) → IsHeld l → IsLedgerActed l (act l)) → (s : State) → Kept W stage s → IsActed (deployed_world costs W stage) (on_ledger (place c.principal x) act s)
    ledger_acted c x e d now act acts s n =
        let l = n.fungibles_there c x e d now in
        let k = n.fungibles (place c.principal x) l.value l.there in
        subst (λ o. IsActed (deployed_world costs W stage) (elim o [ None ↦ None | Some l ↦ replaced (λ m. with_fungibles (put (place c.principal x) m s.fungibles) s) (act l) ])) (sym l.there)
        (by (act l.value) l.value (acts l.value k.held) k.capped)
      where
        by : (r : Result Ledger TokenRefusal) (l : Ledger) → IsLedgerActed l r → most_of l.cap < 2 ^ 128 → IsActed (deployed_world costs W stage) (replaced (λ m. with_fungibles (put (place c.principal x) m s.fungibles) s) r)
        by (Ok m) l h low = ledger_kept c x e d l m h.0 h.1 low s n
        by (Err (Code k)) l h low = h
        by (Err SupplyOverflow) l h low = tt

    stx_acted : (act : Ledger → Result Ledger TokenRefusal) → ((l : Ledger) → IsHeld l → IsLedgerActed l (act l)) → (s : State) → Kept W stage s → IsActed (deployed_world costs W stage) (on_stx act s)
    stx_acted act acts s n = by (act s.stx) (acts s.stx n.stx)
      where
        by : (r : Result Ledger TokenRefusal) → IsLedgerActed s.stx r → IsActed (deployed_world costs W stage) (replaced (λ m. with_stx m s) r)
        by (Ok m) h = record {
          variables_there = n.variables_there;
          variables = n.variables;
          entries = n.entries;
          fungibles_there = n.fungibles_there;
          fungibles = n.fungibles;
          nonfungibles_there = n.nonfungibles_there;
          nonfungibles = n.nonfungibles;
          stx = h.0;
          uncapped = h.1 ∙ n.uncapped;
        }
        by (Err (Code k)) h = h
        by (Err SupplyOverflow) h = tt

    owners_acted : (c : Contract) (x : List ℕ) (t : PlainType) → Defines W c x (NonFungibleForm t) → IsSoFar stage c.principal x → (act : Owners → Result Owners TokenRefusal) → ((m : Owners) → AreOwners t m → IsOwnersActed t (act m)) → (s : State) → Kept W stage s → IsActed (deployed_world costs W stage) (on_owners (place c.principal x) act s)
    owners_acted c x t d now act acts s n =
        let o = n.nonfungibles_there c x t d now in
        let k = n.nonfungibles (place c.principal x) o.value o.there in
        let same : t ≡ k.type = non_fungible_type t k.type (kinds_same W A c k.contract x k.name (NonFungibleForm t) (NonFungibleForm k.type) d k.defined k.place) in
        subst (λ o. IsActed (deployed_world costs W stage) (elim o [ None ↦ None | Some l ↦ replaced (λ m. with_nonfungibles (put (place c.principal x) m s.nonfungibles) s) (act l) ])) (sym o.there)
        (by (act o.value) (acts o.value (subst (λ t. AreOwners t o.value) (sym same) k.owned)))
      where
        by : (r : Result Owners TokenRefusal) → IsOwnersActed t r → IsActed (deployed_world costs W stage) (replaced (λ m. with_nonfungibles (put (place c.principal x) m s.nonfungibles) s) r)
        by (Ok m) h = record {
          variables_there = n.variables_there;
          variables = n.variables;
          entries = n.entries;
          fungibles_there = n.fungibles_there;
          fungibles = n.fungibles;
          nonfungibles_there = λ b y u g now. still_there s.nonfungibles (place c.principal x) (place b.principal y) m (n.nonfungibles_there b y u g now);
          nonfungibles = λ key k g. after_put (λ k. IsNonFungible W key k) s.nonfungibles (place c.principal x) key m k g (λ is. record { contract = c; name = x; type = t; defined = d; place = is; owned = h }) (n.nonfungibles key k);
          stx = n.stx;
          uncapped = n.uncapped;
        }
        by (Err (Code k)) h = h
        by (Err SupplyOverflow) h = tt

    move_kept : (p : Principal) (asset : Asset) (n : ℕ) (s : State) → Kept W stage s → Kept W stage (with_move p asset n s)
    move_kept p asset k s n = record {
      variables_there = n.variables_there;
      variables = n.variables;
      entries = n.entries;
      fungibles_there = n.fungibles_there;
      fungibles = n.fungibles;
      nonfungibles_there = n.nonfungibles_there;
      nonfungibles = n.nonfungibles;
      stx = n.stx;
      uncapped = n.uncapped;
    }

    moved_kept : (p : Principal) (kind : EventKind) (s : State) → Kept W stage s → Kept W stage (moved p kind s)
    unfolding moved
    moved_kept p (Print v) s n = n
    moved_kept p (FtMint token amount to) s n = n
    moved_kept p (FtTransfer token amount from to) s n = move_kept _ _ _ s n
    moved_kept p (FtBurn token amount from) s n = move_kept _ _ _ s n
    moved_kept p (NftMint token id to) s n = n
    moved_kept p (NftTransfer token id from to) s n = move_kept _ _ _ s n
    moved_kept p (NftBurn token id from) s n = move_kept _ _ _ s n
    moved_kept p (StxTransfer amount from to) s n = move_kept _ _ _ s n
    moved_kept p (StxBurn amount from) s n = move_kept _ _ _ s n

    told_acted : (p : Principal) (kind : EventKind) (act : Acted) → IsActed (deployed_world costs W stage) act → IsActed (deployed_world costs W stage) (told p kind act)
    told_acted p kind None h = h
    told_acted p kind (Some (Ok s)) h = moved_kept p kind (with_event p kind s) (events_serve W stage A p kind s h)
    told_acted p kind (Some (Err (Code n))) h = h
    told_acted p kind (Some (Err SupplyOverflow)) h = h

    changed_acted : (G : Context) (I : IsContext W stage G) (kind : EventKind) → IsAct G kind → (s : State) → Kept W stage s → IsActed (deployed_world costs W stage) (changed I.contract.principal kind s)
    unfolding changed
    changed_acted G I (Print v) a s n = absurd a
    changed_acted G I (FtMint token amount to) a s n =
        let f = (stands_in W stage G I).fungibles token a.0 in
        ledger_acted I.contract token f.supply (defines W stage A G I token (FungibleForm f.supply) f.form) f.there (minted amount (holder to)) (λ l h. mint_acted amount to l a.2 h) s n
    changed_acted G I (FtTransfer token amount from to) a s n =
        let f = (stands_in W stage G I).fungibles token a.0 in
        ledger_acted I.contract token f.supply (defines W stage A G I token (FungibleForm f.supply) f.form) f.there (sent amount (holder from) (holder to)) (λ l h. send_acted amount from to l a.2 a.3 h) s n
    changed_acted G I (FtBurn token amount from) a s n =
        let f = (stands_in W stage G I).fungibles token a.0 in
        ledger_acted I.contract token f.supply (defines W stage A G I token (FungibleForm f.supply) f.form) f.there (burnt amount (holder from)) (λ l h. burn_acted amount from l a.2 h) s n
    changed_acted G I (NftMint token id to) a s n =
        owners_acted I.contract token a.0.type (defines W stage A G I token (NonFungibleForm a.0.type) ((stands_in W stage G I).nonfungibles token a.0.type a.0.told).0) ((stands_in W stage G I).nonfungibles token a.0.type a.0.told).1 (asset_minted (wire id) (holder to)) (λ m h. asset_mint_acted a.0.type id to m a.0.typed a.1 h) s n
    changed_acted G I (NftTransfer token id from to) a s n =
        owners_acted I.contract token a.0.type (defines W stage A G I token (NonFungibleForm a.0.type) ((stands_in W stage G I).nonfungibles token a.0.type a.0.told).0) ((stands_in W stage G I).nonfungibles token a.0.type a.0.told).1 (asset_sent (wire id) (holder from) (holder to)) (λ m h. asset_send_acted a.0.type id from to m a.0.typed a.2 h) s n
    changed_acted G I (NftBurn token id from) a s n =
        owners_acted I.contract token a.0.type (defines W stage A G I token (NonFungibleForm a.0.type) ((stands_in W stage G I).nonfungibles token a.0.type a.0.told).0) ((stands_in W stage G I).nonfungibles token a.0.type a.0.told).1 (asset_burnt (wire id) (holder from)) (λ m h. asset_burn_acted a.0.type id from m h) s n
    changed_acted G I (StxTransfer amount from to) a s n = stx_acted (sent amount (holder from) (holder to)) (λ l h. send_acted amount from to l a.1 a.2 h) s n
    changed_acted G I (StxBurn amount from) a s n = stx_acted (burnt_stx amount (holder from)) (λ l h. burn_stx_acted amount from l a.1 h) s n

    refusal_low : (sender : Principal) (kind : EventKind) (k : ℕ) → sender_refusal sender kind ≡ Some k → k < 2 ^ 128
    refusal_low sender (StxTransfer amount from to) k h = by (amount == 0) (is_principal from to) (is_principal from sender) h
      where
        small : (n k : ℕ) → Some n ≡ Some k → n < 2 ^ 128 → k < 2 ^ 128
        small n k e low = subst (λ k. k < 2 ^ 128) (same_value e) low
          where
            same_value : Some n ≡ Some k → n ≡ k
            same_value e = cc

        by : (a b c : Bool) → (if a then Some 3 else if b then Some 2 else if c then None else Some 4) ≡ Some k → k < 2 ^ 128
        by true b c h = small 3 k h (omega arith)
        by false true c h = small 2 k h (omega arith)
        by false false true h = absurd cc
        by false false false h = small 4 k h (omega arith)
    refusal_low sender (StxBurn amount from) k h = by (amount == 0) (is_principal from sender) h
      where
        small : (n k : ℕ) → Some n ≡ Some k → n < 2 ^ 128 → k < 2 ^ 128
        small n k e low = subst (λ k. k < 2 ^ 128) (same_value e) low
          where
            same_value : Some n ≡ Some k → n ≡ k
            same_value e = cc

        by : (a c : Bool) → (if a then Some 3 else if c then None else Some 4) ≡ Some k → k < 2 ^ 128
        by true c h = small 3 k h (omega arith)
        by false true h = absurd cc
        by false false h = small 4 k h (omega arith)
    refusal_low sender kind k h = absurd cc

    pub acts_serve : (G : Context) (I : IsContext W stage G) (sender : Principal) (kind : EventKind) → IsAct G kind → (s : State) → Kept W stage s → IsActed (deployed_world costs W stage) (acted_by sender G.principal kind s)
    unfolding acted_by acted
    acts_serve G I sender kind a s n =
        subst (λ p. IsActed (deployed_world costs W stage) (elim (sender_refusal sender kind) [ None ↦ told p kind (changed p kind s) | Some n ↦ Some (Err (Code n)) ])) (sym (stands_in W stage G I).home)
        (by (sender_refusal sender kind) (refusal_low sender kind))
      where
        by : (o : Option ℕ) → ((k : ℕ) → o ≡ Some k → k < 2 ^ 128) → IsActed (deployed_world costs W stage) (elim o [ None ↦ told I.contract.principal kind (changed I.contract.principal kind s) | Some n ↦ Some (Err (Code n)) ])
        by None low = told_acted I.contract.principal kind (changed I.contract.principal kind s) (changed_acted G I kind a s n)
        by (Some k) low = low k refl
