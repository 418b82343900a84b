-- Acts on tokens, side by side.
use Rattle.std.proofs.Common.{◌≡◌, ℕ, List, [], ◌∷◌, Option, Some, None, Result, Ok, Err, refl, subst}
use Rattle.cl_c32.specs.declared.principal.Principal.{Principal}
use Rattle.cl_values.specs.Tree.{Tree as Val, UintV, PrincipalV}
use Rattle.cl_values.specs.Wire.{wire}
use Rattle.cl_maps.specs.Maps.{get, put}
use Rattle.cl_tokens.specs.declared.refusal.TokenRefusal.{TokenRefusal}
use Rattle.cl_tokens.specs.declared.refusal.TokenRefusal.TheVariants.{Code, SupplyOverflow}
use Rattle.cl_tokens.specs.Ledger.{Ledger, minted, sent, burnt}
use Rattle.cl_tokens.specs.Owners.{Owners, asset_minted, asset_sent, asset_burnt}
use Rattle.cl_forms.specs.declared.head.TokenNative.{TokenNative}
use Rattle.cl_forms.specs.declared.head.TokenNative.TheVariants.{MintFt, BurnFt, SendFt, MintNft, BurnNft, SendNft, SendStx, BurnStx}
use Rattle.cl_events.specs.declared.event.EventKind.{EventKind}
use Rattle.cl_events.specs.declared.event.EventKind.TheVariants.{Print, FtMint, FtTransfer, FtBurn, NftMint, NftTransfer, NftBurn, StxTransfer, StxBurn}
use Rattle.cl_events.specs.State.{State, holder, with_fungibles, with_nonfungibles, with_stx, with_event}
use Rattle.cl_events.specs.Acts.{Acted, replaced, on_ledger, on_owners, on_stx, burnt_stx, changed, moved, told, acted, sender_refusal, acted_by}
use Rattle.cl_tables.specs.declared.place.Place.{Place}
use Rattle.cl_tables.specs.Variables.{key_of}
use Rattle.cl_tables.specs.declared.spot.Spot.{Spot}
use Rattle.cl_tables.specs.declared.spot.Spot.TheVariants.{Token, Stx}
use Rattle.cl_meaning.specs.Answers.{Wrong, with_known}
use Rattle.cl_meaning.specs.Tokens.{act_of, answered, acts}
use Rattle.cl_meaning.specs.Scope.{Scope}
use Rattle.cl_touch.specs.Uses.{of_own}
use Rattle.cl_touch.proofs.Logic.{Alike, Steady, alike_at, alike_by}
use Rattle.cl_touch.proofs.Keeps.{Keeps}

module _ (R : State → State → Type 0) (T C : Spot → Type 0) (K : Keeps R T C) where
  -- the same comes of both acts
  abbrev pub ActedAlike : Acted → Acted → Type 0
  ActedAlike None None = Unit {0}
  ActedAlike (Some (Ok s)) (Some (Ok z)) = R s z
  ActedAlike (Some (Err x)) (Some (Err y)) = x ≡ y
  ActedAlike a b = ⊥

  abbrev IsFineSpot : Spot → Type 0
  IsFineSpot x = T x × C x

  -- ---- changes

  ledger_alike : (at : Place) → IsFineSpot (Token at) → (act : Ledger → Result Ledger TokenRefusal) (s z : State) → R s z → ActedAlike (on_ledger (key_of at) act s) (on_ledger (key_of at) act z)
  ledger_alike at fine act s z r =
      subst (λ (o : Option Ledger). ActedAlike (on_ledger (key_of at) act s) (elim o [ None ↦ None | Some l ↦ replaced (λ m. with_fungibles (put (key_of at) m z.fungibles) z) (act l) ])) (K.fungible at fine.0 s z r) (by (get (key_of at) s.fungibles))
    where
      by_result : (x : Result Ledger TokenRefusal) → ActedAlike (replaced (λ m. with_fungibles (put (key_of at) m s.fungibles) s) x) (replaced (λ m. with_fungibles (put (key_of at) m z.fungibles) z) x)
      by_result (Ok m) = K.put_fungible at fine.1 m s z r
      by_result (Err refusal) = refl

      by : (o : Option Ledger) → ActedAlike (elim o [ None ↦ None | Some l ↦ replaced (λ m. with_fungibles (put (key_of at) m s.fungibles) s) (act l) ]) (elim o [ None ↦ None | Some l ↦ replaced (λ m. with_fungibles (put (key_of at) m z.fungibles) z) (act l) ])
      by None = tt
      by (Some l) = by_result (act l)

  owners_alike : (at : Place) → IsFineSpot (Token at) → (act : Owners → Result Owners TokenRefusal) (s z : State) → R s z → ActedAlike (on_owners (key_of at) act s) (on_owners (key_of at) act z)
  owners_alike at fine act s z r =
      subst (λ (o : Option Owners). ActedAlike (on_owners (key_of at) act s) (elim o [ None ↦ None | Some l ↦ replaced (λ m. with_nonfungibles (put (key_of at) m z.nonfungibles) z) (act l) ])) (K.nonfungible at fine.0 s z r) (by (get (key_of at) s.nonfungibles))
    where
      by_result : (x : Result Owners TokenRefusal) → ActedAlike (replaced (λ m. with_nonfungibles (put (key_of at) m s.nonfungibles) s) x) (replaced (λ m. with_nonfungibles (put (key_of at) m z.nonfungibles) z) x)
      by_result (Ok m) = K.put_nonfungible at fine.1 m s z r
      by_result (Err refusal) = refl

      by : (o : Option Owners) → ActedAlike (elim o [ None ↦ None | Some l ↦ replaced (λ m. with_nonfungibles (put (key_of at) m s.nonfungibles) s) (act l) ]) (elim o [ None ↦ None | Some l ↦ replaced (λ m. with_nonfungibles (put (key_of at) m z.nonfungibles) z) (act l) ])
      by None = tt
      by (Some l) = by_result (act l)

  stx_alike : IsFineSpot Stx → (act : Ledger → Result Ledger TokenRefusal) (s z : State) → R s z → ActedAlike (on_stx act s) (on_stx act z)
  stx_alike fine act s z r = subst (λ (l : Ledger). ActedAlike (on_stx act s) (replaced (λ m. with_stx m z) (act l))) (K.stx fine.0 s z r) (by (act s.stx))
    where
      by : (x : Result Ledger TokenRefusal) → ActedAlike (replaced (λ m. with_stx m s) x) (replaced (λ m. with_stx m z) x)
      by (Ok m) = K.put_stx fine.1 m s z r
      by (Err refusal) = refl

  -- the spot of an act is fine
  abbrev IsFineKind : Principal → EventKind → Type 0
  IsFineKind p (Print v) = Unit {0}
  IsFineKind p (FtMint token amount to) = IsFineSpot (Token (of_own p token))
  IsFineKind p (FtTransfer token amount from to) = IsFineSpot (Token (of_own p token))
  IsFineKind p (FtBurn token amount from) = IsFineSpot (Token (of_own p token))
  IsFineKind p (NftMint token id to) = IsFineSpot (Token (of_own p token))
  IsFineKind p (NftTransfer token id from to) = IsFineSpot (Token (of_own p token))
  IsFineKind p (NftBurn token id from) = IsFineSpot (Token (of_own p token))
  IsFineKind p (StxTransfer amount from to) = IsFineSpot Stx
  IsFineKind p (StxBurn amount from) = IsFineSpot Stx

  changed_alike : (p : Principal) (kind : EventKind) → IsFineKind p kind → (s z : State) → R s z → ActedAlike (changed p kind s) (changed p kind z)
  unfolding changed
  changed_alike p (Print v) fine s z r = tt
  changed_alike p (FtMint token amount to) fine s z r = ledger_alike (of_own p token) fine (minted amount (holder to)) s z r
  changed_alike p (FtTransfer token amount from to) fine s z r = ledger_alike (of_own p token) fine (sent amount (holder from) (holder to)) s z r
  changed_alike p (FtBurn token amount from) fine s z r = ledger_alike (of_own p token) fine (burnt amount (holder from)) s z r
  changed_alike p (NftMint token id to) fine s z r = owners_alike (of_own p token) fine (asset_minted (wire id) (holder to)) s z r
  changed_alike p (NftTransfer token id from to) fine s z r = owners_alike (of_own p token) fine (asset_sent (wire id) (holder from) (holder to)) s z r
  changed_alike p (NftBurn token id from) fine s z r = owners_alike (of_own p token) fine (asset_burnt (wire id) (holder from)) s z r
  changed_alike p (StxTransfer amount from to) fine s z r = stx_alike fine (sent amount (holder from) (holder to)) s z r
  changed_alike p (StxBurn amount from) fine s z r = stx_alike fine (burnt_stx amount (holder from)) s z r

  -- ---- events and moves

  moved_related : (p : Principal) (kind : EventKind) (s z : State) → R s z → R (moved p kind s) (moved p kind z)
  unfolding moved
  moved_related p (Print v) s z r = r
  moved_related p (FtMint token amount to) s z r = r
  moved_related p (FtTransfer token amount from to) s z r = K.move _ _ _ s z r
  moved_related p (FtBurn token amount from) s z r = K.move _ _ _ s z r
  moved_related p (NftMint token id to) s z r = r
  moved_related p (NftTransfer token id from to) s z r = K.move _ _ _ s z r
  moved_related p (NftBurn token id from) s z r = K.move _ _ _ s z r
  moved_related p (StxTransfer amount from to) s z r = K.move _ _ _ s z r
  moved_related p (StxBurn amount from) s z r = K.move _ _ _ s z r

  told_alike : (p : Principal) (kind : EventKind) (a b : Acted) → ActedAlike a b → ActedAlike (told p kind a) (told p kind b)
  told_alike p kind None None h = tt
  told_alike p kind (Some (Ok s)) (Some (Ok z)) h = moved_related p kind (with_event p kind s) (with_event p kind z) (K.event p kind s z h)
  told_alike p kind (Some (Err x)) (Some (Err y)) h = h
  told_alike p kind None (Some b) h = absurd h
  told_alike p kind (Some (Ok s)) None h = absurd h
  told_alike p kind (Some (Err x)) None h = absurd h
  told_alike p kind (Some (Ok s)) (Some (Err y)) h = absurd h
  told_alike p kind (Some (Err x)) (Some (Ok z)) h = absurd h

  acted_alike : (p : Principal) (kind : EventKind) → IsFineKind p kind → (s z : State) → R s z → ActedAlike (acted p kind s) (acted p kind z)
  unfolding acted
  acted_alike p kind fine s z r = told_alike p kind (changed p kind s) (changed p kind z) (changed_alike p kind fine s z r)

  acted_by_alike : (sender p : Principal) (kind : EventKind) → IsFineKind p kind → (s z : State) → R s z → ActedAlike (acted_by sender p kind s) (acted_by sender p kind z)
  unfolding acted_by
  acted_by_alike sender p kind fine s z r = by (sender_refusal sender kind)
    where
      by : (o : Option ℕ) → ActedAlike (elim o [ None ↦ acted p kind s | Some n ↦ Some (Err (Code n)) ]) (elim o [ None ↦ acted p kind z | Some n ↦ Some (Err (Code n)) ])
      by None = acted_alike p kind fine s z r
      by (Some n) = refl

  -- ---- answers

  refused_steady : (x : TokenRefusal) → Steady R (λ s. answered s (Some (Err x)))
  refused_steady (Code n) s z r = alike_at _ s z r
  refused_steady SupplyOverflow s z r = alike_at _ s z r

  answered_alike : (a b : Acted) → ActedAlike a b → (s z : State) → R s z → Alike R (answered s a) (answered z b)
  answered_alike None None h s z r = alike_at Wrong s z r
  answered_alike (Some (Ok t)) (Some (Ok u)) h s z r = alike_at _ t u h
  answered_alike (Some (Err x)) (Some (Err y)) h s z r = alike_by (λ (x : TokenRefusal) s. answered s (Some (Err x))) h refused_steady s z r
  answered_alike None (Some b) h s z r = absurd h
  answered_alike (Some (Ok t)) None h s z r = absurd h
  answered_alike (Some (Err x)) None h s z r = absurd h
  answered_alike (Some (Ok t)) (Some (Err y)) h s z r = absurd h
  answered_alike (Some (Err x)) (Some (Ok u)) h s z r = absurd h

  acts_steady : (S : Scope) (kind : EventKind) → IsFineKind S.frame.contract kind → Steady R (acts S kind)
  acts_steady S kind fine s z r = answered_alike _ _ (acted_by_alike S.frame.sender S.frame.contract kind fine s z r) s z r

  -- the spot of a native is fine
  abbrev pub IsFineNative : Principal → TokenNative → List ℕ → Type 0
  IsFineNative p SendStx token = IsFineSpot Stx
  IsFineNative p BurnStx token = IsFineSpot Stx
  IsFineNative p native token = IsFineSpot (Token (of_own p token))

  pub act_steady : (S : Scope) (native : TokenNative) (token : List ℕ) → IsFineNative S.frame.contract native token → (vs : List Val) → Steady R (with_known (act_of native token vs) (acts S))
  act_steady S MintFt token fine (UintV n ∷ PrincipalV to ∷ []) s z r = acts_steady S (FtMint token n to) fine s z r
  act_steady S BurnFt token fine (UintV n ∷ PrincipalV from ∷ []) s z r = acts_steady S (FtBurn token n from) fine s z r
  act_steady S SendFt token fine (UintV n ∷ PrincipalV from ∷ PrincipalV to ∷ []) s z r = acts_steady S (FtTransfer token n from to) fine s z r
  act_steady S MintNft token fine (id ∷ PrincipalV to ∷ []) s z r = acts_steady S (NftMint token id to) fine s z r
  act_steady S BurnNft token fine (id ∷ PrincipalV from ∷ []) s z r = acts_steady S (NftBurn token id from) fine s z r
  act_steady S SendNft token fine (id ∷ PrincipalV from ∷ PrincipalV to ∷ []) s z r = acts_steady S (NftTransfer token id from to) fine s z r
  act_steady S SendStx token fine (UintV n ∷ PrincipalV from ∷ PrincipalV to ∷ []) s z r = acts_steady S (StxTransfer n from to) fine s z r
  act_steady S BurnStx token fine (UintV n ∷ PrincipalV from ∷ []) s z r = acts_steady S (StxBurn n from) fine s z r
  act_steady S native token fine vs s z r = alike_at Wrong s z r
