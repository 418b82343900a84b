-- An act on an asset that was done is taken back by giving the asset to who owned it before.
use Rattle.std.proofs.Common.{◌≡◌, refl, sym, ap, subst, ◌∙◌, List, ℕ}
use Rattle.std.specs.Prelude.{T, Bool, true, false, Ok, Err, Option, Some, None, Result, is_ok, if◌then◌else◌}
use Rattle.cl_maps.specs.Maps.{get, put, without, with_value}
use Rattle.cl_maps.proofs.MapLaws.{same_keys, undone_write}
use Rattle.cl_tokens.specs.declared.refusal.TokenRefusal.{TokenRefusal}
use Rattle.cl_tokens.specs.declared.refusal.TokenRefusal.TheVariants.{Code}
use Rattle.cl_tokens.specs.Table.{is_key}
use Rattle.cl_tokens.specs.Owners.{Owners, given_to, handed_on, taken_off, asset_minted, asset_sent, asset_burnt}

-- the owners after an act, and who owned the asset before
abbrev Wrote : List ℕ → Option (List ℕ) → Option (List ℕ) → Owners → Owners → Type 0
Wrote asset before after m n = (get asset m ≡ before) × (n ≡ with_value asset after m)

abbrev or_old : Owners → Result Owners TokenRefusal → Owners
or_old m (Ok n) = n
or_old m (Err r) = m

fails : {P : Type 0} (n : Owners) (r : TokenRefusal) → ◌≡◌ {A = Result Owners TokenRefusal} (Err r) (Ok n) → P
fails n r e = absurd (subst (λ (x : Result Owners TokenRefusal). T (is_ok x)) (sym e) tt)

gives : (m n p : Owners) → ◌≡◌ {A = Result Owners TokenRefusal} (Ok n) (Ok p) → p ≡ n
gives m n p e = sym (ap (or_old m) e)

wrote_back : (asset : List ℕ) (before after : Option (List ℕ)) (m n : Owners) → Wrote asset before after m n → with_value asset before n ≡ m
wrote_back asset before after m n w = (λ i. with_value asset (sym w.0 i) (w.1 i)) ∙ undone_write m asset after

minted_step : (asset to : List ℕ) (m n : Owners) (o : Option (List ℕ)) → get asset m ≡ o → given_to asset to o m ≡ Ok n → Wrote asset None (Some to) m n
minted_step asset to m n None was e = (was, gives m (put asset to m) n e)
minted_step asset to m n (Some owner) was e = fails n (Code 1) e

pub minted_back : (asset to : List ℕ) (m n : Owners) → asset_minted asset to m ≡ Ok n → with_value asset None n ≡ m
unfolding asset_minted
minted_back asset to m n e = wrote_back asset None (Some to) m n (minted_step asset to m n (get asset m) refl e)

sent_own : (asset from to owner : List ℕ) (m n : Owners) (b : Bool) → is_key owner from ≡ b → get asset m ≡ Some owner → ◌≡◌ {A = Result Owners TokenRefusal} (if b then Ok (put asset to m) else Err (Code 1)) (Ok n) → Wrote asset (Some from) (Some to) m n
sent_own asset from to owner m n true same was e = (was ∙ ap Some (same_keys owner from same), gives m (put asset to m) n e)
sent_own asset from to owner m n false same was e = fails n (Code 1) e

sent_step : (asset from to : List ℕ) (m n : Owners) (o : Option (List ℕ)) → get asset m ≡ o → handed_on asset from to o m ≡ Ok n → Wrote asset (Some from) (Some to) m n
sent_step asset from to m n None was e = fails n (Code 3) e
sent_step asset from to m n (Some owner) was e = sent_own asset from to owner m n (is_key owner from) refl was e

sent_apart : (asset from to : List ℕ) (m n : Owners) (b : Bool) → ◌≡◌ {A = Result Owners TokenRefusal} (if b then Err (Code 2) else handed_on asset from to (get asset m) m) (Ok n) → Wrote asset (Some from) (Some to) m n
sent_apart asset from to m n true e = fails n (Code 2) e
sent_apart asset from to m n false e = sent_step asset from to m n (get asset m) refl e

pub sent_back : (asset from to : List ℕ) (m n : Owners) → asset_sent asset from to m ≡ Ok n → with_value asset (Some from) n ≡ m
unfolding asset_sent
sent_back asset from to m n e = wrote_back asset (Some from) (Some to) m n (sent_apart asset from to m n (is_key from to) e)

burnt_own : (asset from owner : List ℕ) (m n : Owners) (b : Bool) → is_key owner from ≡ b → get asset m ≡ Some owner → ◌≡◌ {A = Result Owners TokenRefusal} (if b then Ok (without asset m) else Err (Code 1)) (Ok n) → Wrote asset (Some from) None m n
burnt_own asset from owner m n true same was e = (was ∙ ap Some (same_keys owner from same), gives m (without asset m) n e)
burnt_own asset from owner m n false same was e = fails n (Code 1) e

burnt_step : (asset from : List ℕ) (m n : Owners) (o : Option (List ℕ)) → get asset m ≡ o → taken_off asset from o m ≡ Ok n → Wrote asset (Some from) None m n
burnt_step asset from m n None was e = fails n (Code 3) e
burnt_step asset from m n (Some owner) was e = burnt_own asset from owner m n (is_key owner from) refl was e

pub burnt_back : (asset from : List ℕ) (m n : Owners) → asset_burnt asset from m ≡ Ok n → with_value asset (Some from) n ≡ m
unfolding asset_burnt
burnt_back asset from m n e = wrote_back asset (Some from) None m n (burnt_step asset from m n (get asset m) refl e)

-- ------------------------------------------------------------ the owners after an act

pub minted_gives : (asset to : List ℕ) (m n : Owners) → asset_minted asset to m ≡ Ok n → n ≡ with_value asset (Some to) m
unfolding asset_minted
minted_gives asset to m n e = (minted_step asset to m n (get asset m) refl e).1

pub sent_gives : (asset from to : List ℕ) (m n : Owners) → asset_sent asset from to m ≡ Ok n → n ≡ with_value asset (Some to) m
unfolding asset_sent
sent_gives asset from to m n e = (sent_apart asset from to m n (is_key from to) e).1

pub burnt_gives : (asset from : List ℕ) (m n : Owners) → asset_burnt asset from m ≡ Ok n → n ≡ with_value asset None m
unfolding asset_burnt
burnt_gives asset from m n e = (burnt_step asset from m n (get asset m) refl e).1
