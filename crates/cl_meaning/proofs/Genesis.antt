-- The first state of a node is kept.
use Rattle.std.proofs.Common.{◌≡◌, ℕ, ◌<◌, Bool, true, false, List, [], ◌∷◌, Option, Some, None, refl, arith, ap, sym, ◌∙◌}
use Rattle.std.specs.Prelude.{◌+◌, ◌==◌, nat_lt, Contains, Result, Ok, Err, if◌then◌else◌}
use Rattle.std.specs.List.{AllByRecursion as ByRecursion}
use Rattle.std.proofs.lemmas.Option.{none-some}
use Rattle.cl_c32.specs.declared.principal.Principal.{Principal}
use Rattle.cl_values.specs.Valid.{IsPrincipal}
use Rattle.cl_maps.specs.Maps.{Map, get, or_zero}
use Rattle.cl_maps.proofs.MapLaws.{same_keys}
use Rattle.cl_tokens.specs.declared.refusal.TokenRefusal.{TokenRefusal}
use Rattle.cl_tokens.specs.declared.refusal.TokenRefusal.TheVariants.{Code, SupplyOverflow}
use Rattle.cl_tokens.specs.Table.{is_key}
use Rattle.cl_tokens.specs.Ledger.{Ledger, IsLedger, most_of, balance, minted}
use Rattle.cl_tokens.proofs.Acts.{minted_sound, minted_moves}
use Rattle.cl_events.specs.State.{holder, or_as_before, holdings, genesis}
use Rattle.cl_events.proofs.Genesis.{holdings_ledger}
use Rattle.cl_meaning.specs.Kept.{IsHolder, Whole, Kept}

-- each key of balances is a holder's
abbrev AreHolders : Ledger → Type 0
AreHolders l = (key : List ℕ) (n : ℕ) → get key l.balances ≡ Some n → IsHolder key

some_there : (o : Option ℕ) (n : ℕ) → or_zero o ≡ n → 0 < n → (k : ℕ) × (o ≡ Some k)
some_there (Some k) n e h = (k, refl)
some_there None n e h = absurd (omega (arith, e, h))

there_before : (key : List ℕ) (m : Map ℕ) (n : ℕ) → balance key m ≡ n → 0 < n → (k : ℕ) × (get key m ≡ Some k)
unfolding balance
there_before key m n e h = some_there (get key m) n e h

balance_there : (key : List ℕ) (m : Map ℕ) (n : ℕ) → get key m ≡ Some n → balance key m ≡ n
unfolding balance
balance_there key m n e = ap or_zero e

new_or_old : (p : Principal) (key : List ℕ) (l : Ledger) (n k : ℕ) (b : Bool) → IsPrincipal p → AreHolders l → is_key key (holder p) ≡ b → n ≡ (if b then k else balance key l.balances) → 0 < n → IsHolder key
new_or_old p key l n k true valid holders same e h = record { principal = p; valid = valid; spelled = same_keys key (holder p) same }
new_or_old p key l n k false valid holders same e h =
    let before : (k : ℕ) × (get key l.balances ≡ Some k) = there_before key l.balances n (sym e) h in
    holders key before.0 before.1

minted_holders : (p : Principal) (amount : ℕ) (l m : Ledger) → IsPrincipal p → IsLedger l → AreHolders l → minted amount (holder p) l ≡ Ok m → AreHolders m
minted_holders p amount l m valid sound holders done key n e =
    new_or_old p key l n _ (is_key key (holder p)) valid holders refl (sym (balance_there key m.balances n e) ∙ minted_moves amount (holder p) l m done key) ((minted_sound amount (holder p) l m sound done).positive key n e)

or_holders : (p : Principal) (amount : ℕ) (l : Ledger) (r : Result Ledger TokenRefusal) → IsPrincipal p → IsLedger l → AreHolders l → minted amount (holder p) l ≡ r → AreHolders (or_as_before l r)
or_holders p amount l (Ok m) valid sound holders done = minted_holders p amount l m valid sound holders done
or_holders p amount l (Err refusal) valid sound holders done = holders

holdings_holders : (hs : List (Principal × ℕ)) → ByRecursion (λ h. IsPrincipal h.0) hs → AreHolders (holdings hs)
holdings_holders [] valid = λ key n e. absurd (none-some n e)
holdings_holders (h ∷ hs) valid = or_holders h.0 h.1 (holdings hs) (minted h.1 (holder h.0) (holdings hs)) valid.0 (holdings_ledger hs) (holdings_holders hs valid.1) refl

uncapped_or : (l : Ledger) (r : Result Ledger TokenRefusal) → l.cap ≡ None → ((m : Ledger) → r ≡ Ok m → m.cap ≡ l.cap) → (or_as_before l r).cap ≡ None
uncapped_or l (Ok m) none kept = kept m refl ∙ none
uncapped_or l (Err refusal) none kept = none

ok_same : (l m : Ledger) → ◌≡◌ {A = Result Ledger TokenRefusal} (Ok l) (Ok m) → l ≡ m
ok_same l m e = cc

err_ok : (refusal : TokenRefusal) (m : Ledger) → ◌≡◌ {A = Result Ledger TokenRefusal} (Err refusal) (Ok m) → ⊥
err_ok refusal m e = cc

minted_step : (none over : Bool) (l m : Ledger) (n : ℕ) (b : Map ℕ) → (if none then Err (Code 1) else if over then Err SupplyOverflow else Ok (record { cap = l.cap; supply = l.supply + n; balances = b })) ≡ Ok m → m.cap ≡ l.cap
minted_step true over l m n b e = absurd (err_ok (Code 1) m e)
minted_step false true l m n b e = absurd (err_ok SupplyOverflow m e)
minted_step false false l m n b e = sym (ap (λ x. x.cap) (ok_same _ m e))

minted_cap : (amount : ℕ) (to : List ℕ) (l m : Ledger) → minted amount to l ≡ Ok m → m.cap ≡ l.cap
unfolding minted
minted_cap amount to l m e = minted_step (amount == 0) (nat_lt (most_of l.cap) (l.supply + amount)) l m amount _ e

holdings_uncapped : (hs : List (Principal × ℕ)) → (holdings hs).cap ≡ None
holdings_uncapped [] = refl
holdings_uncapped (h ∷ hs) = uncapped_or (holdings hs) (minted h.1 (holder h.0) (holdings hs)) (holdings_uncapped hs) (λ m e. minted_cap h.1 (holder h.0) (holdings hs) m e)

nowhere : {W : Type 0} (c : W) → Contains [] c → ⊥
nowhere c there = omega (arith, there.1)

pub genesis_kept : (hs : List (Principal × ℕ)) → ByRecursion (λ h. IsPrincipal h.0) hs → Kept [] Whole (genesis hs)
genesis_kept hs valid = record {
  variables_there = λ c x t e d now. absurd (nowhere c d.there);
  variables = λ key v e. absurd (none-some v e);
  entries = λ key v e. absurd (none-some v e);
  fungibles_there = λ c x e d now. absurd (nowhere c d.there);
  fungibles = λ key l e. absurd (none-some l e);
  nonfungibles_there = λ c x t d now. absurd (nowhere c d.there);
  nonfungibles = λ key o e. absurd (none-some o e);
  stx = record { ledger = holdings_ledger hs; holders = holdings_holders hs valid };
  uncapped = holdings_uncapped hs;
}
