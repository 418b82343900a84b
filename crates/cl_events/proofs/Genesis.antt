-- The first STX is a ledger.
use Rattle.std.proofs.Common.{◌≡◌, ℕ, List, [], ◌∷◌, None, refl}
use Rattle.std.specs.Prelude.{Result, Ok, Err}
use Rattle.cl_c32.specs.declared.principal.Principal.{Principal}
use Rattle.cl_tokens.specs.declared.refusal.TokenRefusal.{TokenRefusal}
use Rattle.cl_tokens.specs.Ledger.{Ledger, IsLedger, minted}
use Rattle.cl_tokens.proofs.Balances.{empty_kept}
use Rattle.cl_tokens.proofs.Acts.{minted_sound}
use Rattle.cl_events.specs.State.{holder, or_as_before, holdings}

kept_or : (amount : ℕ) (to : List ℕ) (l : Ledger) (r : Result Ledger TokenRefusal) → IsLedger l → minted amount to l ≡ r → IsLedger (or_as_before l r)
kept_or amount to l (Ok m) h done = minted_sound amount to l m h done
kept_or amount to l (Err refusal) h done = h

pub holdings_ledger : (holders : List (Principal × ℕ)) → IsLedger (holdings holders)
holdings_ledger [] = empty_kept None
holdings_ledger (h ∷ hs) = kept_or h.1 (holder h.0) (holdings hs) (minted h.1 (holder h.0) (holdings hs)) (holdings_ledger hs) refl
