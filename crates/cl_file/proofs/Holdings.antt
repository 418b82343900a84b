-- What holders have together, one more.
use Rattle.std.proofs.Common.{◌≡◌, ℕ, ◌+◌, ◌<◌, List, [], ◌∷◌, ◌++◌, append_assoc, append-nil, subst, length, take, slice_get, false, Option, Some, None, refl, sym, ap, ◌∙◌}
use Rattle.std.proofs.lemmas.List.{take_more}
use Rattle.std.proofs.lemmas.List.Sums.{sum_by_more}
use Rattle.std.proofs.lemmas.Option.{get_or_from_slice_get}
use Rattle.cl_c32.specs.declared.principal.Principal.{Principal}
use Rattle.std.specs.Option.{is_some}
use Rattle.std.specs.Map.{lookup}
use Rattle.std.proofs.lemmas.Map.Made.{is_some-lookup}
use Rattle.cl_c32.specs.Principals.{same_principal}
use Rattle.cl_file.specs.Files.{total, holds, AreOnce}

pub total_next : (hs : List (Principal × ℕ)) (i : ℕ) (h : Principal × ℕ) → i < length hs → Some h ≡ slice_get hs i → total (take i hs) + h.1 ≡ total (take (i + 1) hs)
total_next hs i h below e =
    ap (λ (k : Principal × ℕ). total (take i hs) + k.1) (sym (get_or_from_slice_get hs i h h (sym e))) ∙ sym (sum_by_more (λ (x : Principal × ℕ). x.1) hs i h below)

none_there : (o : Option ℕ) → is_some o ≡ false → o ≡ None
none_there None e = refl
none_there (Some n) e = absurd cc

pub not_found : (p : Principal) (hs : List (Principal × ℕ)) → holds hs p ≡ false → lookup (same_principal p) hs ≡ None
not_found p hs e = none_there (lookup (same_principal p) hs) (is_some-lookup (same_principal p) hs ∙ e)

-- one more holder, who holds nothing yet
pub once_next : (done hs : List (Principal × ℕ)) (h : Principal × ℕ) → AreOnce done hs → holds (done ++ hs) h.0 ≡ false → AreOnce done (hs ++ h ∷ [])
once_next done [] h before new = (subst (λ (x : List (Principal × ℕ)). holds x h.0 ≡ false) (append-nil done) new, tt)
once_next done (x ∷ hs) h before new = (before.0, once_next (done ++ x ∷ []) hs h before.1 (subst (λ (y : List (Principal × ℕ)). holds y h.0 ≡ false) (sym (append_assoc done (x ∷ []) hs)) new))

-- one more of the first holders
pub taken_next : (hs : List (Principal × ℕ)) (i : ℕ) (h : Principal × ℕ) → i < length hs → Some h ≡ slice_get hs i → take i hs ++ h ∷ [] ≡ take (i + 1) hs
taken_next hs i h below e =
    ap (λ (k : Principal × ℕ). take i hs ++ k ∷ []) (sym (get_or_from_slice_get hs i h h (sym e))) ∙ sym (take_more hs i h below)
