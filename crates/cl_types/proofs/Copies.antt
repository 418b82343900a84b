-- Lists that are copied one by one.
use Rattle.std.proofs.Common.{◌≡◌, ℕ, ◌+◌, ◌<◌, ◌++◌, List, [], ◌∷◌, length, take, get_or, sym, ap, ◌∙◌}
use Rattle.std.proofs.lemmas.List.{take_more}

-- one more copy
pub copied : {X : Type 0} (xs copies : List X) (i : ℕ) (x copy : X) → i < length xs → x ≡ get_or xs i x → copies ≡ take i xs → copy ≡ x → copies ++ copy ∷ [] ≡ take (i + 1) xs
copied {X = X} xs copies i x copy h at so_far same =
    ap (λ (ys : List X). ys ++ copy ∷ []) so_far ∙ ap (λ (y : X). take i xs ++ y ∷ []) (same ∙ at) ∙ sym (take_more xs i x h)
