-- The last component of a path stands behind its last `/`.
use Rattle.std.proofs.Common.{◌≡◌, ℕ, zero, suc, ◌+◌, ◌<◌, Bool, true, false, List, [], ◌∷◌, length, drop, get_or, refl, sym, ap, subst, ◌∙◌, arith}
use Rattle.std.specs.Prelude.{if◌then◌else◌, ◌||◌}
use Rattle.std.specs.List.{list_any}
use Rattle.cl_words.specs.Sources.{is_slash, last_component}

pub no_slash : (path : List ℕ) → list_any is_slash path ≡ false → last_component path ≡ path
no_slash [] h = refl
no_slash (b ∷ bytes) h = ap (λ (any : Bool). if any then last_component bytes else b ∷ bytes) h

or_true : (a b : Bool) → b ≡ true → (a || b) ≡ true
or_true true b h = refl
or_true false b h = h

slash_at : (path : List ℕ) (i d : ℕ) → i < length path → get_or path i d ≡ 47 → list_any is_slash path ≡ true
slash_at [] i d h e = absurd (omega (arith, h))
slash_at (b ∷ bytes) zero d h e = ap (λ (c : ℕ). is_slash c || list_any is_slash bytes) e
slash_at (b ∷ bytes) (suc i) d h e = or_true (is_slash b) (list_any is_slash bytes) (slash_at bytes i d (omega (arith, h)) e)

pub behind_slash : (path : List ℕ) (i d : ℕ) → i < length path → get_or path i d ≡ 47 → list_any is_slash (drop (i + 1) path) ≡ false → last_component path ≡ drop (i + 1) path
behind_slash [] i d h e none = absurd (omega (arith, h))
behind_slash (b ∷ bytes) zero d h e none =
    ap (λ (any : Bool). if any then last_component bytes else b ∷ bytes) (slash_at (b ∷ bytes) zero d h e) ∙ no_slash bytes none
behind_slash (b ∷ bytes) (suc i) d h e none =
    let next : suc i + 1 ≡ suc (i + 1) = omega arith in
    ap (λ (any : Bool). if any then last_component bytes else b ∷ bytes) (slash_at (b ∷ bytes) (suc i) d h e)
    ∙ behind_slash bytes i d (omega (arith, h)) e (subst (λ (k : ℕ). list_any is_slash (drop k (b ∷ bytes)) ≡ false) next none)
    ∙ ap (λ (k : ℕ). drop k (b ∷ bytes)) (sym next)
