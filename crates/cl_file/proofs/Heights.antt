-- The height after entries.
use Rattle.std.proofs.Common.{◌≡◌, ℕ, ◌≤◌, List, [], ◌∷◌, ◌++◌, refl}
use Rattle.cl_file.specs.Entries.{height_after, height_of, NeverFall}
use Rattle.cl_file.specs.declared.entry.Entry.{Entry}

pub height_next : (height : ℕ) (es : List Entry) (e : Entry) → height_of height (es ++ e ∷ []) ≡ height_after (height_of height es) e
height_next height [] e = refl
height_next height (x ∷ es) e = height_next (height_after height x) es e

-- one more entry, whose height doesn't fall
pub never_fall_next : (height : ℕ) (es : List Entry) (e : Entry) → NeverFall height es → height_of height es ≤ height_after (height_of height es) e → NeverFall height (es ++ e ∷ [])
never_fall_next height [] e before rises = (rises, tt)
never_fall_next height (x ∷ es) e before rises = (before.0, never_fall_next (height_after height x) es e before.1 rises)
