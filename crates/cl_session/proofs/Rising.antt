-- Whether heights fall, entry by entry.
use Rattle.std.proofs.Common.{◌≡◌, ℕ, ◌+◌, ◌<◌, ◌≤◌, List, ◌∷◌, length, drop, get_or, sym, ap, subst, ◌∙◌, arith}
use Rattle.std.proofs.lemmas.List.{drop_all, drop_more}
use Rattle.cl_file.specs.Entries.{height_after, NeverFall}
use Rattle.cl_file.specs.declared.entry.Entry.{Entry}
use Rattle.cl_file.specs.declared.entry.Entry.TheVariants.{Deploy, Call, Block}
use Rattle.cl_engine.specs.Steps.{IsCall}

-- the list from a place on begins with the entry there
pub drop_at : (es : List Entry) (i : ℕ) (e : Entry) → i < length es → e ≡ get_or es i e → drop i es ≡ e ∷ drop (i + 1) es
drop_at es i e h is = drop_more es i e h ∙ ap (λ (x : Entry). x ∷ drop (i + 1) es) (sym is)

-- the next entry doesn't fall, and neither do those behind it
pub rises_next : (height : ℕ) (es : List Entry) (i : ℕ) (e : Entry) → i < length es → e ≡ get_or es i e → NeverFall height (drop i es) → (height ≤ height_after height e) × NeverFall (height_after height e) (drop (i + 1) es)
rises_next height es i e h is rises = subst (NeverFall height) (drop_at es i e h is) rises

pub rises_all : (height : ℕ) (es : List Entry) (i : ℕ) (e : Entry) → i < length es → e ≡ get_or es i e → (height ≤ height_after height e) × NeverFall (height_after height e) (drop (i + 1) es) → NeverFall height (drop i es)
rises_all height es i e h is rises = subst (NeverFall height) (sym (drop_at es i e h is)) rises

-- behind the last entry nothing falls
pub rises_end : (height : ℕ) (es : List Entry) (i : ℕ) → length es ≤ i → NeverFall height (drop i es)
rises_end height es i h = subst (NeverFall height) (sym (drop_all i es h)) tt

-- a call leaves the height
pub call_rises : (height : ℕ) (e : Entry) → IsCall e → height ≤ height_after height e
call_rises height (Call common contract function args) is = omega arith
call_rises height (Deploy common name source version) is = absurd is
call_rises height (Block h) is = absurd is
