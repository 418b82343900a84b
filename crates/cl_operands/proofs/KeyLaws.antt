-- Keys that stand once.
use Rattle.std.proofs.Common.{◌≡◌, ℕ, List, [], ◌∷◌, map, Bool, true, false, refl, sym, ap, ◌∙◌}
use Rattle.std.specs.Prelude.{◌&&◌, ◌||◌, not}
use Rattle.cl_forms.specs.Names.{same, is_one_of, stands_twice}
use Rattle.cl_values.specs.Tree.{Tree as Val, entries_of}
use Rattle.cl_values.specs.Tuples.{is_among}
use Rattle.cl_seq.specs.Merging.{are_apart}

abbrev Entries : Type 0
Entries = List (List ℕ × Val)

abbrev keys : Entries → List (List ℕ)
keys es = map (λ e. e.0) es

among_is : (k : List ℕ) (es : Entries) → is_among k (entries_of es) ≡ is_one_of (keys es) k
among_is k [] = refl
among_is k (e ∷ es) = ap (λ b. same k e.0 || b) (among_is k es)

neither : (a b : Bool) → a || b ≡ false → (a ≡ false) × (b ≡ false)
neither true b h = absurd cc
neither false b h = (refl, h)

both : (a b : Bool) → a ≡ false → b ≡ true → not a && b ≡ true
both true b h k = absurd cc
both false b h k = k

apart_by : (es : Entries) → stands_twice (keys es) ≡ false → are_apart es ≡ true
apart_by [] h = refl
apart_by (e ∷ es) h =
    let each = neither (is_one_of (keys es) e.0) (stands_twice (keys es)) h in
    both (is_among e.0 (entries_of es)) (are_apart es) (among_is e.0 es ∙ each.0) (apart_by es each.1)

pub apart : (es fs : Entries) (b : Bool) → b ≡ stands_twice (keys fs) → b ≡ false → fs ≡ es → are_apart es ≡ true
apart es fs b h k same = ap are_apart (sym same) ∙ apart_by fs (sym h ∙ k)
