-- Parts of items whose names and literals are within the limits.
use Rattle.std.proofs.Common.{◌≡◌, ℕ, zero, suc, ◌<◌, ◌≤◌, List, [], ◌∷◌, map, length, get_or, filter_map, subst, arith}
use Rattle.std.specs.List.{cons_option}
use Rattle.cl_sexpr.specs.Fits.{Fits, AllFit, PairsFit, HasPair}
use Rattle.cl_sexpr.specs.Tree.{Tree, ListAt, LeafAt, Named, Empty, Then, forest, pairs, forest_size, forest_depth}
use Rattle.cl_forms.specs.Shapes.{binding_of}
use Rattle.cl_code.specs.declared.op.Binding.{Binding}
use Rattle.cl_code.specs.Expression.{binding}
use Rattle.cl_judging.specs.LetWalk.{exprs_of}

pub part_fits : (items : List Tree) (i : ℕ) (e : Tree) → i < length items → get_or items i e ≡ e → AllFit (forest items) → Fits e
part_fits [] i e lt at h = absurd (omega (arith, lt))
part_fits (t ∷ ts) zero e lt at h = subst Fits at h.0
part_fits (t ∷ ts) (suc i) e lt at h = part_fits ts i e (omega (arith, lt)) at h.1

pub binding_fits : (items : List Tree) (i : ℕ) (item : Tree) (b : Binding) (e : Tree) → i < length items → get_or items i item ≡ item → item ≡ binding b e → AllFit (forest items) → Fits e
binding_fits items i item b e lt at is h =
    let all : Fits (binding b e) = subst Fits is (part_fits items i item lt at h) in all.1.0

pub pairs_fit : (ps : List (List ℕ × Tree)) → PairsFit (pairs ps) → AllFit (forest (map (λ (p : List ℕ × Tree). p.1) ps))
pairs_fit [] h = tt
pairs_fit (p ∷ ps) h = (h.1, pairs_fit ps h.2)

pub pairs_some : (ps : List (List ℕ × Tree)) → HasPair (pairs ps) → 0 < length ps
pairs_some [] h = absurd h
pairs_some (p ∷ ps) h = omega arith

bound_one : (t : Tree) (ts : List Tree) → Fits t → AllFit (forest (exprs_of ts)) → AllFit (forest (map (λ (p : List ℕ × Tree). p.1) (cons_option (binding_of t) (filter_map binding_of ts))))
bound_one (ListAt (Then (LeafAt (Named x) at) (Then e Empty)) s) ts h k = (h.1.0, k)
bound_one t ts h k = k

pub bound_fits : (items : List Tree) → AllFit (forest items) → AllFit (forest (exprs_of items))
bound_fits [] h = tt
bound_fits (t ∷ ts) h = bound_one t ts h.0 (bound_fits ts h.1)

room_one : (t : Tree) (ts : List Tree) → forest_size (forest (exprs_of ts)) ≤ forest_size (forest ts) → forest_size (forest (map (λ (p : List ℕ × Tree). p.1) (cons_option (binding_of t) (filter_map binding_of ts)))) ≤ forest_size (forest (t ∷ ts))
room_one (ListAt (Then (LeafAt (Named x) at) (Then e Empty)) s) ts k = omega (arith, k)
room_one t ts k = omega (arith, k)

deep_one : (t : Tree) (ts : List Tree) → forest_depth (forest (exprs_of ts)) ≤ forest_depth (forest ts) → forest_depth (forest (map (λ (p : List ℕ × Tree). p.1) (cons_option (binding_of t) (filter_map binding_of ts)))) ≤ forest_depth (forest (t ∷ ts))
deep_one (ListAt (Then (LeafAt (Named x) at) (Then e Empty)) s) ts k = omega (arith, k)
deep_one t ts k = omega (arith, k)

-- the expressions of bindings nest no deeper than the bindings
pub bound_deep : (items : List Tree) → forest_depth (forest (exprs_of items)) ≤ forest_depth (forest items)
bound_deep [] = omega arith
bound_deep (t ∷ ts) = deep_one t ts (bound_deep ts)

-- the expressions of bindings are no larger than the bindings
pub bound_room : (items : List Tree) → forest_size (forest (exprs_of items)) ≤ forest_size (forest items)
bound_room [] = omega arith
bound_room (t ∷ ts) = room_one t ts (bound_room ts)
