-- The span that ends first, one part of an item after another.
use Rattle.std.specs.Prelude.{◌≡◌, ℕ, ◌+◌, ◌<◌, List, [], ◌∷◌, ◌++◌, length, drop, get_or, fold, Option, refl}
use Rattle.std.proofs.Common.{◌∙◌, sym, ap, add-one, drop-cons}
use Rattle.cl_sexpr.specs.declared.sexpr.Span.{Span}
use Rattle.cl_sexpr.specs.Tree.{Tree, forest, pairs}
use Rattle.cl_forms.specs.FormBreaks.{left_out_in, left_out_of, left_out_of_pairs}
use Rattle.cl_forms.specs.Looks.{earliest}

pub fold_append : (best : Option Span) (xs ys : List Span) → fold earliest best (xs ++ ys) ≡ fold earliest (fold earliest best xs) ys
fold_append best [] ys = refl
fold_append best (x ∷ xs) ys = fold_append (earliest best x) xs ys

pub part_next : (ts : List Tree) (i : ℕ) (d : Tree) → i < length ts → (best : Option Span) → fold earliest (fold earliest best (left_out_in (get_or ts i d))) (left_out_of (forest (drop (i + 1) ts))) ≡ fold earliest best (left_out_of (forest (drop i ts)))
part_next ts i d inside best =
    let e : get_or ts i d ∷ drop (i + 1) ts ≡ drop i ts = rw add-one (sym (drop-cons ts i d inside)) in
    sym (fold_append best (left_out_in (get_or ts i d)) (left_out_of (forest (drop (i + 1) ts)))) ∙ ap (λ us. fold earliest best (left_out_of (forest us))) e

pub pair_next : (ps : List (List ℕ × Tree)) (i : ℕ) (d : List ℕ × Tree) → i < length ps → (best : Option Span) → fold earliest (fold earliest best (left_out_in (get_or ps i d).1)) (left_out_of_pairs (pairs (drop (i + 1) ps))) ≡ fold earliest best (left_out_of_pairs (pairs (drop i ps)))
pair_next ps i d inside best =
    let e : get_or ps i d ∷ drop (i + 1) ps ≡ drop i ps = rw add-one (sym (drop-cons ps i d inside)) in
    sym (fold_append best (left_out_in (get_or ps i d).1) (left_out_of_pairs (pairs (drop (i + 1) ps)))) ∙ ap (λ us. fold earliest best (left_out_of_pairs (pairs us))) e
