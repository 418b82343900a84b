-- Rows of items, and bindings.
use Rattle.std.specs.Prelude.{◌≡◌, ℕ, List, [], ◌∷◌, ◌++◌, Option, Some, None, option_map, option_and_then, refl}
use Rattle.std.proofs.Common.{◌∙◌, sym, ap, append_assoc}
use Rattle.cl_sexpr.specs.Tree.{Tree, LeafAt, ListAt, TupleAt, Named, Empty, Then, Forest, forest, items_in}
use Rattle.cl_forms.specs.Shapes.{trees_of, binding_of, and_binding}
use Rattle.cl_forms.specs.Items.{two_of, items_of, parts_behind}
use Rattle.cl_forms.specs.ItemView.{binding_in, behind}

pub trees_forest : (ts : List Tree) → trees_of (forest ts) ≡ ts
trees_forest [] = refl
trees_forest (t ∷ ts) = ap (λ us. t ∷ us) (trees_forest ts)

-- a binding is read from the two items of a list
pub binding_parts : (e : Tree) → binding_of e ≡ option_and_then (λ ts. binding_in (two_of ts)) (items_of e)
binding_parts (LeafAt l at) = refl
binding_parts (TupleAt ps at) = refl
binding_parts (ListAt Empty at) = refl
binding_parts (ListAt (Then (LeafAt (Named x) at') Empty) at) = refl
binding_parts (ListAt (Then (LeafAt l at') Empty) at) = refl
binding_parts (ListAt (Then (ListAt es at') Empty) at) = refl
binding_parts (ListAt (Then (TupleAt ps at') Empty) at) = refl
binding_parts (ListAt (Then (LeafAt (Named x) at') (Then e Empty)) at) = refl
binding_parts (ListAt (Then (LeafAt l at') (Then e Empty)) at) = refl
binding_parts (ListAt (Then (ListAt es at') (Then e Empty)) at) = refl
binding_parts (ListAt (Then (TupleAt ps at') (Then e Empty)) at) = refl
binding_parts (ListAt (Then (LeafAt (Named x) at') (Then e (Then d es))) at) = refl
binding_parts (ListAt (Then (LeafAt l at') (Then e (Then d es))) at) = refl
binding_parts (ListAt (Then (ListAt fs at') (Then e (Then d es))) at) = refl
binding_parts (ListAt (Then (TupleAt ps at') (Then e (Then d es))) at) = refl

-- one more binding is read
pub bound_next : (xs : List (List ℕ × Tree)) (p : List ℕ × Tree) (o : Option (List (List ℕ × Tree))) → option_map (λ more. xs ++ more) (and_binding (Some p) o) ≡ option_map (λ more. (xs ++ p ∷ []) ++ more) o
bound_next xs p None = refl
bound_next xs p (Some more) = ap (λ (ys : List (List ℕ × Tree)). Some ys) (sym (append_assoc xs (p ∷ []) more))

-- the items that a list gives away, as the rows that they are
pub items_given : {V : Type 0} (items : V → List Tree) (o : Option V) (e : Tree) → option_map (λ v. forest (items v)) o ≡ items_in e → option_map items o ≡ items_of e
items_given items None (LeafAt l at) h = refl
items_given items None (TupleAt ps at) h = refl
items_given items None (ListAt es at) h = absurd cc
items_given items (Some v) (LeafAt l at) h = absurd cc
items_given items (Some v) (TupleAt ps at) h = absurd cc
items_given items (Some v) (ListAt es at) h =
    let same : forest (items v) ≡ es = cc in
    ap (λ (ts : List Tree). Some ts) (sym (trees_forest (items v))) ∙ ap (λ (f : Forest). Some (trees_of f)) same

-- what stands behind the first of the items of a list, and that there is none where there is no list
pub behind_items : (e : Tree) (ts : List Tree) → Some ts ≡ items_of e → behind ts ≡ parts_behind e
behind_items (LeafAt l at) ts h = absurd cc
behind_items (TupleAt ps at) ts h = absurd cc
behind_items (ListAt Empty at) ts h = let same : ts ≡ [] = cc in ap behind same
behind_items (ListAt (Then t es) at) ts h = let same : ts ≡ t ∷ trees_of es = cc in ap behind same

pub behind_none : (e : Tree) → None ≡ items_of e → [] ≡ parts_behind e
behind_none (LeafAt l at) h = refl
behind_none (TupleAt ps at) h = refl
behind_none (ListAt es at) h = absurd cc
