-- Items taken apart.
use Rattle.std.proofs.Common.{◌≡◌, ℕ, ◌<◌, ◌≤◌, ◌+◌, List, [], ◌∷◌, ◌++◌, length, get_or, drop, option_map, append_assoc, Option, Some, None, refl, sym, ap, ◌∙◌, Vec, Global}
use Rattle.std.proofs.lemmas.List.{append-nil, drop_all}
use Rattle.std.specs.Borrow.{Bor}
use Rattle.cl_values.proofs.Lists.{next_part}
use Rattle.cl_sexpr.specs.declared.sexpr.Span.{Span}
use Rattle.cl_sexpr.specs.declared.sexpr.Node.{Node}
use Rattle.cl_sexpr.specs.declared.sexpr.Node.TheVariants.{List as Items}
use Rattle.cl_sexpr.specs.Tree.{Tree, Named, LeafAt, ListAt, TupleAt, Empty, Then}
use Rattle.cl_sexpr.specs.View.{tree_of}
use Rattle.cl_forms.specs.Shapes.{binding_of, bindings_of, and_binding}
use Rattle.cl_audit_steps.specs.Items.{two_of, items_of, pair_in, named_of, fields_seen}
use Rattle.cl_audit_steps.proofs.StartLaws.{trees_again}

-- a key and an expression as the code holds them
abbrev pub Field : Type 0
Field = Bor (List ℕ) × Bor Tree

pub list_items : (n : Node) (at : Span) (e : Tree) (v : Vec Tree Global) (es : List Tree) → tree_of n at ≡ e → n ≡ Items v → es ≡ v.items → Some es ≡ items_of e
list_items n at e v es view is same =
    ap Some (same ∙ sym (trees_again v.items)) ∙ sym (ap (λ m. items_of (tree_of m at)) is) ∙ ap items_of view

abbrev pub pair_of : Option (List Tree) → Option (List ℕ × Tree)
pair_of None = None
pair_of (Some es) = pair_in (two_of es)

pub binding_by : (e : Tree) → binding_of e ≡ pair_of (items_of e)
binding_by (LeafAt l at) = refl
binding_by (TupleAt ps at) = refl
binding_by (ListAt Empty at) = refl
binding_by (ListAt (Then a Empty) at) = one a
  where
    one : (a : Tree) → binding_of (ListAt (Then a Empty) at) ≡ None
    one (LeafAt (Named x) at') = refl
    one (LeafAt l at') = refl
    one (ListAt es at') = refl
    one (TupleAt ps at') = refl
binding_by (ListAt (Then (LeafAt (Named x) at') (Then b Empty)) at) = refl
binding_by (ListAt (Then (LeafAt l at') (Then b Empty)) at) = refl
binding_by (ListAt (Then (ListAt es at') (Then b Empty)) at) = refl
binding_by (ListAt (Then (TupleAt ps at') (Then b Empty)) at) = refl
binding_by (ListAt (Then a (Then b (Then c es))) at) = more a
  where
    more : (a : Tree) → binding_of (ListAt (Then a (Then b (Then c es))) at) ≡ None
    more (LeafAt (Named x) at') = refl
    more (LeafAt l at') = refl
    more (ListAt es' at') = refl
    more (TupleAt ps at') = refl

-- the parts of a binding
pub binding_found : (e : Tree) (es : List Tree) → Some es ≡ items_of e → named_of es ≡ binding_of e
binding_found e es h = ap pair_of h ∙ sym (binding_by e)

pub no_items : (e : Tree) → None ≡ items_of e → None ≡ binding_of e
no_items e h = ap pair_of h ∙ sym (binding_by e)

-- ---- keys and expressions

mapped_more : (fs : List Field) (f : Field) → fields_seen (fs ++ f ∷ []) ≡ fields_seen fs ++ (f.0.now, f.1.now) ∷ []
mapped_more [] f = refl
mapped_more (g ∷ fs) f = ap (λ l. (g.0.now, g.1.now) ∷ l) (mapped_more fs f)

pub fields_turn : (ps whole : List (List ℕ × Tree)) (i : ℕ) (p : List ℕ × Tree) (fs gs : List Field) (f : Field) → i < length ps → p ≡ get_or ps i p → (f.0.now, f.1.now) ≡ p → gs ≡ fs ++ f ∷ [] → fields_seen fs ++ drop i ps ≡ whole → fields_seen gs ++ drop (i + 1) ps ≡ whole
fields_turn ps whole i p fs gs f here is field more so_far =
    ap (λ l. fields_seen l ++ drop (i + 1) ps) more ∙ ap (λ l. l ++ drop (i + 1) ps) (mapped_more fs f)
    ∙ append_assoc (fields_seen fs) ((f.0.now, f.1.now) ∷ []) (drop (i + 1) ps)
    ∙ ap (λ q. fields_seen fs ++ q ∷ drop (i + 1) ps) field
    ∙ ap (λ l. fields_seen fs ++ l) (sym (next_part ps i p here is)) ∙ so_far

pub fields_end : (ps whole : List (List ℕ × Tree)) (i : ℕ) (fs : List Field) → length ps ≤ i → fields_seen fs ++ drop i ps ≡ whole → fields_seen fs ≡ whole
fields_end ps whole i fs past so_far = sym (append-nil (fields_seen fs)) ∙ ap (λ l. fields_seen fs ++ l) (sym (drop_all i ps past)) ∙ so_far

-- ---- bindings

abbrev pub onto : List Field → Option (List (List ℕ × Tree)) → Option (List (List ℕ × Tree))
onto fs o = option_map (λ l. fields_seen fs ++ l) o

one_more : (fs gs : List Field) (f : Field) (o : Option (List (List ℕ × Tree))) → gs ≡ fs ++ f ∷ [] → onto fs (and_binding (Some (f.0.now, f.1.now)) o) ≡ onto gs o
one_more fs gs f None more = refl
one_more fs gs f (Some l) more = ap Some (sym (ap (λ g. fields_seen g ++ l) more ∙ ap (λ g. g ++ l) (mapped_more fs f) ∙ append_assoc (fields_seen fs) ((f.0.now, f.1.now) ∷ []) l))

next_binding : (es : List Tree) (i : ℕ) (e : Tree) → i < length es → e ≡ get_or es i e → bindings_of (drop i es) ≡ and_binding (binding_of e) (bindings_of (drop (i + 1) es))
next_binding es i e here is = ap bindings_of (next_part es i e here is)

pub bindings_turn : (es : List Tree) (whole : Option (List (List ℕ × Tree))) (i : ℕ) (e : Tree) (fs gs : List Field) (f : Field) → i < length es → e ≡ get_or es i e → Some (f.0.now, f.1.now) ≡ binding_of e → gs ≡ fs ++ f ∷ [] → onto fs (bindings_of (drop i es)) ≡ whole → onto gs (bindings_of (drop (i + 1) es)) ≡ whole
bindings_turn es whole i e fs gs f here is found more so_far =
    sym (one_more fs gs f (bindings_of (drop (i + 1) es)) more)
    ∙ ap (λ p. onto fs (and_binding p (bindings_of (drop (i + 1) es)))) found
    ∙ ap (onto fs) (sym (next_binding es i e here is)) ∙ so_far

pub bindings_stop : (es : List Tree) (whole : Option (List (List ℕ × Tree))) (i : ℕ) (e : Tree) (fs : List Field) → i < length es → e ≡ get_or es i e → None ≡ binding_of e → onto fs (bindings_of (drop i es)) ≡ whole → None ≡ whole
bindings_stop es whole i e fs here is found so_far =
    ap (λ p. onto fs (and_binding p (bindings_of (drop (i + 1) es)))) found ∙ ap (onto fs) (sym (next_binding es i e here is)) ∙ so_far

pub bindings_start : (o : Option (List (List ℕ × Tree))) → onto [] o ≡ o
bindings_start None = refl
bindings_start (Some l) = refl

pub bindings_end : (es : List Tree) (whole : Option (List (List ℕ × Tree))) (i : ℕ) (fs : List Field) → length es ≤ i → onto fs (bindings_of (drop i es)) ≡ whole → Some (fields_seen fs) ≡ whole
bindings_end es whole i fs past so_far = ap Some (sym (append-nil (fields_seen fs))) ∙ ap (λ l. onto fs (bindings_of l)) (sym (drop_all i es past)) ∙ so_far
