-- Bindings.
use Rattle.std.proofs.Common.{◌≡◌, ℕ, zero, suc, ◌<◌, ◌≤◌, Bool, true, false, List, [], ◌∷◌, length, take, get_or, Option, Some, None, refl, ap, ◌∙◌, arith}
use Rattle.std.specs.Prelude.{◌||◌, option_map, is_some}
use Rattle.cl_types.specs.Types.{PlainType, NoType}
use Rattle.cl_sexpr.specs.declared.sexpr.Span.{Span}
use Rattle.cl_sexpr.specs.Tree.{Tree, ListAt, forest, Then, Empty}
use Rattle.cl_forms.specs.Items.{atom_of, two_of}
use Rattle.cl_forms.specs.ItemView.{binding_in}
use Rattle.cl_forms.specs.Shapes.{binding_of, bindings_of, and_binding}
use Rattle.cl_forms.proofs.Bindings.{binding_parts, trees_forest}
use Rattle.cl_forms.specs.Heads.{is_reserved}
use Rattle.cl_rules.specs.Context.{Context, Names, named_in, is_named, bind}
use Rattle.cl_rules.specs.ControlShapes.{is_shadowed}
use Rattle.cl_code.specs.declared.op.Word.{Word}
use Rattle.cl_code.specs.Expression.{binding, word}
use Rattle.cl_judging.specs.declared.context.Context.{Context as CodeContext}
use Rattle.cl_judging.specs.Seen.{Shows, taken_in, top_level_in, shadowed_in}
use Rattle.cl_judging.proofs.Contexts.{taken_is}

-- ---- items that are bindings

list_binding : (items : List Tree) (at : Span) → binding_of (ListAt (forest items) at) ≡ binding_in (two_of items)
list_binding items at = binding_parts (ListAt (forest items) at) ∙ ap (λ (ts : List Tree). binding_in (two_of ts)) (trees_forest items)

pub not_two : (items : List Tree) (at : Span) → two_of items ≡ None → binding_of (ListAt (forest items) at) ≡ None
not_two items at h = list_binding items at ∙ ap binding_in h

pub not_named : (items : List Tree) (at : Span) (a b : Tree) → items ≡ a ∷ b ∷ [] → atom_of a ≡ None → binding_of (ListAt (forest items) at) ≡ None
not_named items at a b is h = ap (λ (ts : List Tree). binding_of (ListAt (forest ts) at)) is ∙ list_binding (a ∷ b ∷ []) at ∙ ap (option_map (λ x. (x, b))) h

pub binding_there : (items : List Tree) (at : Span) (w : Word) (a b : Tree) → items ≡ a ∷ b ∷ [] → a ≡ word w → ListAt (forest items) at ≡ binding (record { word = w; span = at }) b
binding_there items at w a b is h = ap (λ (ts : List Tree). ListAt (forest ts) at) is ∙ ap (λ (t : Tree). ListAt (Then t (Then b Empty)) at) h

no_binding : (o : Option (List (List ℕ × Tree))) → and_binding None o ≡ None
no_binding None = refl
no_binding (Some ps) = refl

none_after : (o : Option (List ℕ × Tree)) → and_binding o None ≡ None
none_after None = refl
none_after (Some p) = refl

pub odd_among : (items : List Tree) (i : ℕ) (e : Tree) → i < length items → get_or items i e ≡ e → binding_of e ≡ None → bindings_of items ≡ None
odd_among [] i e lt at h = absurd (omega (arith, lt))
odd_among (t ∷ ts) zero e lt at h = ap (λ (u : Tree). and_binding (binding_of u) (bindings_of ts)) at ∙ ap (λ (o : Option (List ℕ × Tree)). and_binding o (bindings_of ts)) h ∙ no_binding (bindings_of ts)
odd_among (t ∷ ts) (suc i) e lt at h = ap (and_binding (binding_of t)) (odd_among ts i e (omega (arith, lt)) at h) ∙ none_after (binding_of t)

-- ---- names that are taken

pub shadowed_is : (c : CodeContext) (G : Context) (B : Names) (xs : List (List ℕ)) → Shows c G → is_shadowed G B xs ≡ shadowed_in c B xs
shadowed_is c G B [] shows = refl
shadowed_is c G B (x ∷ xs) shows = λ i. taken_is c G B x shows i || shadowed_is c G (bind x NoType B) xs shows i

-- a name that no binding has
pub not_taken : (c : CodeContext) (B : Names) (x : List ℕ) → taken_in c B x ≡ false → named_in x B ≡ None
not_taken c B x h = absent (named_in x B) (last_false (is_reserved c.version x || top_level_in c x) (is_named x B) h)
  where
    last_false : (a b : Bool) → (a || b) ≡ false → b ≡ false
    last_false false b e = e
    last_false true b e = absurd cc

    absent : (o : Option PlainType) → is_some o ≡ false → o ≡ None
    absent None e = refl
    absent (Some t) e = absurd cc

pub take_front : (B : Names) (n : ℕ) (S : Names) (x : List ℕ) (t : PlainType) → n ≤ length S → take n S ≡ B → take n (bind x t S) ≡ B
take_front B zero S x t le h = h
take_front B (suc n) [] x t le h = absurd (omega (arith, le))
take_front [] (suc n) (e ∷ S) x t le h = absurd cc
take_front (b ∷ B) (suc n) (e ∷ S) x t le h =
    let first : e ≡ b = cc in
    let rest : take n S ≡ B = cc in
    λ i. first i ∷ take_front B n S x t (omega (arith, le)) rest i

pub bind_longer : (n : ℕ) (S : Names) (x : List ℕ) (t : PlainType) → n ≤ length S → n ≤ length (bind x t S)
bind_longer n S x t le = omega (arith, longer S, le)
  where
    longer : (S : Names) → length S ≤ length (bind x t S)
    longer [] = omega arith
    longer (e ∷ S) = omega (arith, longer S)
