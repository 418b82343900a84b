-- Natives in front of their arguments.
use Rattle.std.proofs.Common.{◌≡◌, ℕ, Bool, true, false, List, [], ◌∷◌, Option, Some, None, refl, ap, ◌∙◌}
use Rattle.std.specs.Prelude.{not, ◌==◌, ◌||◌, is_some}
use Rattle.std.proofs.lemmas.Bool.{eqb-true}
use Rattle.cl_sexpr.specs.declared.sexpr.Span.{Span}
use Rattle.cl_sexpr.specs.declared.rule.Rule.{Rule}
use Rattle.cl_sexpr.specs.Tree.{Tree, forest}
use Rattle.cl_forms.specs.Heads.{Row, row_of}
use Rattle.cl_forms.specs.declared.head.Head.{Head}
use Rattle.cl_forms.specs.HeadNames.{name_of, has_head}
use Rattle.cl_forms.specs.Shapes.{trees_of}
use Rattle.cl_rules.specs.Faults.{when}
use Rattle.cl_rules.specs.Context.{Context, Names, signature_in}
use Rattle.cl_rules.specs.Table.{head_shape, operator_shape, shape}
use Rattle.cl_code.specs.Expression.{headed}
use Rattle.cl_code.proofs.Versions.{row_by_name, row_head}

pub trees_forest : (es : List Tree) → trees_of (forest es) ≡ es
trees_forest [] = refl
trees_forest (e ∷ es) = ap (λ (ts : List Tree). e ∷ ts) (trees_forest es)

-- a native that the version of the text has
pub headed_shape : (h : Head) (head at : Span) (es : List Tree) (G : Context) (B : Names) → has_head G.version h ≡ true → shape G B (headed (name_of h) head es at) ≡ head_shape h (row_of h) G B es
unfolding shape
headed_shape h head at es G B had =
    ap (λ (o : Option Row). operator_shape o (signature_in (name_of h) G.functions) G B (trees_of (forest es))) (row_by_name G.version h had)
    ∙ ap (λ (d : Head). head_shape d (row_of h) G B (trees_of (forest es))) (row_head h)
    ∙ ap (λ (ts : List Tree). head_shape h (row_of h) G B ts) (trees_forest es)

-- ---- rules that aren't broken

pub when_more : (b : Bool) (r q : Rule) (rs : List Rule) → when b r (q ∷ rs) ≡ [] → ⊥
when_more true r q rs h = cc
when_more false r q rs h = cc

pub when_not : (b : Bool) (r : Rule) (rs : List Rule) → when b r rs ≡ [] → b ≡ false
when_not true r rs h = absurd cc
when_not false r rs h = refl

not_not : (b : Bool) → not b ≡ false → b ≡ true
not_not true h = refl
not_not false h = absurd cc

-- a number of arguments that is taken
pub taken : (n m : ℕ) (r : Rule) (rs : List Rule) → when (not (n == m)) r rs ≡ [] → n ≡ m
taken n m r rs h = eqb-true n m (not_not (n == m) (when_not (not (n == m)) r rs h))

neither : (b c : Bool) → (b || c) ≡ false → b ≡ false
neither true c h = absurd cc
neither false c h = refl

pub taken_or : (n m : ℕ) (b : Bool) (r : Rule) (rs : List Rule) → when (not (n == m) || b) r rs ≡ [] → n ≡ m
taken_or n m b r rs h = eqb-true n m (not_not (n == m) (neither (not (n == m)) b (when_not (not (n == m) || b) r rs h)))

-- ---- names that are no native's

pub no_native : (o : Option Row) → not (is_some o) ≡ true → o ≡ None
no_native None h = refl
no_native (Some row) h = absurd cc
