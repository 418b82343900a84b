-- The shape of a sequence with a greatest length.
use Rattle.std.proofs.Common.{◌≡◌, ℕ, ◌+◌, ◌<◌, true, false, List, [], ◌∷◌, length, take, Result, Ok, Err, refl, ap, sym, subst, ◌∙◌, arith}
use Rattle.std.specs.Prelude.{not, codes}
use Rattle.cl_types.specs.declared.fault.Fault.{Fault}
use Rattle.cl_types.specs.declared.fault.Fault.TheVariants.{Refused}
use Rattle.cl_sexpr.specs.declared.sexpr.Span.{Span}
use Rattle.cl_sexpr.specs.declared.rule.Rule.{Rule}
use Rattle.cl_sexpr.specs.declared.rule.Rule.TheVariants.{ArgumentCount, LiteralExpected}
use Rattle.cl_sexpr.specs.declared.rule.Break.{Break}
use Rattle.cl_sexpr.specs.Tree.{Tree, LeafAt, ListAt, TupleAt, Named, Signed, Unsigned, Bytes, Ascii, Unicode, Standing, Local, forest, tree_depth, forest_depth}
use Rattle.cl_forms.specs.Heads.{row_of, takes}
use Rattle.cl_forms.specs.declared.head.Head.TheVariants.{AsMaxLen}
use Rattle.cl_rules.specs.Faults.{shape_rules, when}
use Rattle.cl_rules.specs.NativeTypes.{one, max_len_row}
use Rattle.cl_rules.specs.Bills.{Charge, Both}
use Rattle.cl_rules.specs.Context.{Names, Context}
use Rattle.cl_rules.specs.Verdicts.{types_of, number_at, sum_of}
use Rattle.cl_rules.specs.Shapes.{Shape, Ends, parts, First, NoSuch, is_no_such}
use Rattle.cl_rules.specs.DataShapes.{literal_at, at_literal, max_len_shape}
use Rattle.cl_rules.specs.Table.{head_shape}
use Rattle.cl_code.specs.Typed.{expression_of}
use Rattle.cl_code.specs.Expression.{headed, behind_first}
use Rattle.cl_typing.specs.declared.concluding.Checked.{Checked}
use Rattle.cl_typing.specs.declared.concluding.Concluded.{Concluded}
use Rattle.cl_typing.specs.Verdicts.{first_rule, Concludes, ConcludesRow}
use Rattle.cl_judging.specs.declared.context.Context.{Context as CodeContext}
use Rattle.cl_judging.specs.MaxLen.{is_unsigned}
use Rattle.cl_judging.specs.Walking.{Checks, ChecksAs, ChecksAll, Walked, ChecksHead, FinishesIn}
use Rattle.cl_judging.proofs.Lists.{shape_fails, parts_fail, walk_finish}
use Rattle.cl_judging.proofs.Plans.{walked_none, walked_part, part_fails}

-- ---- one part

pub one_fails : (c : CodeContext) (B : Names) (e : Tree) (deep : ℕ) (f : Fault Break) → tree_depth e < deep → Checks c B e (Err f) → ChecksAll c (parts B (e ∷ [])) deep (Err f)
one_fails c B e deep f less h = part_fails c (parts B (e ∷ [])) Ends B e deep [] f less h (walked_none c (parts B (e ∷ [])) deep)

-- ---- the shape

no_literal : (e d : Tree) → is_unsigned d ≡ false → literal_at (e ∷ d ∷ []) ≡ NoSuch
no_literal e (LeafAt (Named x) s) h = refl
no_literal e (LeafAt (Signed z) s) h = refl
no_literal e (LeafAt (Unsigned n) s) h = absurd cc
no_literal e (LeafAt (Bytes n) s) h = refl
no_literal e (LeafAt (Ascii n) s) h = refl
no_literal e (LeafAt (Unicode n) s) h = refl
no_literal e (LeafAt (Standing n) s) h = refl
no_literal e (LeafAt (Local n) s) h = refl
no_literal e (ListAt f s) h = refl
no_literal e (TupleAt ps s) h = refl

module _ (c : CodeContext) (B : Names) (args : List Tree) (at : Span) (enough : takes (row_of AsMaxLen).arity (length args) ≡ true) where
  abbrev max_shape : Context → Shape
  max_shape G = max_len_shape (row_of AsMaxLen) B args

  whole : (result : Result Checked (Fault Break)) → ChecksAs c max_shape at (forest_depth (forest args) + 1) result → ChecksHead c AsMaxLen B args at result
  unfolding head_shape
  whole result h = h

  pub max_odd : (e d : Tree) (f : Fault Break) → args ≡ e ∷ d ∷ [] → is_unsigned d ≡ false → f ≡ Refused (record { rule = LiteralExpected; span = at }) → ChecksHead c AsMaxLen B args at (Err f)
  max_odd e d f list odd fails = whole (Err f) (shape_fails c max_shape at (forest_depth (forest args) + 1) LiteralExpected f (λ G shows i.
      first_rule (when (not (enough i)) ArgumentCount (when (is_no_such ((ap literal_at list ∙ no_literal e d odd) i)) LiteralExpected []))) fails)

  module _ (e : Tree) (m : ℕ) (s : Span) (list : args ≡ e ∷ LeafAt (Unsigned m) s ∷ []) where
    sound : shape_rules (max_len_shape (row_of AsMaxLen) B args).faults ≡ []
    sound i = when (not (enough i)) ArgumentCount (when (is_no_such (literal_at (list i))) LiteralExpected [])

    plan : (max_len_shape (row_of AsMaxLen) B args).plan ≡ parts B (e ∷ [])
    plan = ap (λ (ts : List Tree). parts B (take 1 ts)) list

    less : tree_depth e < forest_depth (forest args) + 1
    less = let same : forest_depth (forest args) ≡ forest_depth (forest (e ∷ LeafAt (Unsigned m) s ∷ [])) = ap (λ (ts : List Tree). forest_depth (forest ts)) list in omega (arith, same)

    pub max_fails : (f : Fault Break) → Checks c B e (Err f) → ChecksHead c AsMaxLen B args at (Err f)
    max_fails f h = whole (Err f) (parts_fail c max_shape at (forest_depth (forest args) + 1) (parts B (e ∷ [])) (λ G shows. sound) (λ G shows. plan) f (one_fails c B e (forest_depth (forest args) + 1) f less h))

    pub max_found : (x : Checked) (ps : List Checked) (concluded : Result Concluded (Fault Rule)) (result : Result Checked (Fault Break)) → expression_of x.code ≡ e → ps ≡ x ∷ [] → Checks c B e (Ok x) → ConcludesRow (one (max_len_row m)) 0 ps concluded → FinishesIn c ps concluded at result → ChecksHead c AsMaxLen B args at result
    max_found x ps concluded result text is h judges fin = whole result (walk_finish c max_shape at (forest_depth (forest args) + 1) (parts B (e ∷ [])) (λ G shows. sound) (λ G shows. plan) ps concluded result
        (subst (λ (cs : List Checked). Walked c (parts B (e ∷ [])) Ends (forest_depth (forest args) + 1) cs) (sym is) (walked_part c (parts B (e ∷ [])) Ends B e (forest_depth (forest args) + 1) [] x less text h (walked_none c (parts B (e ∷ [])) (forest_depth (forest args) + 1)))) fin
        (λ G fs shows same. subst (λ (l : First ℕ). Concludes (at_literal (row_of AsMaxLen) l fs) concluded) (sym (ap literal_at list)) (judges (Both (Charge (row_of AsMaxLen).cost (number_at (row_of AsMaxLen).cost (types_of fs))) (sum_of fs)) fs same)))

    pub max_text : (head span : Span) (es : List Tree) → es ≡ e ∷ [] → headed (codes "as-max-len?") head (behind_first (λ d more. d ∷ LeafAt (Unsigned m) s ∷ more) es) span ≡ headed (codes "as-max-len?") head args span
    max_text head span es is = ap (λ (ts : List Tree). headed (codes "as-max-len?") head (behind_first (λ d more. d ∷ LeafAt (Unsigned m) s ∷ more) ts) span) is ∙ ap (λ (ts : List Tree). headed (codes "as-max-len?") head ts span) (sym list)
