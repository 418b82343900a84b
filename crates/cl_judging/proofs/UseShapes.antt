-- Shapes of map, filter and fold.
use Rattle.std.proofs.Common.{◌≡◌, ℕ, suc, ◌+◌, ◌≤◌, Bool, true, false, List, [], ◌∷◌, length, drop, Result, Ok, Err, refl, ap, sym, subst, ◌∙◌, arith}
use Rattle.std.specs.Prelude.{◌||◌, not}
use Rattle.std.specs.Global.{Vec}
use Rattle.cl_types.specs.declared.fault.Fault.{Fault}
use Rattle.cl_types.specs.declared.fault.Fault.TheVariants.{Refused}
use Rattle.cl_sexpr.specs.declared.sexpr.Span.{Span}
use Rattle.cl_sexpr.specs.declared.rule.Rule.{Rule}
use Rattle.cl_sexpr.specs.declared.rule.Rule.TheVariants.{ArgumentCount, NotAFunction}
use Rattle.cl_sexpr.specs.declared.rule.Break.{Break}
use Rattle.cl_sexpr.specs.Tree.{Tree, forest, forest_depth}
use Rattle.cl_forms.specs.Heads.{row_of, takes}
use Rattle.cl_forms.specs.declared.version.Version.{Version}
use Rattle.cl_rules.specs.Faults.{shape_rules, sound_shape, when}
use Rattle.cl_rules.specs.Context.{Context, Names}
use Rattle.cl_rules.specs.Shapes.{Shape, parts, First, There, is_miscounted, is_no_such, at_first}
use Rattle.cl_rules.specs.CallShapes.{Usable, used, takes_no, takes_values}
use Rattle.cl_rules.specs.Table.{head_shape}
use Rattle.cl_code.specs.declared.op.Applied.{Applied}
use Rattle.cl_code.specs.declared.op.Iteration.{Iteration}
use Rattle.cl_code.specs.declared.op.Iteration.TheVariants.{Map, Filter, Fold}
use Rattle.cl_code.specs.declared.op.Op.TheVariants.{Iterate}
use Rattle.cl_code.specs.OpNames.{iteration_head}
use Rattle.cl_code.specs.Nodes.{has_parts, has_own_name, has_own_applied, goes_op, goes_applied}
use Rattle.cl_typing.specs.declared.concluding.Checked.{Checked}
use Rattle.cl_typing.specs.declared.concluding.Concluded.{Concluded}
use Rattle.cl_typing.specs.declared.uses.Usable.{Usable as CodeUsable}
use Rattle.cl_typing.specs.Verdicts.{first_rule, texts_of, Concludes}
use Rattle.cl_judging.specs.declared.context.Context.{Context as CodeContext}
use Rattle.cl_judging.specs.Seen.{Shows}
use Rattle.cl_judging.specs.Walking.{ChecksAll, ChecksHead, FinishesIn}
use Rattle.cl_judging.specs.Uses.{Iterates, Applies, AppliesNothing, iteration_verdict, takes_used}
use Rattle.cl_judging.proofs.Lists.{shape_fails, parts_fail, parts_finish, parts_count}

-- the shape at what is applied
abbrev shape_at : Iteration → Names → List Tree → First Usable → Shape
shape_at iteration B args first = record {
  faults = record sound_shape { argument_count = is_miscounted (row_of (iteration_head iteration)) args || takes_no first (length (drop 1 args)); not_a_function = is_no_such first };
  plan = parts B (drop 1 args);
  verdict = at_first first (iteration_verdict iteration (row_of (iteration_head iteration)));
}

using : (iteration : Iteration) (G : Context) (B : Names) (args : List Tree) → head_shape (iteration_head iteration) (row_of (iteration_head iteration)) G B args ≡ shape_at iteration B args (used G args)
unfolding head_shape
using Map G B args = refl
using Filter G B args = refl
using Fold G B args = refl

module _ (c : CodeContext) (iteration : Iteration) (B : Names) (args : List Tree) (at : Span) (enough : takes (row_of (iteration_head iteration)).arity (length args) ≡ true) where
  abbrev deep : ℕ
  deep = forest_depth (forest args) + 1

  abbrev shape_here : Context → Shape
  shape_here G = head_shape (iteration_head iteration) (row_of (iteration_head iteration)) G B args

  module _ (e : Tree) (rest : List Tree) (list : args ≡ e ∷ rest) where
    -- what stands first can't be applied
    pub not_applied : (f : Fault Break) → AppliesNothing c e → f ≡ Refused (record { rule = NotAFunction; span = at }) → ChecksHead c (iteration_head iteration) B args at (Err f)
    not_applied f nothing fails = shape_fails c shape_here at deep NotAFunction f (λ G shows.
        ap (λ (s : Shape). first_rule (shape_rules s.faults)) (using iteration G B args)
        ∙ ap (λ (first : First Usable). first_rule (shape_rules (shape_at iteration B args first).faults)) (ap (used G) list ∙ nothing G shows rest)
        ∙ (λ i. first_rule (when (not (enough i) || false) ArgumentCount (NotAFunction ∷ [])))) fails

    module _ (usable : CodeUsable) (applies : Applies c e usable) where
      at_use : (G : Context) (shows : Shows c G) → shape_here G ≡ shape_at iteration B args (There (applies G shows).0)
      at_use G shows = using iteration G B args ∙ ap (shape_at iteration B args) (ap (used G) list ∙ (applies G shows).1 rest)

      behind : drop 1 args ≡ rest
      behind = ap (drop 1) list

      counted : (G : Context) → Shows c G → (b : Bool) → b ≡ takes_used usable (length rest) → shape_rules (shape_here G).faults ≡ when (not b) ArgumentCount []
      counted G shows b is =
          ap (λ (s : Shape). shape_rules s.faults) (at_use G shows)
          ∙ (λ i. when (not (enough i) || not (takes_values (applies G shows).0 (length (behind i)))) ArgumentCount [])
          ∙ ap (λ (x : Bool). when (not x) ArgumentCount []) ((applies G shows).3 (length rest) ∙ sym is)

      -- it takes another number of values
      pub use_short : (b : Bool) (f : Fault Break) → b ≡ takes_used usable (length rest) → b ≡ false → f ≡ Refused (record { rule = ArgumentCount; span = at }) → ChecksHead c (iteration_head iteration) B args at (Err f)
      use_short b f is short fails = shape_fails c shape_here at deep ArgumentCount f (λ G shows. ap first_rule (counted G shows b is) ∙ ap (λ (x : Bool). first_rule (when (not x) ArgumentCount [])) short) fails

      module _ (b : Bool) (is : b ≡ takes_used usable (length rest)) (many : b ≡ true) where
        sound : (G : Context) → Shows c G → shape_rules (shape_here G).faults ≡ []
        sound G shows = counted G shows b is ∙ ap (λ (x : Bool). when (not x) ArgumentCount []) many

        plan : (G : Context) → Shows c G → (shape_here G).plan ≡ parts B rest
        plan G shows = ap (λ (s : Shape). s.plan) (at_use G shows) ∙ ap (parts B) behind

        deeper : forest_depth (forest rest) ≤ forest_depth (forest args)
        deeper = let same : forest_depth (forest args) ≡ forest_depth (forest (e ∷ rest)) = ap (λ (ts : List Tree). forest_depth (forest ts)) list in omega (arith, same)

        pub use_fails : (f : Fault Break) → ChecksAll c (parts B rest) (forest_depth (forest rest) + 1) (Err f) → ChecksHead c (iteration_head iteration) B args at (Err f)
        use_fails f h = parts_fail c shape_here at deep (parts B rest) sound plan f (λ G d shows large. h G d shows (omega (arith, deeper, large)))

        pub use_found : (v : Vec Checked) (concluded : Result Concluded (Fault Rule)) (result : Result Checked (Fault Break)) → ChecksAll c (parts B rest) (forest_depth (forest rest) + 1) (Ok v) → Iterates (iteration_verdict iteration) usable v.items concluded → FinishesIn c v.items concluded at result → ChecksHead c (iteration_head iteration) B args at result
        use_found v concluded result h judges fin = parts_finish c shape_here at deep (parts B rest) sound plan v concluded result (λ G d shows large. h G d shows (omega (arith, deeper, large))) fin (λ G fs shows same.
            subst (λ (s : Shape). Concludes (s.verdict fs) concluded) (sym (at_use G shows)) (judges (applies G shows).0 (applies G shows).2 (row_of (iteration_head iteration)) fs same))

    -- the other arguments are as many parts as the native takes
    pub use_fits : (cs : List Checked) (head : Span) (applied : Applied) → texts_of cs ≡ rest → has_parts (Iterate iteration head applied) (length cs) ≡ true
    use_fits cs head applied text = ap (λ (n : ℕ). takes (row_of (iteration_head iteration)).arity (suc n)) (parts_count cs rest text) ∙ sym (ap (λ (ts : List Tree). takes (row_of (iteration_head iteration)).arity (length ts)) list) ∙ enough

pub use_own : (iteration : Iteration) (head : Span) (applied : Applied) → has_own_applied applied ≡ true → has_own_name (Iterate iteration head applied) ≡ true
unfolding has_own_name
use_own iteration head applied own = own

pub use_goes : (version : Version) (iteration : Iteration) (head : Span) (applied : Applied) → goes_applied version applied ≡ true → goes_op version (Iterate iteration head applied) ≡ true
unfolding goes_op
use_goes version iteration head applied goes = goes
