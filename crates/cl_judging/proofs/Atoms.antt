-- Expressions without parts.
use Rattle.std.proofs.Common.{◌≡◌, ℕ, zero, suc, ◌<◌, ◌≤◌, Bool, true, false, List, [], Option, Some, None, Result, Ok, Err, refl, ap, sym, subst, ◌∙◌, arith}
use Rattle.cl_types.specs.Types.{PlainType}
use Rattle.cl_types.specs.declared.fault.Fault.{Fault}
use Rattle.cl_types.specs.declared.fault.Fault.TheVariants.{Refused}
use Rattle.cl_shapes.specs.declared.name.CostName.{CostName}
use Rattle.cl_shapes.specs.declared.name.CostName.TheVariants.{Lookup}
use Rattle.cl_sexpr.specs.declared.sexpr.Span.{Span}
use Rattle.cl_sexpr.specs.declared.rule.Rule.{Rule}
use Rattle.cl_sexpr.specs.declared.rule.Rule.TheVariants.{UnknownName, NotAValue}
use Rattle.cl_sexpr.specs.declared.rule.Break.{Break}
use Rattle.cl_sexpr.specs.declared.sexpr.Node.{Node}
use Rattle.cl_sexpr.specs.View.{tree_of}
use Rattle.cl_sexpr.specs.Tree.{Tree, LeafAt, Leaf, Named, span_of, tree_depth}
use Rattle.cl_rules.specs.NativeTypes.{Ruled, fine}
use Rattle.cl_rules.specs.Bills.{Charge, Both}
use Rattle.cl_rules.specs.Context.{Names, Context, keyword_type, named_in, is_no_value}
use Rattle.cl_rules.specs.Verdicts.{sum_of}
use Rattle.cl_rules.specs.Shapes.{Shape, value_shape}
use Rattle.cl_rules.specs.ControlShapes.{leaf_shape, keyword_or, value_or, no_value_shape}
use Rattle.cl_rules.specs.Table.{shape}
use Rattle.cl_rules.specs.Judging.{judged}
use Rattle.cl_types.specs.Types.{size_of}
use Rattle.cl_forms.specs.declared.keyword.Keyword.{Keyword}
use Rattle.cl_forms.specs.Keywords.{keyword_of, keyword_cost}
use Rattle.cl_judging.specs.declared.context.Context.{Context as CodeContext}
use Rattle.cl_typing.specs.declared.concluding.Checked.{Checked}
use Rattle.cl_typing.specs.declared.concluding.Concluded.{Concluded}
use Rattle.cl_judging.specs.Seen.{Shows, no_value_in}
use Rattle.cl_typing.specs.Verdicts.{ConcludesAs}
use Rattle.cl_judging.specs.Walking.{Finds, judged_as, Checks, ChecksAs, FinishesAt, FineAs, RuledAs, ValueAs}
use Rattle.cl_forms.specs.declared.version.Version.{Version}
use Rattle.cl_code.specs.declared.op.Op.{Op}
use Rattle.cl_code.specs.Nodes.{goes_op, versions_of}
use Rattle.cl_code.specs.Typed.{Typed, TypedAs, typeds}
use Rattle.cl_typing.specs.Verdicts.{facts_of}
use Rattle.cl_typing.proofs.Conclusions.{holds_at}
use Rattle.cl_judging.proofs.Contexts.{no_value_is}
use Rattle.cl_judging.proofs.Finishing.{finish_holds}

pub value_found : (ruled : Result PlainType (Fault Rule)) (concluded : Result Concluded (Fault Rule)) (at : Span) (result : Result Checked (Fault Break)) → ConcludesAs ruled None 0 [] concluded → ((G : Context) → FinishesAt G [] concluded at result) → ValueAs ruled at result
value_found ruled concluded at result k f R G name judge ru = f G judge (value_shape name R) [] refl refl refl tt (k R (Both (Charge name (size_of R.type)) (sum_of [])) [] ru refl)

pub fine_found : (t : PlainType) (at : Span) (result : Result Checked (Fault Break)) → ValueAs (Ok t) at result → FineAs t at result
fine_found t at result v G name judge = v (fine t) G name judge (refl, refl, refl)

-- a node without parts
pub node_fine : (t : PlainType) (at : Span) (c : Checked) (codes : List Typed) (e : Tree) (op : Op) → ((version : Version) → goes_op version op ≡ true) → codes ≡ [] → facts_of c ≡ record { type = t; thrown = None; height = 1 } → c.code ≡ TypedAs e t (versions_of op) (typeds codes) → FineAs t at (Ok c)
node_fine t at c codes e op goes none is code =
    let k : Concluded = record { ty = t; thrown = None; height = 1 } in
    fine_found t at (Ok c) (value_found (Ok t) (Ok k) at (Ok c) (holds_at (Ok t) None 0 [] None refl refl refl) (λ G. finish_holds G [] k at c e op (goes G.version) is (code ∙ ap (λ (qs : List Typed). TypedAs e t (versions_of op) (typeds qs)) none)))

-- ---- from shapes to expressions

checks_at : (c : CodeContext) (B : Names) (e : Tree) (s : Shape) (result : Result Checked (Fault Break)) (G : Context) (d : ℕ) → shape G B e ≡ s → Finds G s (judged_as (judged d G) s (span_of e)) result → Finds G (shape G B e) (judged (suc d) G B e) result
unfolding judged
checks_at c B e s result G d is h = subst (λ (u : Shape). Finds G u (judged_as (judged d G) u (span_of e)) result) (sym is) h

checks_on : (c : CodeContext) (B : Names) (e : Tree) (s : Context → Shape) (deep : ℕ) (result : Result Checked (Fault Break)) → deep ≤ tree_depth e → ((G : Context) → Shows c G → shape G B e ≡ s G) → ChecksAs c s (span_of e) deep result → (G : Context) (d : ℕ) → Shows c G → tree_depth e < d → Finds G (shape G B e) (judged d G B e) result
checks_on c B e s deep result below is h G zero shows less = absurd (omega (arith, less))
checks_on c B e s deep result below is h G (suc d) shows less = checks_at c B e (s G) result G d (is G shows) (h G d shows (omega (arith, below, less)))

-- an expression is checked as its shape says
pub checks_by : (c : CodeContext) (B : Names) (e : Tree) (s : Context → Shape) (deep : ℕ) (result : Result Checked (Fault Break)) → deep ≤ tree_depth e → ((G : Context) → Shows c G → shape G B e ≡ s G) → ChecksAs c s (span_of e) deep result → Checks c B e result
checks_by c B e s deep result below is h = checks_on c B e s deep result below is h

pub leaf_is : (G : Context) (B : Names) (leaf : Leaf) (at : Span) → shape G B (LeafAt leaf at) ≡ leaf_shape G B leaf
unfolding shape
leaf_is G B leaf at = refl

-- a leaf that has this type
pub leaf_found : (c : CodeContext) (B : Names) (leaf : Leaf) (at : Span) (name : CostName) (t : PlainType) (result : Result Checked (Fault Break)) → ((G : Context) → Shows c G → leaf_shape G B leaf ≡ value_shape name (fine t)) → FineAs t at result → Checks c B (LeafAt leaf at) result
leaf_found c B leaf at name t result is h = checks_by c B (LeafAt leaf at) (λ G. value_shape name (fine t)) 0 result (omega arith) (λ G shows. leaf_is G B leaf at ∙ is G shows) (λ G d shows enough. h G name (judged d G))

-- a leaf that is ruled so
pub leaf_ruled : (c : CodeContext) (B : Names) (leaf : Leaf) (at : Span) (name : CostName) (R : Ruled) (result : Result Checked (Fault Break)) → ((G : Context) → Shows c G → leaf_shape G B leaf ≡ value_shape name R) → RuledAs R at result → Checks c B (LeafAt leaf at) result
leaf_ruled c B leaf at name R result is h = checks_by c B (LeafAt leaf at) (λ G. value_shape name R) 0 result (omega arith) (λ G shows. leaf_is G B leaf at ∙ is G shows) (λ G d shows enough. h G name (judged d G))

-- ---- names

module _ (c : CodeContext) (B : Names) (x : List ℕ) (at : Span) where
  keyword_shape : (k : Keyword) (G : Context) → Some k ≡ keyword_of x → leaf_shape G B (Named x) ≡ value_shape (keyword_cost k) (fine (keyword_type k))
  keyword_shape k G is = ap (λ (o : Option Keyword). keyword_or o (value_or (named_in x B) (value_or (named_in x G.constants) (no_value_shape (is_no_value G x))))) (sym is)

  pub keyword_found : (k : Keyword) (t : PlainType) (result : Result Checked (Fault Break)) → Some k ≡ keyword_of x → t ≡ keyword_type k → FineAs t at result → Checks c B (LeafAt (Named x) at) result
  keyword_found k t result is same h = leaf_found c B (Named x) at (keyword_cost k) t result (λ G shows. keyword_shape k G is ∙ ap (λ (u : PlainType). value_shape (keyword_cost k) (fine u)) (sym same)) h

  bound_shape : (t : PlainType) (G : Context) → None ≡ keyword_of x → Some t ≡ named_in x B → leaf_shape G B (Named x) ≡ value_shape Lookup (fine t)
  bound_shape t G keyless is = λ i. keyword_or (sym keyless i) (value_or (sym is i) (value_or (named_in x G.constants) (no_value_shape (is_no_value G x))))

  pub bound_found : (t : PlainType) (result : Result Checked (Fault Break)) → None ≡ keyword_of x → Some t ≡ named_in x B → FineAs t at result → Checks c B (LeafAt (Named x) at) result
  bound_found t result keyless is h = leaf_found c B (Named x) at Lookup t result (λ G shows. bound_shape t G keyless is) h

  constant_shape : (t : PlainType) (G : Context) → Shows c G → None ≡ keyword_of x → None ≡ named_in x B → Some t ≡ named_in x c.constants.entries → leaf_shape G B (Named x) ≡ value_shape Lookup (fine t)
  constant_shape t G shows keyless none is =
      let there : named_in x G.constants ≡ Some t = ap (λ (es : List (List ℕ × PlainType)). named_in x es) shows.constants ∙ sym is in
      λ i. keyword_or (sym keyless i) (value_or (sym none i) (value_or (there i) (no_value_shape (is_no_value G x))))

  pub constant_found : (t : PlainType) (result : Result Checked (Fault Break)) → None ≡ keyword_of x → None ≡ named_in x B → Some t ≡ named_in x c.constants.entries → FineAs t at result → Checks c B (LeafAt (Named x) at) result
  constant_found t result keyless none is h = leaf_found c B (Named x) at Lookup t result (λ G shows. constant_shape t G shows keyless none is) h

  no_shape : (b : Bool) (G : Context) → Shows c G → None ≡ keyword_of x → None ≡ named_in x B → None ≡ named_in x c.constants.entries → b ≡ no_value_in c x → leaf_shape G B (Named x) ≡ no_value_shape b
  no_shape b G shows keyless none nor is =
      let there : named_in x G.constants ≡ None = ap (λ (es : List (List ℕ × PlainType)). named_in x es) shows.constants ∙ sym nor in
      λ i. keyword_or (sym keyless i) (value_or (sym none i) (value_or (there i) (no_value_shape ((no_value_is c G x shows ∙ sym is) i))))

  pub no_value : (f : Fault Break) → None ≡ keyword_of x → None ≡ named_in x B → None ≡ named_in x c.constants.entries → true ≡ no_value_in c x → f ≡ Refused (record { rule = NotAValue; span = at }) → Checks c B (LeafAt (Named x) at) (Err f)
  no_value f keyless none nor is fails = subst (λ (g : Fault Break). Checks c B (LeafAt (Named x) at) (Err g)) (sym fails) (checks_by c B (LeafAt (Named x) at) (λ G. no_value_shape true) 0 (Err (Refused (record { rule = NotAValue; span = at }))) (omega arith) (λ G shows. leaf_is G B (Named x) at ∙ no_shape true G shows keyless none nor is) (λ G d shows enough. refl))

  pub unknown : (f : Fault Break) → None ≡ keyword_of x → None ≡ named_in x B → None ≡ named_in x c.constants.entries → false ≡ no_value_in c x → f ≡ Refused (record { rule = UnknownName; span = at }) → Checks c B (LeafAt (Named x) at) (Err f)
  unknown f keyless none nor is fails = subst (λ (g : Fault Break). Checks c B (LeafAt (Named x) at) (Err g)) (sym fails) (checks_by c B (LeafAt (Named x) at) (λ G. no_value_shape false) 0 (Err (Refused (record { rule = UnknownName; span = at }))) (omega arith) (λ G shows. leaf_is G B (Named x) at ∙ no_shape false G shows keyless none nor is) (λ G d shows enough. refl))

-- ---- an item of the text

pub node_found : (c : CodeContext) (B : Names) (n k : Node) (s : Span) (e : Tree) (result : Result Checked (Fault Break)) → tree_of n s ≡ e → n ≡ k → Checks c B (tree_of k s) result → Checks c B e result
node_found c B n k s e result view is h = subst (λ (t : Tree). Checks c B t result) (sym (ap (λ (m : Node). tree_of m s) is) ∙ view) h
