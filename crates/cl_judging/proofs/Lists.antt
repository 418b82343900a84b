-- From the parts of a shape to the shape, and from a shape to its expression.
use Rattle.std.proofs.Common.{◌≡◌, ℕ, suc, ◌+◌, ◌*◌, ◌<◌, ◌≤◌, Bool, true, false, List, [], ◌∷◌, map, length, Option, Some, Result, Ok, Err, refl, ap, sym, subst, ◌∙◌, arith}
use Rattle.std.specs.Prelude.{not, IfOk}
use Rattle.std.specs.Global.{Vec}
use Rattle.cl_types.specs.declared.fault.Fault.{Fault}
use Rattle.cl_types.specs.declared.fault.Fault.TheVariants.{Refused, NoMemory}
use Rattle.cl_sexpr.specs.declared.sexpr.Span.{Span}
use Rattle.cl_sexpr.specs.declared.rule.Rule.{Rule}
use Rattle.cl_sexpr.specs.declared.rule.Rule.TheVariants.{ArgumentCount, EmptyForm}
use Rattle.cl_sexpr.specs.declared.rule.Break.{Break}
use Rattle.cl_sexpr.specs.Tree.{Tree, LeafAt, ListAt, TupleAt, Named, Signed, Unsigned, Bytes, Ascii, Unicode, Standing, Local, forest, forest_depth, tree_size, forest_size}
use Rattle.cl_forms.specs.Heads.{Row, native, row_of, takes}
use Rattle.cl_forms.specs.declared.version.Version.{Version}
use Rattle.cl_forms.specs.declared.head.Head.{Head}
use Rattle.cl_forms.proofs.Bindings.{trees_forest}
use Rattle.cl_rules.specs.Faults.{shape_rules, type_rules, when, sound_shape}
use Rattle.cl_rules.specs.Context.{Names, Context, signature_in}
use Rattle.cl_rules.specs.Verdicts.{Found}
use Rattle.cl_rules.specs.Shapes.{Plan, Ends, Shape, parts, unlooked, native_shape}
use Rattle.cl_rules.specs.Table.{shape, operator_shape, head_shape}
use Rattle.cl_rules.specs.Judging.{Judged, Holds, and_judged, unless_broken, walked, judged}
use Rattle.cl_code.specs.declared.op.Word.{Word}
use Rattle.cl_code.specs.Expression.{word, headed}
use Rattle.cl_judging.specs.declared.context.Context.{Context as CodeContext}
use Rattle.cl_typing.specs.declared.concluding.Checked.{Checked}
use Rattle.cl_typing.specs.declared.concluding.Concluded.{Concluded}
use Rattle.cl_judging.specs.declared.node.Evaluated.{Evaluated}
use Rattle.cl_judging.specs.Seen.{Shows}
use Rattle.cl_typing.specs.Verdicts.{facts, facts_of, texts_of, first_rule, Concludes}
use Rattle.cl_judging.specs.Walking.{codes_of, head_at, native_as, Finds, judged_as, Checks, ChecksAs, ChecksAll, FinishesIn, Walked, ChecksHead, ChecksNative, Judges, verdict_of, is_headed}
use Rattle.cl_code.specs.declared.op.PartsNative.TheVariants.{If, Begin, And, Or, Asserts, Unwrap, UnwrapErr, Try, AsContract, Print, StxBalance, SendStx, BurnStx}
use Rattle.cl_judging.specs.declared.node.Evaluated.TheVariants.{Values, Parts}
use Rattle.cl_forms.specs.HeadNames.{name_of, head_of}
use Rattle.cl_forms.proofs.Found.{named_alone}
use Rattle.cl_code.specs.Typed.{expression_of, typeds}
use Rattle.cl_code.specs.Nodes.{has_parts}
use Rattle.cl_code.specs.declared.op.Op.{Op}
use Rattle.cl_contracts.specs.Standing.{StandAll}
use Rattle.cl_judging.proofs.NativeNames.{native_is, own_head}
use Rattle.cl_judging.proofs.Plans.{walked_all}
use Rattle.cl_judging.proofs.Finishing.{first_fails}
use Rattle.cl_judging.proofs.Atoms.{checks_by}

pub texts_length : (cs : List Checked) → length (texts_of cs) ≡ length cs
texts_length [] = refl
texts_length (c ∷ cs) = ap suc (texts_length cs)

pub parts_count : (cs : List Checked) (args : List Tree) → texts_of cs ≡ args → length cs ≡ length args
parts_count cs args text = sym (texts_length cs) ∙ ap length text

-- ---- the three ways in which an expression with parts ends

-- its shape breaks a rule
pub shape_fails : (c : CodeContext) (s : Context → Shape) (at : Span) (deep : ℕ) (r : Rule) (f : Fault Break) → ((G : Context) → Shows c G → first_rule (shape_rules (s G).faults) ≡ Some r) → f ≡ Refused (record { rule = r; span = at }) → ChecksAs c s at deep (Err f)
shape_fails c s at deep r f first is = subst (λ (g : Fault Break). ChecksAs c s at deep (Err g)) (sym is) (λ G d shows enough.
    first_fails (shape_rules (s G).faults) r at (λ _. and_judged (walked (judged d G) (s G).plan) (λ fs. unless_broken (type_rules ((s G).verdict fs).faults) at (λ _. Holds ((s G).verdict fs).found))) (first G shows))

module _ (c : CodeContext) (s : Context → Shape) (at : Span) (deep : ℕ) (p : Plan) (sound : (G : Context) → Shows c G → shape_rules (s G).faults ≡ []) (plan : (G : Context) → Shows c G → (s G).plan ≡ p) where
  -- a part breaks one
  pub parts_fail : (f : Fault Break) → ChecksAll c p deep (Err f) → ChecksAs c s at deep (Err f)
  parts_fail (Refused b) h G d shows enough =
      (λ i. unless_broken (sound G shows i) at (λ _. and_judged (walked (judged d G) (plan G shows i)) (λ fs. unless_broken (type_rules ((s G).verdict fs).faults) at (λ _. Holds ((s G).verdict fs).found))))
      ∙ ap (λ (w : Judged (List Found)). and_judged w (λ fs. unless_broken (type_rules ((s G).verdict fs).faults) at (λ _. Holds ((s G).verdict fs).found))) (h G d shows enough)
  parts_fail NoMemory h G d shows enough = tt

  -- the verdict decides
  pub parts_finish : (v : Vec Checked) (concluded : Result Concluded (Fault Rule)) (result : Result Checked (Fault Break)) → ChecksAll c p deep (Ok v) → FinishesIn c v.items concluded at result → ((G : Context) (fs : List Found) → Shows c G → map facts fs ≡ map facts_of v.items → Concludes ((s G).verdict fs) concluded) → ChecksAs c s at deep result
  parts_finish v concluded result h fin judges G d shows enough =
      let found = h G d shows enough in
      fin G shows (judged d G) (s G) found.0 (sound G shows) (ap (walked (judged d G)) (plan G shows) ∙ found.1) found.2 (subst (λ (q : Plan). StandAll G q (typeds (codes_of v.items)) found.0) (sym (plan G shows)) found.3) (judges G found.0 shows found.2)

  -- the same of parts that were walked one by one
  pub walk_finish : (cs : List Checked) (concluded : Result Concluded (Fault Rule)) (result : Result Checked (Fault Break)) → Walked c p Ends deep cs → FinishesIn c cs concluded at result → ((G : Context) (fs : List Found) → Shows c G → map facts fs ≡ map facts_of cs → Concludes ((s G).verdict fs) concluded) → ChecksAs c s at deep result
  walk_finish cs concluded result walk fin judges G d shows enough =
      let found = walked_all c p deep cs walk G d shows enough in
      fin G shows (judged d G) (s G) found.0 (sound G shows) (ap (walked (judged d G)) (plan G shows) ∙ found.1) found.2 (subst (λ (q : Plan). StandAll G q (typeds (codes_of cs)) found.0) (sym (plan G shows)) found.3) (judges G found.0 shows found.2)

-- ---- natives all of whose arguments are evaluated

module _ (c : CodeContext) (native : Evaluated) (B : Names) (args : List Tree) (at : Span) (b : Bool) (is : b ≡ takes (row_of (head_at native)).arity (length args)) where
  module _ (enough : b ≡ true) where
    sound : shape_rules (native_as native B args).faults ≡ []
    sound i = when (not ((sym is ∙ enough) i)) ArgumentCount []

    pub native_fails : (f : Fault Break) → ChecksAll c (parts B args) (forest_depth (forest args) + 1) (Err f) → ChecksNative c native B args at (Err f)
    native_fails f h = parts_fail c (λ G. native_as native B args) at (forest_depth (forest args) + 1) (parts B args) (λ G shows. sound) (λ G shows. refl) f h

    pub native_found : (v : Vec Checked) (concluded : Result Concluded (Fault Rule)) (result : Result Checked (Fault Break)) → ChecksAll c (parts B args) (forest_depth (forest args) + 1) (Ok v) → Judges native v.items concluded → FinishesIn c v.items concluded at result → ChecksNative c native B args at result
    native_found v concluded result h judges fin = parts_finish c (λ G. native_as native B args) at (forest_depth (forest args) + 1) (parts B args) (λ G shows. sound) (λ G shows. refl) v concluded result h fin (λ G fs shows same. judges (row_of (head_at native)) (length args) fs same)

    -- a node has as many parts as its native takes
    pub native_fits : (cs : List Checked) (op : Op) → ((n : ℕ) → has_parts op n ≡ takes (row_of (head_at native)).arity n) → texts_of cs ≡ args → has_parts op (length cs) ≡ true
    native_fits cs op fit text = fit (length cs) ∙ ap (takes (row_of (head_at native)).arity) (parts_count cs args text) ∙ sym is ∙ enough

-- ---- lists

pub list_is : (G : Context) (B : Names) (w : Word) (args : List Tree) (at : Span) → shape G B (ListAt (forest (word w ∷ args)) at) ≡ operator_shape (native G.version w.name) (signature_in w.name G.functions) G B args
unfolding shape
list_is G B w args at = ap (operator_shape (native G.version w.name) (signature_in w.name G.functions) G B) (trees_forest args)

-- a list that begins with a native
pub native_list : (c : CodeContext) (B : Names) (items : List Tree) (w : Word) (args : List Tree) (at : Span) (h : Head) (result : Result Checked (Fault Break)) → items ≡ word w ∷ args → Some h ≡ head_of c.version w.name → ChecksHead c h B args at result → Checks c B (ListAt (forest items) at) result
native_list c B items w args at h result list found k =
    subst (λ (ts : List Tree). Checks c B (ListAt (forest ts) at) result) (sym list)
    (checks_by c B (ListAt (forest (word w ∷ args)) at) (λ G. head_shape h (row_of h) G B args) (forest_depth (forest args) + 1) result (omega arith)
    (λ G shows. list_is G B w args at ∙ ap (λ (o : Option Row). operator_shape o (signature_in w.name G.functions) G B args) (native_is c w.name h found G shows) ∙ ap (λ (x : Head). head_shape x (row_of h) G B args) (own_head c.version w.name h found)) k)

odd_is : (G : Context) (B : Names) (items : List Tree) (at : Span) → is_headed items ≡ false → shape G B (ListAt (forest items) at) ≡ unlooked (record sound_shape { empty_form = true })
unfolding shape
odd_is G B [] at h = refl
odd_is G B (LeafAt (Named x) s ∷ es) at h = absurd cc
odd_is G B (LeafAt (Signed z) s ∷ es) at h = refl
odd_is G B (LeafAt (Unsigned n) s ∷ es) at h = refl
odd_is G B (LeafAt (Bytes n) s ∷ es) at h = refl
odd_is G B (LeafAt (Ascii n) s ∷ es) at h = refl
odd_is G B (LeafAt (Unicode n) s ∷ es) at h = refl
odd_is G B (LeafAt (Standing n) s ∷ es) at h = refl
odd_is G B (LeafAt (Local n) s ∷ es) at h = refl
odd_is G B (ListAt fs s ∷ es) at h = refl
odd_is G B (TupleAt ps s ∷ es) at h = refl

pub odd_list : (c : CodeContext) (B : Names) (items : List Tree) (at : Span) (f : Fault Break) → is_headed items ≡ false → f ≡ Refused (record { rule = EmptyForm; span = at }) → Checks c B (ListAt (forest items) at) (Err f)
odd_list c B items at f odd is = checks_by c B (ListAt (forest items) at) (λ G. unlooked (record sound_shape { empty_form = true })) 0 (Err f) (omega arith) (λ G shows. odd_is G B items at odd) (shape_fails c (λ G. unlooked (record sound_shape { empty_form = true })) at 0 EmptyForm f (λ G shows. refl) is)

-- ---- heads

head_is : (evaluated : Evaluated) (r : Row) (G : Context) (B : Names) (args : List Tree) → head_shape (head_at evaluated) r G B args ≡ native_shape r (verdict_of evaluated r (length args)) B args
unfolding head_shape
head_is (Values n) r G B args = refl
head_is (Parts If) r G B args = refl
head_is (Parts Begin) r G B args = refl
head_is (Parts And) r G B args = refl
head_is (Parts Or) r G B args = refl
head_is (Parts Asserts) r G B args = refl
head_is (Parts Unwrap) r G B args = refl
head_is (Parts UnwrapErr) r G B args = refl
head_is (Parts Try) r G B args = refl
head_is (Parts AsContract) r G B args = refl
head_is (Parts Print) r G B args = refl
head_is (Parts StxBalance) r G B args = refl
head_is (Parts SendStx) r G B args = refl
head_is (Parts BurnStx) r G B args = refl

pub native_head : (c : CodeContext) (native : Evaluated) (head : Head) (B : Names) (args : List Tree) (at : Span) (result : Result Checked (Fault Break)) → head ≡ head_at native → ChecksNative c native B args at result → ChecksHead c head B args at result
native_head c native head B args at result is h =
    subst (λ (x : Head). ChecksHead c x B args at result) (sym is)
    (λ G d shows enough. subst (λ (s : Shape). Finds G s (judged_as (judged d G) s at) result) (sym (head_is native (row_of (head_at native)) G B args)) (h G d shows enough))

-- the text of a list that begins with a native
pub list_text : (version : Version) (items : List Tree) (w : Word) (args : List Tree) (at : Span) (head : Head) → items ≡ word w ∷ args → Some head ≡ head_of version w.name → headed (name_of head) w.span args at ≡ ListAt (forest items) at
list_text version items w args at head list found =
    let name : w.name ≡ name_of head = named_alone version w.name head (sym found) in
    ap (λ (x : List ℕ). headed x w.span args at) (sym name) ∙ ap (λ (ts : List Tree). ListAt (forest ts) at) (sym list)

pub text_by : (result : Result Checked (Fault Break)) (d e : Tree) → IfOk result (λ c. expression_of c.code ≡ d) → d ≡ e → IfOk result (λ c. expression_of c.code ≡ e)
text_by result d e h is = subst (λ (t : Tree). IfOk result (λ c. expression_of c.code ≡ t)) is h

size_least : (t : Tree) → 0 < tree_size t
size_least (LeafAt l s) = omega arith
size_least (ListAt f s) = omega arith
size_least (TupleAt ps s) = omega arith

pub twice : (ts : List Tree) → 2 * length ts ≤ forest_size (forest ts)
twice [] = omega arith
twice (t ∷ ts) = omega (arith, twice ts, size_least t)

-- a list has few parts
pub few_parts : (cs : List Checked) (args : List Tree) → texts_of cs ≡ args → forest_size (forest args) < 2097152 → length cs < 1048576
few_parts cs args text small =
    omega (arith, parts_count cs args text, twice args, small)
