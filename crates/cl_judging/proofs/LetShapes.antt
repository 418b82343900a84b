-- The shape of a let.
use Rattle.std.proofs.Common.{◌≡◌, ℕ, suc, ◌+◌, ◌<◌, ◌≤◌, max, Bool, true, false, List, [], ◌∷◌, ◌++◌, map, length, drop, filter_map, Option, Some, None, Result, Ok, Err, refl, ap, sym, subst, ◌∙◌, arith}
use Rattle.std.specs.Prelude.{is_some, codes, nat_eq, nat_le, nat_lt, not}
use Rattle.std.proofs.Math.Dec.{eqb-suc-zero}
use Rattle.std.proofs.lemmas.Bool.{lt-ltb}
use Rattle.std.specs.List.{cons_option}
use Rattle.std.specs.Global.{Vec}
use Rattle.cl_types.specs.declared.fault.Fault.{Fault}
use Rattle.cl_types.specs.declared.fault.Fault.TheVariants.{Refused}
use Rattle.cl_sexpr.specs.declared.sexpr.Span.{Span}
use Rattle.cl_sexpr.specs.declared.rule.Rule.{Rule}
use Rattle.cl_sexpr.specs.declared.rule.Rule.TheVariants.{ArgumentCount, ShadowedName, BadBinding}
use Rattle.cl_sexpr.specs.declared.rule.Break.{Break}
use Rattle.cl_sexpr.specs.Tree.{Tree, ListAt, forest, tree_depth, forest_depth, forest_size}
use Rattle.cl_forms.specs.Heads.{Row, row_of, takes}
use Rattle.cl_forms.specs.declared.head.Head.{Head}
use Rattle.cl_forms.specs.declared.head.Head.TheVariants.{Let}
use Rattle.cl_forms.specs.Shapes.{binding_of, bindings_of, and_binding}
use Rattle.cl_forms.proofs.Bindings.{trees_forest}
use Rattle.cl_rules.specs.Faults.{shape_rules, when}
use Rattle.cl_rules.specs.Bills.{Charge}
use Rattle.cl_rules.specs.Context.{Context, Names}
use Rattle.cl_rules.specs.Shapes.{Shape}
use Rattle.cl_rules.specs.ControlShapes.{bound_name, let_with, let_shape}
use Rattle.cl_rules.specs.Table.{head_shape}
use Rattle.cl_rules.specs.Judging.{judged}
use Rattle.cl_code.specs.declared.op.Binding.{Binding}
use Rattle.cl_code.specs.Expression.{binding, bound_items, headed}
use Rattle.cl_judging.specs.declared.context.Context.{Context as CodeContext}
use Rattle.cl_typing.specs.declared.concluding.Checked.{Checked}
use Rattle.cl_typing.specs.declared.concluding.Concluded.{Concluded}
use Rattle.cl_judging.specs.Seen.{Shows, shadowed_in}
use Rattle.cl_typing.specs.Verdicts.{texts_of, first_rule}
use Rattle.cl_judging.specs.Walking.{Finds, judged_as, ChecksHead, FinishesIn}
use Rattle.cl_judging.specs.LetWalk.{exprs_of, plan_of, ChecksBindings, ChecksMore, JudgesLet, ChecksLetWith, ChecksLet}
use Rattle.cl_judging.proofs.Lets.{shadowed_is}
use Rattle.cl_judging.proofs.Lists.{shape_fails, parts_fail, parts_finish, twice, texts_length}
use Rattle.cl_judging.proofs.Plans.{walked_end}

module _ (c : CodeContext) (B : Names) (items body : List Tree) (at : Span) (some : nat_eq (length body) 0 ≡ false) where
  abbrev names : List (List ℕ)
  names = filter_map bound_name items

  abbrev deep : ℕ
  deep = max (forest_depth (forest items)) (forest_depth (forest body)) + 1

  pub let_taken : (b : Bool) (f : Fault Break) → b ≡ shadowed_in c B names → b ≡ true → f ≡ Refused (record { rule = ShadowedName; span = at }) → ChecksLetWith c B items body at (Err f)
  let_taken b f is holds fails r = shape_fails c (λ G. let_with r G B items body) at deep ShadowedName f (λ G shows i.
      first_rule (when (some i) ArgumentCount (when ((shadowed_is c G B names shows ∙ sym is ∙ holds) i) ShadowedName (when (not (is_some (bindings_of items))) BadBinding [])))) fails

  pub let_odd : (b d : Bool) (f : Fault Break) → b ≡ shadowed_in c B names → b ≡ false → d ≡ is_some (bindings_of items) → d ≡ false → f ≡ Refused (record { rule = BadBinding; span = at }) → ChecksLetWith c B items body at (Err f)
  let_odd b d f is none seen odd fails r = shape_fails c (λ G. let_with r G B items body) at deep BadBinding f (λ G shows i.
      first_rule (when (some i) ArgumentCount (when ((shadowed_is c G B names shows ∙ sym is ∙ none) i) ShadowedName (when (not ((sym seen ∙ odd) i)) BadBinding [])))) fails

  module _ (b d : Bool) (is : b ≡ shadowed_in c B names) (none : b ≡ false) (seen : d ≡ is_some (bindings_of items)) (good : d ≡ true) where
    sound : (r : Row) (G : Context) → Shows c G → shape_rules (let_with r G B items body).faults ≡ []
    sound r G shows i = when (some i) ArgumentCount (when ((shadowed_is c G B names shows ∙ sym is ∙ none) i) ShadowedName (when (not ((sym seen ∙ good) i)) BadBinding []))

    pub let_part_fails : (S : Names) (f : Fault Break) → ChecksBindings c B S items (Err f) → ChecksLetWith c B items body at (Err f)
    let_part_fails S f h r = parts_fail c (λ G. let_with r G B items body) at deep (plan_of body B items) (sound r) (λ G shows. refl) f (h body deep (omega arith))

    pub let_body_fails : (S : Names) (v : Vec Checked) (new : List Checked) (f : Fault Break) → ChecksBindings c B S items (Ok v) → ChecksMore c S v.items new body (Err f) → ChecksLetWith c B items body at (Err f)
    let_body_fails S v new f h k r = parts_fail c (λ G. let_with r G B items body) at deep (plan_of body B items) (sound r) (λ G shows. refl) f (k (plan_of body B items) deep (omega arith) (h body deep (omega arith)))

    pub let_found : (S : Names) (v w : Vec Checked) (u : Unit {0}) (concluded : Result Concluded (Fault Rule)) (result : Result Checked (Fault Break)) → ChecksBindings c B S items (Ok v) → ChecksMore c S v.items w.items body (Ok u) → JudgesLet (length items) w.items concluded → FinishesIn c w.items concluded at result → ChecksLetWith c B items body at result
    let_found S v w u concluded result h k judges fin r =
        parts_finish c (λ G. let_with r G B items body) at deep (plan_of body B items) (sound r) (λ G shows. refl) w concluded result
        (walked_end c (plan_of body B items) deep w (k (plan_of body B items) deep (omega arith) (h body deep (omega arith)))) fin (λ G fs shows same. judges (Charge r.cost (suc (length body))) fs same)

-- ---- the whole let

list_is : (r : Row) (G : Context) (B : Names) (args items body : List Tree) (e : Tree) (at : Span) → args ≡ e ∷ body → e ≡ ListAt (forest items) at → let_shape r G B args ≡ let_with r G B items body
list_is r G B args items body e at is list =
    ap (let_shape r G B) is ∙ ap (λ (t : Tree). let_shape r G B (t ∷ body)) list ∙ ap (λ (ts : List Tree). let_with r G B ts body) (trees_forest items)

pub let_whole : (c : CodeContext) (B : Names) (args items body : List Tree) (e : Tree) (at span : Span) (result : Result Checked (Fault Break)) → args ≡ e ∷ body → e ≡ ListAt (forest items) at → ChecksLetWith c B items body span result → ChecksLet c B args span result
let_whole c B args items body e at span result is list h r G d shows enough =
    let depth : forest_depth (forest args) ≡ max (forest_depth (forest items) + 1) (forest_depth (forest body)) = ap (λ (ts : List Tree). forest_depth (forest ts)) is ∙ ap (λ (t : Tree). max (tree_depth t) (forest_depth (forest body))) list in
    subst (λ (s : Shape). Finds G s (judged_as (judged d G) s span) result) (sym (list_is r G B args items body e at is list)) (h r G d shows (omega (arith, depth, enough)))

let_shaped : (c : CodeContext) (B : Names) (args : List Tree) (at : Span) (result : Result Checked (Fault Break)) → ChecksLet c B args at result → ChecksHead c Let B args at result
unfolding head_shape
let_shaped c B args at result h = h (row_of Let)

pub let_head : (c : CodeContext) (head : Head) (B : Names) (args : List Tree) (at : Span) (result : Result Checked (Fault Break)) → Let ≡ head → ChecksLet c B args at result → ChecksHead c head B args at result
let_head c head B args at result is h = subst (λ (x : Head). ChecksHead c x B args at result) is (let_shaped c B args at result h)

-- a let has a body
pub let_body : (args : List Tree) (e : Tree) (body : List Tree) → takes (row_of Let).arity (length args) ≡ true → args ≡ e ∷ body → nat_eq (length body) 0 ≡ false
let_body args e [] enough list = absurd (no (sym (ap (λ (ts : List Tree). nat_le 2 (length ts)) list) ∙ enough))
  where
    no : false ≡ true → ⊥
    no h = cc
let_body args e (d ∷ body) enough list = eqb-suc-zero (length body)

-- ---- the text of a let

bound_front : (bs : List Binding) (es body : List Tree) → length bs ≡ length es → bound_items bs (es ++ body) ≡ bound_items bs es
bound_front [] [] body h = refl
bound_front [] (e ∷ es) body h = absurd (omega (arith, h))
bound_front (b ∷ bs) [] body h = absurd (omega (arith, h))
bound_front (b ∷ bs) (e ∷ es) body h = ap (λ (ts : List Tree). binding b e ∷ ts) (bound_front bs es body (omega (arith, h)))

drop_front : (bs : List Binding) (es body : List Tree) → length bs ≡ length es → drop (length bs) (es ++ body) ≡ body
drop_front [] [] body h = refl
drop_front [] (e ∷ es) body h = absurd (omega (arith, h))
drop_front (b ∷ bs) [] body h = absurd (omega (arith, h))
drop_front (b ∷ bs) (e ∷ es) body h = drop_front bs es body (omega (arith, h))

one_more : (o : Option (List ℕ × Tree)) (p : Option (List (List ℕ × Tree))) (qs : List (List ℕ × Tree)) (n : ℕ) → is_some (and_binding o p) ≡ true → (is_some p ≡ true → length (map (λ (q : List ℕ × Tree). q.1) qs) ≡ n) → length (map (λ (q : List ℕ × Tree). q.1) (cons_option o qs)) ≡ suc n
one_more None None qs n h k = absurd cc
one_more None (Some ps) qs n h k = absurd cc
one_more (Some q) None qs n h k = absurd cc
one_more (Some q) (Some ps) qs n h k = ap suc (k refl)

pub exprs_count : (items : List Tree) → is_some (bindings_of items) ≡ true → length (exprs_of items) ≡ length items
exprs_count [] h = refl
exprs_count (t ∷ ts) h = one_more (binding_of t) (bindings_of ts) (filter_map binding_of ts) (length ts) h (exprs_count ts)

pub let_text : (items body es : List Tree) (bs : List Binding) (head at span : Span) → is_some (bindings_of items) ≡ true → es ≡ exprs_of items ++ body → bound_items bs (exprs_of items) ≡ items → length bs ≡ length items → headed (codes "let") head (ListAt (forest (bound_items bs es)) at ∷ drop (length bs) es) span ≡ headed (codes "let") head (ListAt (forest items) at ∷ body) span
let_text items body es bs head at span sound all text count =
    let same : length bs ≡ length (exprs_of items) = count ∙ sym (exprs_count items sound) in
    ap (λ (ts : List Tree). headed (codes "let") head (ListAt (forest (bound_items bs ts)) at ∷ drop (length bs) ts) span) all
    ∙ (λ i. headed (codes "let") head (ListAt (forest ((bound_front bs (exprs_of items) body same ∙ text) i)) at ∷ drop_front bs (exprs_of items) body same i) span)

append_length : (xs ys : List Tree) → length (xs ++ ys) ≡ length xs + length ys
append_length [] ys = omega arith
append_length (x ∷ xs) ys = omega (arith, append_length xs ys)

let_length : (items body : List Tree) (cs : List Checked) → is_some (bindings_of items) ≡ true → texts_of cs ≡ exprs_of items ++ body → length cs ≡ length items + length body
let_length items body cs sound all =
    let first : length (texts_of cs) ≡ length (exprs_of items ++ body) = ap length all in
    omega (arith, first, texts_length cs, append_length (exprs_of items) body, exprs_count items sound)

pub let_enough : (items body : List Tree) (cs : List Checked) → is_some (bindings_of items) ≡ true → texts_of cs ≡ exprs_of items ++ body → length items ≤ length cs
let_enough items body cs sound all = omega (arith, let_length items body cs sound all)

pub let_few : (items body : List Tree) (cs : List Checked) → is_some (bindings_of items) ≡ true → texts_of cs ≡ exprs_of items ++ body → forest_size (forest items) + forest_size (forest body) < 2097152 → length cs < 1048576
let_few items body cs sound all small = omega (arith, let_length items body cs sound all, twice items, twice body, small)

-- there are more parts than bindings
pub let_fits : (items body : List Tree) (bs : List Binding) (cs : List Checked) → is_some (bindings_of items) ≡ true → texts_of cs ≡ exprs_of items ++ body → length bs ≡ length items → nat_eq (length body) 0 ≡ false → nat_lt (length bs) (length cs) ≡ true
let_fits items body bs cs sound all count some = lt-ltb (length bs) (length cs) (omega (arith, let_length items body cs sound all, count, least body some))
  where
    least : (body : List Tree) → nat_eq (length body) 0 ≡ false → 0 < length body
    least [] h = absurd cc
    least (e ∷ body) h = omega arith
