-- Forms are judged by what is found of their expressions.
use Rattle.std.proofs.Common.{◌≡◌, ℕ, zero, suc, append_assoc, append-nil, length, get_or, ◌<◌, ◌≤◌, ◌+◌, Bool, true, false, List, [], ◌∷◌, Some, Ok, Err, refl, ap, sym, subst, ◌∙◌, arith}
use Rattle.std.specs.Prelude.{nat_lt, nat_eq, not, ◌&&◌, ◌++◌, map, take, slice_get, is_some, if◌then◌else◌}
use Rattle.std.specs.List.{list_any}
use Rattle.std.specs.Cmp.{both_ways}
use Rattle.std.specs.Cmp.Lexicographic.{pointwise}
use Rattle.std.proofs.lemmas.List.{take_more}
use Rattle.indexmap.specs.IndexMap.{IndexMap, insert_entry}
use Rattle.cl_check.proofs.AddedNames.{at_end}
use Rattle.std.proofs.lemmas.Bool.{ltb-true, lt-ltb, false_from_ne_true, or_parts}
use Rattle.cl_types.specs.Types.{PlainType, UintType, admits}
use Rattle.cl_types.specs.declared.fault.Fault.{Fault}
use Rattle.cl_types.specs.declared.fault.Fault.TheVariants.{Refused, NoMemory}
use Rattle.cl_types.specs.declared.sized.Access.{Access}
use Rattle.cl_types.specs.declared.sized.TyRefusal.{TyRefusal}
use Rattle.cl_types.specs.declared.sized.TyRefusal.TheVariants.{Differ, TooLarge as LargeType, TooDeep, EmptyTuple, KeyTwice}
use Rattle.cl_sexpr.specs.declared.sexpr.Span.{Span}
use Rattle.cl_sexpr.specs.declared.rule.Rule.{Rule}
use Rattle.cl_sexpr.specs.declared.rule.Rule.TheVariants.{ArgumentKind, TooDeepCalls, NotResponse}
use Rattle.cl_sexpr.specs.declared.rule.Break.{Break}
use Rattle.cl_sexpr.specs.Tree.{Tree, tree_depth}
use Rattle.cl_forms.specs.Forms.{FormKind, VariableForm, FungibleForm, FunctionForm}
use Rattle.cl_code.specs.Typed.{MoreTyped, NoTyped, expression_of, type_of}
use Rattle.cl_rules.specs.Faults.{form_rules, when}
use Rattle.cl_forms.specs.Names.{stands_twice}
use Rattle.cl_forms.proofs.Twice.{repeats, twice_is}
use Rattle.cl_rules.specs.Context.{Names, same, named_in, is_named}
use Rattle.cl_rules.specs.Verdicts.{Found, Thrown, thrown_after}
use Rattle.cl_rules.specs.Shapes.{Plan, Part, Ends}
use Rattle.cl_rules.specs.FormRules.{Defined, form_plan, form_faults, most_height, is_too_high, may_answer, return_of, answer_faults}
use Rattle.cl_rules.specs.Judging.{Judged, Holds, Fails, and_judged, unless_broken, walked, judged, nesting}
use Rattle.cl_forms.proofs.SameNames.{same_turned}
use Rattle.cl_contracts.specs.Standing.{StandAll}
use Rattle.cl_typing.specs.declared.concluding.Checked.{Checked}
use Rattle.cl_typing.specs.Verdicts.{Facts, facts, facts_of, counted, refused_throws}
use Rattle.cl_judging.specs.declared.context.Context.{Context as CodeContext}
use Rattle.cl_judging.specs.Seen.{Shows}
use Rattle.cl_check.specs.JudgingForms.{Checks, kind_judged, FindsKind, FindsBody, Returns, return_fault, return_rule}

module _ (c : CodeContext) (kind : FormKind) (B : Names) (e : Tree) (at : Span) (plan : form_plan kind ≡ Part B e Ends) (nested : tree_depth e < nesting) where
  abbrev ended : List Found → Judged (List Found)
  ended fs = unless_broken (form_rules (form_faults kind fs)) at (λ _. Holds fs)

  abbrev by_one : Judged Found → Judged (List Found)
  by_one j = and_judged (and_judged j (λ f. Holds (f ∷ []))) ended

  stepped : (D : Defined) → kind_judged D kind at ≡ by_one (judged nesting D.context B e)
  stepped D = ap (λ (p : Plan). and_judged (walked (judged nesting D.context) p) ended) plan

  pub kind_fails : (f : Fault Break) → Checks c B e (Err f) → FindsKind c kind at (Err f)
  kind_fails (Refused b) h = λ D shows. stepped D ∙ ap by_one (h D.context nesting shows nested)
  kind_fails NoMemory h = tt

  pub kind_holds : (x : Checked) → Checks c B e (Ok x) → expression_of x.code ≡ e → ((f : Found) → facts f ≡ facts_of x → form_rules (form_faults kind (f ∷ [])) ≡ []) → FindsKind c kind at (Ok x)
  kind_holds x h text sound D shows =
      let k = h D.context nesting shows nested in
      record {
        found = k.0;
        judged = stepped D ∙ ap by_one k.1 ∙ ap (λ (rs : List Rule). unless_broken rs at (λ _. Holds (k.0 ∷ []))) (sound k.0 k.2);
        stands = subst (λ (p : Plan). StandAll D.context p (MoreTyped x.code NoTyped) (k.0 ∷ [])) (sym plan) (text, k.3, tt);
        sound = sound k.0 k.2;
        facts = k.2;
      }

  pub kind_breaks : (x : Checked) (r : Rule) (rs : Found → List Rule) → Checks c B e (Ok x) → ((f : Found) → facts f ≡ facts_of x → form_rules (form_faults kind (f ∷ [])) ≡ r ∷ rs f) → (D : Defined) → Shows c D.context → kind_judged D kind at ≡ Fails r at
  kind_breaks x r rs h broken D shows =
      let k = h D.context nesting shows nested in
      stepped D ∙ ap by_one k.1 ∙ ap (λ (qs : List Rule). unless_broken qs at (λ _. Holds (k.0 ∷ []))) (broken k.0 k.2)

  pub kind_refused : (x : Checked) (r : Rule) (g : Fault Break) (rs : Found → List Rule) → g ≡ Refused (record { rule = r; span = at }) → Checks c B e (Ok x) → ((f : Found) → facts f ≡ facts_of x → form_rules (form_faults kind (f ∷ [])) ≡ r ∷ rs f) → FindsKind c kind at (Err g)
  kind_refused x r g rs is h broken = subst (λ (q : Fault Break). FindsKind c kind at (Err q)) (sym is) (kind_breaks x r rs h broken)

-- ---- heights

-- a height that is counted up to the end of its type is too high where the height is
high_is : (h : ℕ) → nat_lt most_height h ≡ nat_lt most_height (counted h)
high_is h = both_ways (nat_lt most_height h) (nat_lt most_height (counted h))
    (λ e. lt-ltb most_height (counted h) (omega (arith, ltb-true most_height h e)))
    (λ e. lt-ltb most_height h (omega (arith, ltb-true most_height (counted h) e)))

too_high : (f : Found) (x : Checked) (b : Bool) → facts f ≡ facts_of x → b ≡ nat_lt most_height x.height → is_too_high f.height ≡ b
too_high f x b same is = high_is f.height ∙ ap (λ (y : Facts). nat_lt most_height y.height) same ∙ sym is

-- ---- rules of forms

pub plain_rules : (x : Checked) (b : Bool) → b ≡ nat_lt most_height x.height → (f : Found) → facts f ≡ facts_of x → (when (is_too_high f.height) TooDeepCalls []) ≡ when b TooDeepCalls []
plain_rules x b is f same = ap (λ (d : Bool). when d TooDeepCalls []) (too_high f x b same is)

pub declared_rules : (t : PlainType) (e : Tree) (x : Checked) (a b : Bool) → a ≡ admits t (type_of x.code) → b ≡ nat_lt most_height x.height → (f : Found) → facts f ≡ facts_of x → form_rules (form_faults (VariableForm t e) (f ∷ [])) ≡ when (not a) ArgumentKind (when (a && b) TooDeepCalls [])
declared_rules t e x a b ia ib f same =
    let admitted : admits t f.type ≡ a = ap (λ (y : Facts). admits t y.type) same ∙ sym ia in
    λ i. when (not (admitted i)) ArgumentKind (when (admitted i && too_high f x b same ib i) TooDeepCalls [])

pub supply_rules : (t : PlainType) (e : Tree) (x : Checked) (rs : List Rule) → t ≡ UintType → ((f : Found) → facts f ≡ facts_of x → form_rules (form_faults (VariableForm t e) (f ∷ [])) ≡ rs) → (f : Found) → facts f ≡ facts_of x → form_rules (form_faults (FungibleForm (Some e)) (f ∷ [])) ≡ rs
supply_rules t e x rs is h f same = ap (λ (u : PlainType). form_rules (form_faults (VariableForm u e) (f ∷ []))) (sym is) ∙ h f same

-- ---- functions

pub body_fails : (c : CodeContext) (kind : FormKind) (at : Span) (g : Fault Break) → FindsKind c kind at (Err g) → FindsBody c kind at (Err g)
body_fails c kind at (Refused b) h = h
body_fails c kind at NoMemory h = tt

return_is : (x : Checked) (f : Found) → facts f ≡ facts_of x → return_of f ≡ thrown_after (Some (type_of x.code)) (x.thrown ∷ [])
return_is x f same = ap (λ (y : Facts). thrown_after (Some y.type) (y.thrown ∷ [])) same

pub returned_type : (x : Checked) (t : PlainType) → Returns x (Ok t) → (f : Found) → facts f ≡ facts_of x → (return_of f).type ≡ Some t
returned_type x t h f same = ap (λ (y : Thrown). y.type) (return_is x f same ∙ h)

module _ (access : Access) (params : List (List ℕ × PlainType)) (e : Tree) (x : Checked) where
  pub answer_rules : (t : PlainType) (a : Bool) → Returns x (Ok t) → a ≡ may_answer access t → (f : Found) → facts f ≡ facts_of x → form_rules (form_faults (FunctionForm access params e) (f ∷ [])) ≡ when (not a) NotResponse (when (is_too_high (suc f.height)) TooDeepCalls [])
  answer_rules t a h ia f same =
      ap (λ (y : Thrown). form_rules (answer_faults access (suc f.height) y y.type)) (return_is x f same ∙ h)
      ∙ ap (λ (b : Bool). when (not b) NotResponse (when (is_too_high (suc f.height)) TooDeepCalls [])) (sym ia)

  pub answer_high : (t : PlainType) (b : Bool) → Returns x (Ok t) → true ≡ may_answer access t → ((f : Found) → facts f ≡ facts_of x → is_too_high (suc f.height) ≡ b) → (f : Found) → facts f ≡ facts_of x → form_rules (form_faults (FunctionForm access params e) (f ∷ [])) ≡ when b TooDeepCalls []
  answer_high t b h ia ib f same = answer_rules t true h ia f same ∙ ap (λ (d : Bool). when d TooDeepCalls []) (ib f same)

  pub thrown_rules : (r : TyRefusal) → Returns x (Err (Refused r)) → (f : Found) → facts f ≡ facts_of x → form_rules (form_faults (FunctionForm access params e) (f ∷ [])) ≡ return_rule r ∷ []
  thrown_rules r h f same = ap (λ (y : Thrown). form_rules (answer_faults access (suc f.height) y y.type)) (return_is x f same ∙ h) ∙ by r
    where
      by : (r : TyRefusal) → form_rules (answer_faults access (suc f.height) (refused_throws r) (refused_throws r).type) ≡ return_rule r ∷ []
      by Differ = refl
      by LargeType = refl
      by TooDeep = refl
      by EmptyTuple = refl
      by KeyTwice = refl

pub one_higher : (f : Found) (x : Checked) → facts f ≡ facts_of x → 255 < x.height → is_too_high (suc f.height) ≡ true
one_higher f x same h = let is : counted f.height ≡ x.height = ap (λ (y : Facts). y.height) same in lt-ltb most_height (suc f.height) (omega (arith, is, h))

pub low_enough : (f : Found) (x : Checked) → facts f ≡ facts_of x → x.height ≤ 255 → is_too_high (suc f.height) ≡ false
low_enough f x same h = false_from_ne_true (is_too_high (suc f.height)) (λ e.
    let is : counted f.height ≡ x.height = ap (λ (y : Facts). y.height) same in
    let above : most_height < suc f.height = ltb-true most_height (suc f.height) e in
    omega (arith, is, h, above))

pub height_is : (f : Found) (x : Checked) → facts f ≡ facts_of x → x.height ≤ 255 → x.height + 1 ≡ f.height + 1
height_is f x same h = let is : counted f.height ≡ x.height = ap (λ (y : Facts). y.height) same in omega (arith, is, h)

pub body_thrown : (c : CodeContext) (access : Access) (params : List (List ℕ × PlainType)) (e : Tree) (x : Checked) (at : Span) → tree_depth e < nesting → (g : Fault TyRefusal) → Checks c params e (Ok x) → Returns x (Err g) → FindsBody c (FunctionForm access params e) at (Err (return_fault g at))
body_thrown c access params e x at nested (Refused r) h k = kind_breaks c (FunctionForm access params e) params e at refl nested x (return_rule r) (λ f. []) h (thrown_rules access params e x r k)
body_thrown c access params e x at nested NoMemory h k = tt

pub body_holds : (c : CodeContext) (access : Access) (params : List (List ℕ × PlainType)) (e : Tree) (at : Span) (x : Checked) (t : PlainType) → FindsKind c (FunctionForm access params e) at (Ok x) → Returns x (Ok t) → x.height ≤ 255 → FindsBody c (FunctionForm access params e) at (Ok (record { checked = x; returns = t; height = x.height + 1 }))
body_holds c access params e at x t h k low D shows =
    let holds = h D shows in
    record { holds = holds; returns = returned_type x t k holds.found holds.facts; height = height_is holds.found x holds.facts low }

-- ---- parameters

any_of : (x : List ℕ) (es : List (List ℕ × PlainType)) → list_any (same x) (map (λ (p : List ℕ × PlainType). p.0) es) ≡ false → is_named x es ≡ false
any_of x [] h = refl
any_of x (e ∷ es) h =
    let both = or_parts (same x e.0) (list_any (same x) (map (λ (p : List ℕ × PlainType). p.0) es)) h in
    ap (λ (b : Bool). is_some (if b then Some e.1 else named_in x es)) (same_turned e.0 x ∙ both.0) ∙ any_of x es both.1

not_seen : (x : List ℕ) (seen : List (List ℕ)) (rest : Bool) → (if list_any (same x) seen then true else rest) ≡ false → (list_any (same x) seen ≡ false) × (rest ≡ false)
not_seen x seen rest h = by (list_any (same x) seen) h
  where
    by : (b : Bool) → (if b then true else rest) ≡ false → (b ≡ false) × (rest ≡ false)
    by true e = absurd cc
    by false e = (refl, e)

once_at : (seen : List (List ℕ)) (ps : List (List ℕ × PlainType)) (i : ℕ) (p : List ℕ × PlainType) → repeats seen (map (λ (q : List ℕ × PlainType). q.0) ps) ≡ false → slice_get ps i ≡ Some p → list_any (same p.0) (seen ++ map (λ (q : List ℕ × PlainType). q.0) (take i ps)) ≡ false
once_at seen [] i p h k = absurd cc
once_at seen (q ∷ ps) zero p h k =
    let one : q ≡ p = cc in
    ap (λ (r : List ℕ × PlainType). list_any (same r.0) (seen ++ [])) (sym one) ∙ ap (list_any (same q.0)) (append-nil seen) ∙ (not_seen q.0 seen (repeats (seen ++ q.0 ∷ []) (map (λ (r : List ℕ × PlainType). r.0) ps)) h).0
once_at seen (q ∷ ps) (suc i) p h k =
    ap (list_any (same p.0)) (sym (append_assoc seen (q.0 ∷ []) (map (λ (r : List ℕ × PlainType). r.0) (take i ps))))
    ∙ once_at (seen ++ q.0 ∷ []) ps i p (not_seen q.0 seen (repeats (seen ++ q.0 ∷ []) (map (λ (r : List ℕ × PlainType). r.0) ps)) h).1 k

pub param_free : (ps : List (List ℕ × PlainType)) (i : ℕ) (p : List ℕ × PlainType) → stands_twice (map (λ (q : List ℕ × PlainType). q.0) ps) ≡ false → slice_get ps i ≡ Some p → is_named p.0 (take i ps) ≡ false
param_free ps i p h k = any_of p.0 (take i ps) (once_at [] ps i p (twice_is (map (λ (q : List ℕ × PlainType). q.0) ps) ∙ h) k)

at_here : {A : Type 0} (xs : List A) (i : ℕ) (x : A) → i < length xs → x ≡ get_or xs i x → slice_get xs i ≡ Some x
at_here [] i x l h = absurd (omega arith)
at_here (y ∷ ys) zero x l h = ap (λ z. Some z) (sym h)
at_here (y ∷ ys) (suc i) x l h = at_here ys i x (omega arith) h

-- one more parameter is bound
pub one_bound : {S : Type 0} (ps : List (List ℕ × PlainType)) (i : ℕ) (p : List ℕ × PlainType) (t : PlainType) (m : IndexMap (List ℕ) PlainType S) (es : List (List ℕ × PlainType)) → i < length ps → p ≡ get_or ps i p → stands_twice (map (λ (q : List ℕ × PlainType). q.0) ps) ≡ false → m.entries ≡ take i ps → t ≡ p.1 → es ≡ insert_entry (pointwise nat_eq) m.entries p.0 t → es ≡ take (i + 1) ps
one_bound ps i p t m es low here once before is h =
    let free : is_named p.0 m.entries ≡ false = ap (is_named p.0) before ∙ param_free ps i p once (at_here ps i p low here) in
    at_end p.0 t m es free h ∙ (λ j. before j ++ (p.0, is j) ∷ []) ∙ ap (λ (q : List ℕ × PlainType). take i ps ++ q ∷ []) here ∙ sym (take_more ps i p low)
