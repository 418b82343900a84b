-- The shapes of match.
use Rattle.std.proofs.Common.{◌≡◌, ℕ, ◌+◌, Bool, true, false, List, [], ◌∷◌, map, Option, Some, None, Result, Ok, Err, refl, ap, sym, subst, ◌∙◌, arith}
use Rattle.std.specs.Prelude.{◌||◌, ◌&&◌, not, is_some, filter_map, if◌then◌else◌}
use Rattle.std.specs.List.{list_all, cons_option}
use Rattle.cl_types.specs.Types.{PlainType, OptionalType, ResponseType}
use Rattle.cl_types.specs.declared.fault.Fault.{Fault}
use Rattle.cl_types.specs.declared.fault.Fault.TheVariants.{Refused}
use Rattle.cl_sexpr.specs.declared.sexpr.Span.{Span}
use Rattle.cl_sexpr.specs.declared.rule.Rule.{Rule}
use Rattle.cl_sexpr.specs.declared.rule.Rule.TheVariants.{ArgumentKind, ShadowedName, BadBinding}
use Rattle.cl_sexpr.specs.declared.rule.Break.{Break}
use Rattle.cl_sexpr.specs.Tree.{Tree, forest, forest_depth}
use Rattle.cl_forms.specs.Heads.{row_of}
use Rattle.cl_forms.specs.declared.head.Head.TheVariants.{Match}
use Rattle.cl_rules.specs.Faults.{shape_rules, when}
use Rattle.cl_rules.specs.Bills.{Bill, Charge, Both, Greater}
use Rattle.cl_rules.specs.Context.{Context, Names, bind}
use Rattle.cl_rules.specs.Verdicts.{Found, Verdict, sum_of, concluded}
use Rattle.cl_rules.specs.Shapes.{Shape, Plan, Ends, Part, Gives}
use Rattle.cl_rules.specs.ControlShapes.{bound_branch, optional_plan, response_plan, optional_verdict, response_verdict, match_verdict, match_shape, is_shadowed, is_atom, atom_of}
use Rattle.cl_rules.specs.Table.{head_shape}
use Rattle.cl_code.specs.declared.op.Word.{Word}
use Rattle.cl_code.specs.Expression.{word, optional_branches, response_branches}
use Rattle.cl_code.specs.Typed.{expression_of, type_of}
use Rattle.cl_typing.specs.declared.concluding.Checked.{Checked}
use Rattle.cl_typing.specs.declared.concluding.Concluded.{Concluded}
use Rattle.cl_typing.specs.Branches.{optional_row, response_row}
use Rattle.cl_typing.specs.Verdicts.{Facts, facts, facts_of, first_rule, Concludes, ConcludesRow}
use Rattle.cl_judging.specs.declared.context.Context.{Context as CodeContext}
use Rattle.cl_judging.specs.Seen.{Shows, taken_in, shadowed_in}
use Rattle.cl_judging.specs.Branching.{optional_part, response_parts, ChecksMatch, odd_rule}
use Rattle.cl_judging.specs.Walking.{Checks, ChecksAs, ChecksHead, FinishesIn, Walked}
use Rattle.cl_judging.proofs.Finishing.{finish_fails}
use Rattle.cl_judging.proofs.Lets.{shadowed_is}
use Rattle.cl_judging.proofs.Lists.{shape_fails, parts_fail, walk_finish}
use Rattle.cl_judging.proofs.Plans.{walked_none, walked_part, walked_gives, part_fails, given_fails}

-- ---- verdicts

optional_by : (own : Bill) (i a b : Found) (t : PlainType) → (bound : Bill) × (optional_verdict own i a b t ≡ concluded (optional_row (t ∷ a.type ∷ b.type ∷ [])) 0 bound (i ∷ a ∷ b ∷ []))
optional_by own i a b (OptionalType t) = (Both own (Both i.bound (Greater (bound_branch t a) b.bound)), refl)
optional_by own i a b t = (Both own (sum_of (i ∷ a ∷ b ∷ [])), refl)

response_by : (own : Bill) (i a b : Found) (t : PlainType) → (bound : Bill) × (response_verdict own i a b t ≡ concluded (response_row (t ∷ a.type ∷ b.type ∷ [])) 0 bound (i ∷ a ∷ b ∷ []))
response_by own i a b (ResponseType t e) = (Both own (Both i.bound (Greater (bound_branch t a) (bound_branch e b))), refl)
response_by own i a b t = (Both own (sum_of (i ∷ a ∷ b ∷ [])), refl)

module _ (x y z : Checked) (result : Result Concluded (Fault Rule)) (own : Bill) where
  pub optional_judged : ConcludesRow optional_row 0 (x ∷ y ∷ z ∷ []) result → (fs : List Found) → map facts fs ≡ map facts_of (x ∷ y ∷ z ∷ []) → Concludes (match_verdict true own fs) result
  optional_judged h [] same = absurd cc
  optional_judged h (i ∷ []) same = absurd cc
  optional_judged h (i ∷ a ∷ []) same = absurd cc
  optional_judged h (i ∷ a ∷ b ∷ []) same = let by = optional_by own i a b i.type in subst (λ (v : Verdict). Concludes v result) (sym by.1) (h by.0 (i ∷ a ∷ b ∷ []) same)
  optional_judged h (i ∷ a ∷ b ∷ d ∷ fs) same = absurd cc

  pub response_judged : ConcludesRow response_row 0 (x ∷ y ∷ z ∷ []) result → (fs : List Found) → map facts fs ≡ map facts_of (x ∷ y ∷ z ∷ []) → Concludes (match_verdict false own fs) result
  response_judged h [] same = absurd cc
  response_judged h (i ∷ []) same = absurd cc
  response_judged h (i ∷ a ∷ []) same = absurd cc
  response_judged h (i ∷ a ∷ b ∷ []) same = let by = response_by own i a b i.type in subst (λ (v : Verdict). Concludes v result) (sym by.1) (h by.0 (i ∷ a ∷ b ∷ []) same)
  response_judged h (i ∷ a ∷ b ∷ d ∷ fs) same = absurd cc

-- where the input is no optional, or no response
odd_optional : (x y : Checked) (own : Bill) (fs : List Found) → map facts fs ≡ map facts_of (x ∷ y ∷ []) → Concludes (match_verdict true own fs) (Err (Refused ArgumentKind))
odd_optional x y own [] same = absurd cc
odd_optional x y own (i ∷ []) same = absurd cc
odd_optional x y own (i ∷ a ∷ []) same = refl
odd_optional x y own (i ∷ a ∷ b ∷ fs) same = absurd cc

odd_response : (x : Checked) (own : Bill) (fs : List Found) → map facts fs ≡ map facts_of (x ∷ []) → Concludes (match_verdict false own fs) (Err (Refused ArgumentKind))
odd_response x own [] same = absurd cc
odd_response x own (i ∷ []) same = refl
odd_response x own (i ∷ a ∷ fs) same = absurd cc

-- ---- what is bound

optional_at : (B : Names) (x : List ℕ) (a b : Tree) (s t : PlainType) → Some t ≡ optional_part s → optional_plan B x a b s ≡ Part (bind x t B) a (Part B b Ends)
optional_at B x a b (OptionalType u) t h = let same : t ≡ u = cc in ap (λ (v : PlainType). Part (bind x v B) a (Part B b Ends)) (sym same)
optional_at B x a b s t h = absurd cc

optional_not : (B : Names) (x : List ℕ) (a b : Tree) (s : PlainType) → None ≡ optional_part s → optional_plan B x a b s ≡ Part B b Ends
optional_not B x a b (OptionalType u) h = absurd cc
optional_not B x a b s h = refl

response_at : (B : Names) (x : List ℕ) (a : Tree) (y : List ℕ) (b : Tree) (s t u : PlainType) → Some (t, u) ≡ response_parts s → response_plan B x a y b s ≡ Part (bind x t B) a (Part (bind y u B) b Ends)
response_at B x a y b (ResponseType v w) t u h =
    let pair : (t, u) ≡ (v, w) = cc in
    let one : t ≡ v = ap (λ (p : PlainType × PlainType). p.0) pair in
    let two : u ≡ w = ap (λ (p : PlainType × PlainType). p.1) pair in
    λ i. Part (bind x (sym one i) B) a (Part (bind y (sym two i) B) b Ends)
response_at B x a y b s t u h = absurd cc

response_not : (B : Names) (x : List ℕ) (a : Tree) (y : List ℕ) (b : Tree) (s : PlainType) → None ≡ response_parts s → response_plan B x a y b s ≡ Ends
response_not B x a y b (ResponseType v w) h = absurd cc
response_not B x a y b s h = refl

or_none : (b : Bool) → (b || false) ≡ b
or_none true = refl
or_none false = refl

-- ---- a match of an optional

module _ (c : CodeContext) (B : Names) (i : Tree) (w : Word) (a b : Tree) (at : Span) where
  abbrev items : List Tree
  items = optional_branches w (i ∷ a ∷ b ∷ [])

  abbrev deep : ℕ
  deep = forest_depth (forest items) + 1

  abbrev shape_of : Context → Shape
  shape_of G = match_shape (row_of Match) G B items

  abbrev plan_of : Plan
  plan_of = Gives B i (λ f. optional_plan B w.name a b f.type)

  abbrev ChecksOptional : Result Checked (Fault Break) → Type 0
  ChecksOptional result = ChecksAs c shape_of at deep result

  pub optional_taken : (t : Bool) (f : Fault Break) → t ≡ taken_in c B w.name → t ≡ true → f ≡ Refused (record { rule = ShadowedName; span = at }) → ChecksOptional (Err f)
  optional_taken t f is holds fails = shape_fails c shape_of at deep ShadowedName f (λ G shows j. first_rule (when ((shadowed_is c G B (w.name ∷ []) shows ∙ or_none (taken_in c B w.name) ∙ sym is ∙ holds) j) ShadowedName [])) fails

  module _ (taken : Bool) (is : taken ≡ taken_in c B w.name) (free : taken ≡ false) where
    sound : (G : Context) → Shows c G → shape_rules (shape_of G).faults ≡ []
    sound G shows j = when ((shadowed_is c G B (w.name ∷ []) shows ∙ or_none (taken_in c B w.name) ∙ sym is ∙ free) j) ShadowedName []

    pub optional_input_fails : (f : Fault Break) → Checks c B i (Err f) → ChecksOptional (Err f)
    optional_input_fails f h = parts_fail c shape_of at deep plan_of sound (λ G shows. refl) f (given_fails c plan_of (λ f. optional_plan B w.name a b f.type) B i deep [] f (omega arith) h (walked_none c plan_of deep))

    module _ (x : Checked) (input : expression_of x.code ≡ i) (h : Checks c B i (Ok x)) where
      after : (rest : Plan) → optional_plan B w.name a b (type_of x.code) ≡ rest → Walked c plan_of rest deep (x ∷ [])
      after rest next = walked_gives c plan_of rest (λ f. optional_plan B w.name a b f.type) B i deep [] x (omega arith) input h (λ f same. ap (λ (y : Facts). optional_plan B w.name a b y.type) same ∙ next) (walked_none c plan_of deep)

      -- no optional: the branch of none is looked at
      pub optional_none_fails : (f : Fault Break) → None ≡ optional_part (type_of x.code) → Checks c B b (Err f) → ChecksOptional (Err f)
      optional_none_fails f none k = parts_fail c shape_of at deep plan_of sound (λ G shows. refl) f (part_fails c plan_of Ends B b deep (x ∷ []) f (omega arith) k (after (Part B b Ends) (optional_not B w.name a b (type_of x.code) none)))

      pub optional_odd : (y : Checked) (f : Fault Break) → None ≡ optional_part (type_of x.code) → expression_of y.code ≡ b → Checks c B b (Ok y) → f ≡ Refused (record { rule = ArgumentKind; span = at }) → ChecksOptional (Err f)
      optional_odd y f none text k fails = walk_finish c shape_of at deep plan_of sound (λ G shows. refl) (x ∷ y ∷ []) (Err (Refused ArgumentKind)) (Err f)
          (walked_part c plan_of Ends B b deep (x ∷ []) y (omega arith) text k (after (Part B b Ends) (optional_not B w.name a b (type_of x.code) none)))
          (λ G shows. finish_fails G (x ∷ y ∷ []) (Refused ArgumentKind) at f fails)
          (λ G fs shows same. odd_optional x y (Charge (row_of Match).cost 4) fs same)

      module _ (t : PlainType) (some : Some t ≡ optional_part (type_of x.code)) where
        first : Walked c plan_of (Part (bind w.name t B) a (Part B b Ends)) deep (x ∷ [])
        first = after (Part (bind w.name t B) a (Part B b Ends)) (optional_at B w.name a b (type_of x.code) t some)

        pub optional_some_fails : (f : Fault Break) → Checks c (bind w.name t B) a (Err f) → ChecksOptional (Err f)
        optional_some_fails f k = parts_fail c shape_of at deep plan_of sound (λ G shows. refl) f (part_fails c plan_of (Part B b Ends) (bind w.name t B) a deep (x ∷ []) f (omega arith) k first)

        module _ (y : Checked) (text : expression_of y.code ≡ a) (k : Checks c (bind w.name t B) a (Ok y)) where
          second : Walked c plan_of (Part B b Ends) deep (x ∷ y ∷ [])
          second = walked_part c plan_of (Part B b Ends) (bind w.name t B) a deep (x ∷ []) y (omega arith) text k first

          pub optional_last_fails : (f : Fault Break) → Checks c B b (Err f) → ChecksOptional (Err f)
          optional_last_fails f l = parts_fail c shape_of at deep plan_of sound (λ G shows. refl) f (part_fails c plan_of Ends B b deep (x ∷ y ∷ []) f (omega arith) l second)

          pub optional_found : (z : Checked) (ps : List Checked) (concluded : Result Concluded (Fault Rule)) (result : Result Checked (Fault Break)) → expression_of z.code ≡ b → Checks c B b (Ok z) → ps ≡ x ∷ y ∷ z ∷ [] → ConcludesRow optional_row 0 ps concluded → FinishesIn c ps concluded at result → ChecksOptional result
          optional_found z ps concluded result last l three judges fin = walk_finish c shape_of at deep plan_of sound (λ G shows. refl) (x ∷ y ∷ z ∷ []) concluded result
              (walked_part c plan_of Ends B b deep (x ∷ y ∷ []) z (omega arith) last l second)
              (subst (λ (cs : List Checked). FinishesIn c cs concluded at result) three fin)
              (λ G fs shows same. optional_judged x y z concluded (Charge (row_of Match).cost 4) (subst (λ (cs : List Checked). ConcludesRow optional_row 0 cs concluded) three judges) fs same)

-- ---- a match of a response

module _ (c : CodeContext) (B : Names) (i : Tree) (w : Word) (a : Tree) (w' : Word) (b : Tree) (at : Span) where
  abbrev both_items : List Tree
  both_items = response_branches w w' (i ∷ a ∷ b ∷ [])

  abbrev both_deep : ℕ
  both_deep = forest_depth (forest both_items) + 1

  abbrev both_shape : Context → Shape
  both_shape G = match_shape (row_of Match) G B both_items

  abbrev both_plan : Plan
  both_plan = Gives B i (λ f. response_plan B w.name a w'.name b f.type)

  abbrev ChecksResponse : Result Checked (Fault Break) → Type 0
  ChecksResponse result = ChecksAs c both_shape at both_deep result

  pub response_taken : (t : Bool) (f : Fault Break) → t ≡ shadowed_in c B (w.name ∷ w'.name ∷ []) → t ≡ true → f ≡ Refused (record { rule = ShadowedName; span = at }) → ChecksResponse (Err f)
  response_taken t f is holds fails = shape_fails c both_shape at both_deep ShadowedName f (λ G shows j. first_rule (when ((shadowed_is c G B (w.name ∷ w'.name ∷ []) shows ∙ sym is ∙ holds) j) ShadowedName [])) fails

  module _ (taken : Bool) (is : taken ≡ shadowed_in c B (w.name ∷ w'.name ∷ [])) (free : taken ≡ false) where
    both_sound : (G : Context) → Shows c G → shape_rules (both_shape G).faults ≡ []
    both_sound G shows j = when ((shadowed_is c G B (w.name ∷ w'.name ∷ []) shows ∙ sym is ∙ free) j) ShadowedName []

    pub response_input_fails : (f : Fault Break) → Checks c B i (Err f) → ChecksResponse (Err f)
    response_input_fails f h = parts_fail c both_shape at both_deep both_plan both_sound (λ G shows. refl) f (given_fails c both_plan (λ f. response_plan B w.name a w'.name b f.type) B i both_deep [] f (omega arith) h (walked_none c both_plan both_deep))

    module _ (x : Checked) (input : expression_of x.code ≡ i) (h : Checks c B i (Ok x)) where
      both_after : (rest : Plan) → response_plan B w.name a w'.name b (type_of x.code) ≡ rest → Walked c both_plan rest both_deep (x ∷ [])
      both_after rest next = walked_gives c both_plan rest (λ f. response_plan B w.name a w'.name b f.type) B i both_deep [] x (omega arith) input h (λ f same. ap (λ (y : Facts). response_plan B w.name a w'.name b y.type) same ∙ next) (walked_none c both_plan both_deep)

      -- no response: no branch is looked at
      pub response_odd : (f : Fault Break) → None ≡ response_parts (type_of x.code) → f ≡ Refused (record { rule = ArgumentKind; span = at }) → ChecksResponse (Err f)
      response_odd f none fails = walk_finish c both_shape at both_deep both_plan both_sound (λ G shows. refl) (x ∷ []) (Err (Refused ArgumentKind)) (Err f)
          (both_after Ends (response_not B w.name a w'.name b (type_of x.code) none))
          (λ G shows. finish_fails G (x ∷ []) (Refused ArgumentKind) at f fails)
          (λ G fs shows same. odd_response x (Charge (row_of Match).cost 5) fs same)

      module _ (t u : PlainType) (parts : Some (t, u) ≡ response_parts (type_of x.code)) where
        both_first : Walked c both_plan (Part (bind w.name t B) a (Part (bind w'.name u B) b Ends)) both_deep (x ∷ [])
        both_first = both_after (Part (bind w.name t B) a (Part (bind w'.name u B) b Ends)) (response_at B w.name a w'.name b (type_of x.code) t u parts)

        pub response_good_fails : (f : Fault Break) → Checks c (bind w.name t B) a (Err f) → ChecksResponse (Err f)
        response_good_fails f k = parts_fail c both_shape at both_deep both_plan both_sound (λ G shows. refl) f (part_fails c both_plan (Part (bind w'.name u B) b Ends) (bind w.name t B) a both_deep (x ∷ []) f (omega arith) k both_first)

        module _ (y : Checked) (text : expression_of y.code ≡ a) (k : Checks c (bind w.name t B) a (Ok y)) where
          both_second : Walked c both_plan (Part (bind w'.name u B) b Ends) both_deep (x ∷ y ∷ [])
          both_second = walked_part c both_plan (Part (bind w'.name u B) b Ends) (bind w.name t B) a both_deep (x ∷ []) y (omega arith) text k both_first

          pub response_bad_fails : (f : Fault Break) → Checks c (bind w'.name u B) b (Err f) → ChecksResponse (Err f)
          response_bad_fails f l = parts_fail c both_shape at both_deep both_plan both_sound (λ G shows. refl) f (part_fails c both_plan Ends (bind w'.name u B) b both_deep (x ∷ y ∷ []) f (omega arith) l both_second)

          pub response_found : (z : Checked) (ps : List Checked) (concluded : Result Concluded (Fault Rule)) (result : Result Checked (Fault Break)) → expression_of z.code ≡ b → Checks c (bind w'.name u B) b (Ok z) → ps ≡ x ∷ y ∷ z ∷ [] → ConcludesRow response_row 0 ps concluded → FinishesIn c ps concluded at result → ChecksResponse result
          response_found z ps concluded result last l three judges fin = walk_finish c both_shape at both_deep both_plan both_sound (λ G shows. refl) (x ∷ y ∷ z ∷ []) concluded result
              (walked_part c both_plan Ends (bind w'.name u B) b both_deep (x ∷ y ∷ []) z (omega arith) last l both_second)
              (subst (λ (cs : List Checked). FinishesIn c cs concluded at result) three fin)
              (λ G fs shows same. response_judged x y z concluded (Charge (row_of Match).cost 5) (subst (λ (cs : List Checked). ConcludesRow response_row 0 cs concluded) three judges) fs same)

pub odd_one : (e d : Tree) → atom_of e ≡ None → list_all is_atom (e ∷ d ∷ []) ≡ false
odd_one e d h = ap (λ (o : Option (List ℕ)). is_some o && (is_atom d && true)) h

pub odd_other : (e d : Tree) → atom_of d ≡ None → list_all is_atom (e ∷ d ∷ []) ≡ false
odd_other e d h = ap (λ (o : Option (List ℕ)). is_atom e && (is_some o && true)) h ∙ never (is_atom e)
  where
    never : (b : Bool) → (b && false) ≡ false
    never true = refl
    never false = refl

-- ---- shapes that have no names

match_head : (c : CodeContext) (B : Names) (args : List Tree) (at : Span) (result : Result Checked (Fault Break)) → ChecksMatch c B args at result → ChecksHead c Match B args at result
unfolding head_shape
match_head c B args at result h = h

pub match_whole : (c : CodeContext) (B : Names) (args items : List Tree) (at : Span) (result : Result Checked (Fault Break)) → args ≡ items → ChecksMatch c B items at result → ChecksHead c Match B args at result
match_whole c B args items at result is h = subst (λ (ts : List Tree). ChecksHead c Match B ts at result) (sym is) (match_head c B items at result h)

-- a place for a name that holds no atom
module _ (c : CodeContext) (B : Names) (at : Span) (r : Rule) (f : Fault Break) (fails : f ≡ Refused (record { rule = r; span = at })) where
  pub optional_no_name : (i e a b : Tree) → atom_of e ≡ None → r ≡ BadBinding → ChecksMatch c B (i ∷ e ∷ a ∷ b ∷ []) at (Err f)
  optional_no_name i e a b odd rule = shape_fails c (λ G. match_shape (row_of Match) G B (i ∷ e ∷ a ∷ b ∷ [])) at _ r f (λ G shows. none_rules G (atom_of e) odd ∙ ap (λ (q : Rule). Some q) (sym rule)) fails
    where
      none_rules : (G : Context) (o : Option (List ℕ)) → o ≡ None → first_rule (when (is_shadowed G B (cons_option o [])) ShadowedName (when (not (is_some o && true)) BadBinding [])) ≡ Some BadBinding
      none_rules G None h = refl
      none_rules G (Some x) h = absurd cc

  pub response_no_name : (i e a d b : Tree) → list_all is_atom (e ∷ d ∷ []) ≡ false → r ≡ odd_rule c B e d → ChecksMatch c B (i ∷ e ∷ a ∷ d ∷ b ∷ []) at (Err f)
  response_no_name i e a d b odd rule = shape_fails c (λ G. match_shape (row_of Match) G B (i ∷ e ∷ a ∷ d ∷ b ∷ [])) at _ r f (λ G shows.
      (λ j. first_rule (when (shadowed_is c G B (filter_map atom_of (e ∷ d ∷ [])) shows j) ShadowedName (when (not (odd j)) BadBinding [])))
      ∙ either_rule (shadowed_in c B (filter_map atom_of (e ∷ d ∷ []))) ∙ ap (λ (q : Rule). Some q) (sym rule)) fails
    where
      either_rule : (t : Bool) → first_rule (when t ShadowedName (BadBinding ∷ [])) ≡ Some (if t then ShadowedName else BadBinding)
      either_rule true = refl
      either_rule false = refl

-- ---- the rule where not both are names

by_taken : (b : Bool) → (if b then ShadowedName else BadBinding) ≡ (if b || false then ShadowedName else BadBinding)
by_taken true = refl
by_taken false = refl

abbrev rule_of : CodeContext → Names → List (List ℕ) → Rule
rule_of c B xs = if shadowed_in c B xs then ShadowedName else BadBinding

pub odd_first : (c : CodeContext) (B : Names) (e d : Tree) (w : Word) (r : Rule) → e ≡ word w → list_all is_atom (e ∷ d ∷ []) ≡ false → r ≡ (if taken_in c B w.name then ShadowedName else BadBinding) → r ≡ odd_rule c B e d
odd_first c B e d w r is odd rule =
    rule ∙ by_taken (taken_in c B w.name) ∙ sym (ap (λ (t : Tree). odd_rule c B t d) is ∙ none_behind (atom_of d) (subst (λ (t : Tree). list_all is_atom (t ∷ d ∷ []) ≡ false) is odd))
  where
    none_behind : (o : Option (List ℕ)) → (is_some o && true) ≡ false → rule_of c B (w.name ∷ cons_option o []) ≡ rule_of c B (w.name ∷ [])
    none_behind None h = refl
    none_behind (Some x) h = absurd cc

pub odd_second : (c : CodeContext) (B : Names) (e d : Tree) (w : Word) (r : Rule) → atom_of e ≡ None → d ≡ word w → r ≡ (if taken_in c B w.name then ShadowedName else BadBinding) → r ≡ odd_rule c B e d
odd_second c B e d w r none is rule =
    rule ∙ by_taken (taken_in c B w.name) ∙ sym (ap (λ (t : Tree). odd_rule c B e t) is ∙ ap (λ (o : Option (List ℕ)). rule_of c B (cons_option o (w.name ∷ []))) none)

pub odd_neither : (c : CodeContext) (B : Names) (e d : Tree) (r : Rule) → atom_of e ≡ None → atom_of d ≡ None → r ≡ BadBinding → r ≡ odd_rule c B e d
odd_neither c B e d r none neither rule =
    rule ∙ sym ((λ i. rule_of c B (cons_option (none i) (cons_option (neither i) []))))
