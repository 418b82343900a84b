-- Each kind of expression is charged itself and for its parts.
use Rattle.std.proofs.Common.{◌≡◌, ◌≢◌, ℕ, suc, ◌+◌, ◌-◌, ◌<◌, ◌≤◌, Bool, true, false, List, [], ◌∷◌, length, take, drop, Option, Some, None, refl, ap, sym, subst, ◌∙◌, arith, inl, inr}
use Rattle.std.specs.Prelude.{not, ◌||◌, nat_eq, is_some}
use Rattle.std.proofs.lemmas.Bool.{eq-eqb, cases_eq}
use Rattle.std.specs.Global.{Vec}
use Rattle.std.proofs.lemmas.List.{length-drop, length-map, take-map}
use Rattle.cl_types.specs.Types.{PlainType, NoType, IntType, UintType, BoolType, PrincipalType, BuffType, AsciiType, Utf8Type, ListType, TupleType, OptionalType, ResponseType, size_of}
use Rattle.cl_shapes.specs.declared.name.CostName.TheVariants.{Control, Lookup, ContractCall as ContractCallCost}
use Rattle.cl_sexpr.specs.declared.sexpr.Span.{Span}
use Rattle.cl_sexpr.specs.declared.rule.Rule.{Rule}
use Rattle.cl_sexpr.specs.declared.rule.Rule.TheVariants.{ArgumentCount, UnknownName, NotAValue}
use Rattle.cl_sexpr.specs.Tree.{Tree, LeafAt, ListAt, Standing, Local, Unsigned, forest}
use Rattle.cl_forms.specs.Heads.{Row, native, row_of}
use Rattle.cl_forms.specs.declared.head.Head.{Head}
use Rattle.cl_forms.specs.declared.head.Head.TheVariants as heads
use Rattle.cl_forms.specs.HeadNames.{name_of, has_head}
use Rattle.cl_forms.specs.Shapes.{trees_of}
use Rattle.cl_c32.specs.declared.principal.Principal.{Principal}
use Rattle.cl_rules.specs.Faults.{sound_shape, type_rules, when}
use Rattle.cl_rules.specs.NativeTypes.{wrong_kind}
use Rattle.cl_rules.specs.Bills.{Bill, Charge, Both, Greater}
use Rattle.cl_rules.specs.Context.{Context, Names, Signature, Known, signature_in, if_callable, target_at, named_in, is_no_value}
use Rattle.cl_rules.specs.Verdicts.{Found, type_at, types_of, sum_of, summed}
use Rattle.cl_rules.specs.ControlShapes.{name_shape, keyword_or, value_or, no_value_shape, let_verdict, match_verdict, binds, bound_branch, optional_verdict, response_verdict}
use Rattle.cl_rules.specs.CallShapes.{call_shape, target_or_not, contract_literal, call_verdict, is_unlike_function, length_at, function_of}
use Rattle.cl_rules.specs.Shapes.{Shape, First, There, there_or_not, is_no_such, is_no_name, at_first, parts, is_miscounted}
use Rattle.cl_rules.specs.Table.{head_shape, operator_shape, shape}
use Rattle.cl_code.specs.declared.op.Word.{Word}
use Rattle.cl_code.specs.declared.op.Binding.{Binding}
use Rattle.cl_code.specs.declared.op.Callee.{Callee}
use Rattle.cl_code.specs.declared.op.Target.{Target}
use Rattle.cl_code.specs.declared.op.Target.TheVariants.{Standing as StandingAt, Local as LocalAt}
use Rattle.cl_forms.specs.declared.keyword.Keyword.{Keyword}
use Rattle.cl_forms.specs.declared.keyword.Keyword.TheVariants as keys
use Rattle.cl_forms.specs.Names.{is_one_of}
use Rattle.cl_forms.specs.Keywords.{keyword_of, keywords}
use Rattle.cl_forms.proofs.Keywords.{keyless}
use Rattle.cl_code.specs.declared.op.Op.{Op}
use Rattle.cl_code.specs.declared.op.Op.TheVariants as ops
use Rattle.cl_code.specs.OpNames.{parts_head, name_head, iteration_head}
use Rattle.cl_code.specs.Nodes.{has_own_name, goes_op}
use Rattle.cl_code.proofs.Versions.{parts_had, name_had, iteration_had}
use Rattle.cl_code.specs.Expression.{word, applied_name, target, headed, bound_items, behind_first, optional_branches, response_branches, expression}
use Rattle.cl_bound.specs.Own.{own, inside, of_branches, branch_by, good_part, bad_part, applied, called_at}
use Rattle.cl_bound.specs.declared.branches.Branch.TheVariants.{Plain, Good, Bad}
use Rattle.cl_bound.specs.Charged.{Charges}
use Rattle.cl_bound.proofs.Heads.{headed_shape, trees_forest, when_more, when_not, no_native}
use Rattle.cl_bound.proofs.NativeCharges.{values_charges, parts_charges}
use Rattle.cl_bound.proofs.NamedCharges.{named_charges, applied_charges}

by_head : (h : Head) (head at : Span) (args : List Tree) (G : Context) (B : Names) (n : ℕ) (own : PlainType → List PlainType → Bill) (inside : List Found → Bill) → has_head G.version h ≡ true → Charges (head_shape h (row_of h) G B args) n own inside → Charges (shape G B (headed (name_of h) head args at)) n own inside
by_head h head at args G B n own inside had law = subst (λ (s : Shape). Charges s n own inside) (sym (headed_shape h head at args G B had)) law

-- ---- rules that are broken

some_rule : (r : Rule) (rs : List Rule) → r ∷ rs ≡ [] → ⊥
some_rule r rs h = cc

kind_rule : (own : Bill) (fs : List Found) → type_rules (summed wrong_kind own fs).faults ≡ [] → ⊥
kind_rule own fs fine = some_rule _ _ fine

-- ---- let

bound_length : (bs : List Binding) (es : List Tree) → length bs ≤ length es → length (bound_items bs es) ≡ length bs
bound_length [] es h = refl
bound_length (b ∷ bs) [] h = absurd (omega (arith, h))
bound_length (b ∷ bs) (e ∷ es) h = omega (arith, bound_length bs es (omega (arith, h)))

-- the bodies of a let break no rule by their number
let_more : (n : ℕ) (r : Rule) (rs : List Rule) → when (nat_eq n 0) r rs ≡ [] → 0 < n
let_more n r rs h =
    elim (cases_eq n 0) [
      | inl none ↦ absurd (let yes : nat_eq n 0 ≡ true = eq-eqb n 0 none in cc (when_not (nat_eq n 0) r rs h, yes))
      | inr some ↦ omega (arith, some)
    ]

let_bound : (G : Context) (head at : Span) (bs : Vec Binding) (k b : ℕ) (fs : List Found) → k ≡ length bs.items → b ≡ length fs - length bs.items → (let_verdict k (Charge Control (suc b)) fs).found.bound ≡ Both (own G (ops.Let head at bs) (let_verdict k (Charge Control (suc b)) fs).found.type (types_of fs)) (sum_of fs)
let_bound G head at bs k b fs count rest =
    ap (λ (m : ℕ). Both (Both (Charge Control (suc b)) (binds (types_of (take m fs)))) (sum_of fs)) count
    ∙ ap (λ (m : ℕ). Both (Both (Charge Control (suc m)) (binds (types_of (take (length bs.items) fs)))) (sum_of fs)) (rest ∙ ap (λ (m : ℕ). m - length bs.items) (sym (length-map fs type_at)))
    ∙ ap (λ (ts : List PlainType). Both (Both (Charge Control (suc (length (types_of fs) - length bs.items))) (binds ts)) (sum_of fs)) (sym (take-map type_at (length bs.items) fs))

-- ---- names

not_true : (b : Bool) → not b ≡ true → b ≡ false
not_true true h = absurd cc
not_true false h = refl

found_charges : (n : ℕ) (o p : Option PlainType) (known : Bool) → Charges (value_or o (value_or p (no_value_shape known))) n (λ t ts. Charge Lookup (size_of t)) sum_of
found_charges n None None true fs sound count fine = absurd (some_rule NotAValue [] sound)
found_charges n None None false fs sound count fine = absurd (some_rule UnknownName [] sound)
found_charges n None (Some t) known fs sound count fine = refl
found_charges n (Some t) p known fs sound count fine = refl

-- ---- match

odd_match : (b : Bool) (own : Bill) (fs : List Found) → length fs ≢ 3 → type_rules (match_verdict b own fs).faults ≡ [] → ⊥
odd_match true own [] odd fine = kind_rule own [] fine
odd_match false own [] odd fine = kind_rule own [] fine
odd_match true own (i ∷ []) odd fine = kind_rule own (i ∷ []) fine
odd_match false own (i ∷ []) odd fine = kind_rule own (i ∷ []) fine
odd_match true own (i ∷ a ∷ []) odd fine = kind_rule own (i ∷ a ∷ []) fine
odd_match false own (i ∷ a ∷ []) odd fine = kind_rule own (i ∷ a ∷ []) fine
odd_match b own (i ∷ a ∷ c ∷ []) odd fine = odd refl
odd_match true own (i ∷ a ∷ c ∷ d ∷ fs) odd fine = kind_rule own (i ∷ a ∷ c ∷ d ∷ fs) fine
odd_match false own (i ∷ a ∷ c ∷ d ∷ fs) odd fine = kind_rule own (i ∷ a ∷ c ∷ d ∷ fs) fine

optional_bound : (own : Bill) (i a b : Found) (t : PlainType) → type_rules (optional_verdict own i a b t).faults ≡ [] → (optional_verdict own i a b t).found.bound ≡ Both own (Both i.bound (Greater (bound_branch (good_part t) a) b.bound))
optional_bound own i a b NoType fine = absurd (kind_rule own (i ∷ a ∷ b ∷ []) fine)
optional_bound own i a b IntType fine = absurd (kind_rule own (i ∷ a ∷ b ∷ []) fine)
optional_bound own i a b UintType fine = absurd (kind_rule own (i ∷ a ∷ b ∷ []) fine)
optional_bound own i a b BoolType fine = absurd (kind_rule own (i ∷ a ∷ b ∷ []) fine)
optional_bound own i a b PrincipalType fine = absurd (kind_rule own (i ∷ a ∷ b ∷ []) fine)
optional_bound own i a b (BuffType n) fine = absurd (kind_rule own (i ∷ a ∷ b ∷ []) fine)
optional_bound own i a b (AsciiType n) fine = absurd (kind_rule own (i ∷ a ∷ b ∷ []) fine)
optional_bound own i a b (Utf8Type n) fine = absurd (kind_rule own (i ∷ a ∷ b ∷ []) fine)
optional_bound own i a b (ListType n t) fine = absurd (kind_rule own (i ∷ a ∷ b ∷ []) fine)
optional_bound own i a b (TupleType ks) fine = absurd (kind_rule own (i ∷ a ∷ b ∷ []) fine)
optional_bound own i a b (OptionalType t) fine = refl
optional_bound own i a b (ResponseType t e) fine = absurd (kind_rule own (i ∷ a ∷ b ∷ []) fine)

response_bound : (own : Bill) (i a b : Found) (t : PlainType) → type_rules (response_verdict own i a b t).faults ≡ [] → (response_verdict own i a b t).found.bound ≡ Both own (Both i.bound (Greater (bound_branch (good_part t) a) (bound_branch (bad_part t) b)))
response_bound own i a b NoType fine = absurd (kind_rule own (i ∷ a ∷ b ∷ []) fine)
response_bound own i a b IntType fine = absurd (kind_rule own (i ∷ a ∷ b ∷ []) fine)
response_bound own i a b UintType fine = absurd (kind_rule own (i ∷ a ∷ b ∷ []) fine)
response_bound own i a b BoolType fine = absurd (kind_rule own (i ∷ a ∷ b ∷ []) fine)
response_bound own i a b PrincipalType fine = absurd (kind_rule own (i ∷ a ∷ b ∷ []) fine)
response_bound own i a b (BuffType n) fine = absurd (kind_rule own (i ∷ a ∷ b ∷ []) fine)
response_bound own i a b (AsciiType n) fine = absurd (kind_rule own (i ∷ a ∷ b ∷ []) fine)
response_bound own i a b (Utf8Type n) fine = absurd (kind_rule own (i ∷ a ∷ b ∷ []) fine)
response_bound own i a b (ListType n t) fine = absurd (kind_rule own (i ∷ a ∷ b ∷ []) fine)
response_bound own i a b (TupleType ks) fine = absurd (kind_rule own (i ∷ a ∷ b ∷ []) fine)
response_bound own i a b (OptionalType t) fine = absurd (kind_rule own (i ∷ a ∷ b ∷ []) fine)
response_bound own i a b (ResponseType t e) fine = refl

match_optional : (n : ℕ) (fs : List Found) → n ≡ length fs + 1 → type_rules (match_verdict (nat_eq n 4) (Charge Control n) fs).faults ≡ [] → (match_verdict (nat_eq n 4) (Charge Control n) fs).found.bound ≡ Both (Charge Control 4) (of_branches (branch_by Good) (branch_by Plain) fs)
match_optional n [] count fine = absurd (odd_match _ _ [] (λ h. omega (arith, h)) fine)
match_optional n (i ∷ []) count fine = absurd (odd_match _ _ (i ∷ []) (λ h. omega (arith, h)) fine)
match_optional n (i ∷ a ∷ []) count fine = absurd (odd_match _ _ (i ∷ a ∷ []) (λ h. omega (arith, h)) fine)
match_optional n (i ∷ a ∷ b ∷ []) count fine =
    subst (λ (m : ℕ). type_rules (match_verdict (nat_eq m 4) (Charge Control m) (i ∷ a ∷ b ∷ [])).faults ≡ [] → (match_verdict (nat_eq m 4) (Charge Control m) (i ∷ a ∷ b ∷ [])).found.bound ≡ Both (Charge Control 4) (of_branches (branch_by Good) (branch_by Plain) (i ∷ a ∷ b ∷ [])))
    (sym count) (λ fine. optional_bound (Charge Control 4) i a b i.type fine) fine
match_optional n (i ∷ a ∷ b ∷ d ∷ fs) count fine = absurd (odd_match _ _ (i ∷ a ∷ b ∷ d ∷ fs) (λ h. omega (arith, h)) fine)

match_response : (n : ℕ) (fs : List Found) → n ≡ length fs + 2 → type_rules (match_verdict (nat_eq n 4) (Charge Control n) fs).faults ≡ [] → (match_verdict (nat_eq n 4) (Charge Control n) fs).found.bound ≡ Both (Charge Control 5) (of_branches (branch_by Good) (branch_by Bad) fs)
match_response n [] count fine = absurd (odd_match _ _ [] (λ h. omega (arith, h)) fine)
match_response n (i ∷ []) count fine = absurd (odd_match _ _ (i ∷ []) (λ h. omega (arith, h)) fine)
match_response n (i ∷ a ∷ []) count fine = absurd (odd_match _ _ (i ∷ a ∷ []) (λ h. omega (arith, h)) fine)
match_response n (i ∷ a ∷ b ∷ []) count fine =
    subst (λ (m : ℕ). type_rules (match_verdict (nat_eq m 4) (Charge Control m) (i ∷ a ∷ b ∷ [])).faults ≡ [] → (match_verdict (nat_eq m 4) (Charge Control m) (i ∷ a ∷ b ∷ [])).found.bound ≡ Both (Charge Control 5) (of_branches (branch_by Good) (branch_by Bad) (i ∷ a ∷ b ∷ [])))
    (sym count) (λ fine. response_bound (Charge Control 5) i a b i.type fine) fine
match_response n (i ∷ a ∷ b ∷ d ∷ fs) count fine = absurd (odd_match _ _ (i ∷ a ∷ b ∷ d ∷ fs) (λ h. omega (arith, h)) fine)

module _ (G : Context) (B : Names) (es : List Tree) where
  let_charges : (head at : Span) (bs : Vec Binding) → Charges (head_shape heads.Let (row_of heads.Let) G B (ListAt (forest (bound_items bs.items es)) at ∷ drop (length bs.items) es)) (length es) (own G (ops.Let head at bs)) (inside (ops.Let head at bs))
  unfolding head_shape
  let_charges head at bs fs sound count fine =
      let body : 0 < length (drop (length bs.items) es) = let_more (length (drop (length bs.items) es)) ArgumentCount _ sound in
      let drops = length-drop (length bs.items) es in
      let few : length bs.items ≤ length es = omega (arith, body, drops) in
      let_bound G head at bs (length (trees_of (forest (bound_items bs.items es)))) (length (drop (length bs.items) es)) fs
      (ap length (trees_forest (bound_items bs.items es)) ∙ bound_length bs.items es few)
      (drops ∙ ap (λ (m : ℕ). m - length bs.items) (sym count))

  -- ---- literals and names

  keyword_charges : (k : Keyword) (at : Span) → Charges (shape G B (expression (ops.Keyword k) es at)) (length es) (own G (ops.Keyword k)) sum_of
  unfolding shape
  keyword_charges keys.True at fs sound count fine = refl
  keyword_charges keys.False at fs sound count fine = refl
  keyword_charges keys.None at fs sound count fine = refl
  keyword_charges keys.TxSender at fs sound count fine = refl
  keyword_charges keys.ContractCaller at fs sound count fine = refl
  keyword_charges keys.BlockHeight at fs sound count fine = refl

  name_charges : (x : List ℕ) → keyword_of x ≡ None → Charges (name_shape G B x) (length es) (λ t ts. Charge Lookup (size_of t)) sum_of
  name_charges x own_name = subst (λ (o : Option Keyword). Charges (keyword_or o (value_or (named_in x B) (value_or (named_in x G.constants) (no_value_shape (is_no_value G x))))) (length es) (λ t ts. Charge Lookup (size_of t)) sum_of) (sym own_name) (found_charges (length es) (named_in x B) (named_in x G.constants) (is_no_value G x))

  -- ---- functions

  call_charges : (o : Option Signature) → Charges (call_shape o B es) (length es) (λ t ts. applied o) sum_of
  call_charges None fs sound count fine = absurd cc
  call_charges (Some f) fs sound count fine = refl

module _ (G : Context) (B : Names) where
  optional_charges : (es : List Tree) (head : Span) (part : Word) → Charges (head_shape heads.Match (row_of heads.Match) G B (optional_branches part es)) (length es) (own G (ops.MatchOptional head part)) (inside (ops.MatchOptional head part))
  unfolding head_shape
  optional_charges [] head part fs sound count fine = absurd (some_rule ArgumentCount _ sound)
  optional_charges (e ∷ more) head part fs sound count fine = match_optional (length (e ∷ word part ∷ more)) fs (omega (arith, count)) fine

  response_charges : (es : List Tree) (head : Span) (good bad : Word) → Charges (head_shape heads.Match (row_of heads.Match) G B (response_branches good bad es)) (length es) (own G (ops.MatchResponse head good bad)) (inside (ops.MatchResponse head good bad))
  unfolding head_shape
  response_charges [] head good bad fs sound count fine = absurd (some_rule ArgumentCount _ sound)
  response_charges (e ∷ []) head good bad fs sound count fine = absurd (some_rule ArgumentCount _ sound)
  response_charges (e ∷ d ∷ last) head good bad fs sound count fine = match_response (length (e ∷ word good ∷ d ∷ word bad ∷ last)) fs (omega (arith, count)) fine

  pairs_charges : (es : List Tree) (head : Span) (pairs : Vec Binding) → Charges (head_shape heads.TupleOf (row_of heads.TupleOf) G B (bound_items pairs.items es)) (length es) (own G (ops.TupleOf head pairs)) sum_of
  unfolding head_shape
  pairs_charges es head pairs fs sound count fine = refl

  length_charges : (es : List Tree) (head at : Span) (most : ℕ) → Charges (head_shape heads.AsMaxLen (row_of heads.AsMaxLen) G B (behind_first (λ e more. e ∷ LeafAt (Unsigned most) at ∷ more) es)) (length es) (own G (ops.AsMaxLen head most at)) sum_of
  unfolding head_shape
  length_charges [] head at most fs sound count fine = absurd (some_rule ArgumentCount _ sound)
  length_charges (e ∷ more) head at most fs sound count fine = refl

-- ---- calls

module _ (G : Context) (B : Names) (es : List Tree) where
  own_call : (w : Word) (at : Span) → not (is_some (native G.version w.name)) ≡ true → Charges (shape G B (headed w.name w.span es at)) (length es) (own G (ops.Call w)) sum_of
  unfolding shape
  own_call w at h =
      subst (λ (s : Shape). Charges s (length es) (own G (ops.Call w)) sum_of)
      (ap (λ (ts : List Tree). call_shape (signature_in w.name G.functions) B ts) (sym (trees_forest es))
      ∙ ap (λ (o : Option Row). operator_shape o (signature_in w.name G.functions) G B (trees_of (forest es))) (sym (no_native (native G.version w.name) h)))
      (call_charges G B es (signature_in w.name G.functions))

  -- a call of a function of another contract
  abbrev abroad : First Known → First Signature → Bool → Shape
  abroad target function short = record {
    faults = record sound_shape {
      argument_count = short || is_unlike_function function es;
      no_such_contract = is_no_such target;
      no_such_function = is_no_such function;
      literal_expected = is_no_name target;
      bad_binding = is_no_name function;
    };
    plan = parts B es;
    verdict = at_first function (λ f. call_verdict f (Both (Charge ContractCallCost (length_at target)) f.bound));
  }

  function_charges : (k : Known) (short : Bool) (o : Option Signature) → Charges (abroad (There k) (there_or_not o) short) (length es) (λ t ts. Both (Charge ContractCallCost k.length) (applied o)) sum_of
  function_charges k short None fs sound count fine = absurd (when_more _ _ _ _ sound)
  function_charges k short (Some f) fs sound count fine = refl

  -- the target by its look-up
  target_charges : (w : Word) (t : Tree) (short : Bool) (o : Option Known) → Charges (abroad (there_or_not o) (function_of (there_or_not o) (t ∷ word w ∷ es)) short) (length es) (λ _ ts. called_at (there_or_not o) w.name) sum_of
  target_charges w t short None fs sound count fine = absurd (when_more _ _ _ _ sound)
  target_charges w t short (Some k) fs sound count fine = function_charges k short (if_callable (signature_in w.name k.functions)) fs sound count fine

  literal_charges : (w : Word) (t : Tree) (short : Bool) (o : Option Principal) → Charges (abroad (target_or_not G o) (function_of (target_or_not G o) (t ∷ word w ∷ es)) short) (length es) (λ _ ts. called_at (target_or_not G o) w.name) sum_of
  literal_charges w t short None fs sound count fine = absurd (when_more _ _ _ _ sound)
  literal_charges w t short (Some p) fs sound count fine = target_charges w t short (target_at G p) fs sound count fine

  contract_charges : (head : Span) (c : Target) (w : Word) (callee : Callee) → Charges (head_shape heads.ContractCall (row_of heads.ContractCall) G B (target c ∷ word w ∷ es)) (length es) (own G (ops.ContractCall head c w callee)) sum_of
  unfolding head_shape
  contract_charges head (StandingAt p at) w callee = literal_charges w (LeafAt (Standing p) at) (is_miscounted (row_of heads.ContractCall) (LeafAt (Standing p) at ∷ word w ∷ es)) (contract_literal G.principal (Standing p))
  contract_charges head (LocalAt c at) w callee = literal_charges w (LeafAt (Local c) at) (is_miscounted (row_of heads.ContractCall) (LeafAt (Local c) at ∷ word w ∷ es)) (contract_literal G.principal (Local c))

-- ---- all kinds

pub op_charges : (G : Context) (B : Names) (op : Op) (es : List Tree) (at : Span) → has_own_name op ≡ true → goes_op G.version op ≡ true → Charges (shape G B (expression op es at)) (length es) (own G op) (inside op)
unfolding shape has_own_name goes_op
op_charges G B (ops.Int z) es at named goes = λ fs sound count fine. refl
op_charges G B (ops.Uint n) es at named goes = λ fs sound count fine. refl
op_charges G B (ops.Buff bytes) es at named goes = λ fs sound count fine. refl
op_charges G B (ops.Ascii text) es at named goes = λ fs sound count fine. refl
op_charges G B (ops.Utf8 text) es at named goes = λ fs sound count fine. refl
op_charges G B (ops.Standing p) es at named goes = λ fs sound count fine. refl
op_charges G B (ops.Local c) es at named goes = λ fs sound count fine. refl
op_charges G B (ops.Keyword k) es at named goes = keyword_charges G B es k at
op_charges G B (ops.Bound x) es at named goes = name_charges G B es x (keyless x (not_true (is_one_of keywords x) named))
op_charges G B (ops.Constant x) es at named goes = name_charges G B es x (keyless x (not_true (is_one_of keywords x) named))
op_charges G B (ops.OnValues n head) es at named goes = by_head (heads.OnValues n) head at (es) G B (length es) (own G (ops.OnValues n head)) (inside (ops.OnValues n head)) goes (values_charges G B es n head)
op_charges G B (ops.OnParts n head) es at named goes = by_head (parts_head n) head at (es) G B (length es) (own G (ops.OnParts n head)) (inside (ops.OnParts n head)) (parts_had G.version n) (parts_charges G B es n head)
op_charges G B (ops.OnName n head w) es at named goes = by_head (name_head n) head at (word w ∷ es) G B (length es) (own G (ops.OnName n head w)) (inside (ops.OnName n head w)) (name_had G.version n) (named_charges G B w head es n)
op_charges G B (ops.Iterate k head a) es at named goes = by_head (iteration_head k) head at (applied_name a ∷ es) G B (length es) (own G (ops.Iterate k head a)) (inside (ops.Iterate k head a)) (iteration_had G.version k) (applied_charges G B es k a named goes)
op_charges G B (ops.AsMaxLen head most lit) es at named goes = by_head heads.AsMaxLen head at (behind_first (λ e more. e ∷ LeafAt (Unsigned most) lit ∷ more) es) G B (length es) (own G (ops.AsMaxLen head most lit)) (inside (ops.AsMaxLen head most lit)) refl (length_charges G B es head lit most)
op_charges G B (ops.Tuple names) es at named goes = λ fs sound count fine. refl
op_charges G B (ops.TupleOf head pairs) es at named goes = by_head heads.TupleOf head at (bound_items pairs.items es) G B (length es) (own G (ops.TupleOf head pairs)) (inside (ops.TupleOf head pairs)) refl (pairs_charges G B es head pairs)
op_charges G B (ops.Let head brackets bs) es at named goes = by_head heads.Let head at (ListAt (forest (bound_items bs.items es)) brackets ∷ drop (length bs.items) es) G B (length es) (own G (ops.Let head brackets bs)) (inside (ops.Let head brackets bs)) refl (let_charges G B es head brackets bs)
op_charges G B (ops.MatchOptional head part) es at named goes = by_head heads.Match head at (optional_branches part es) G B (length es) (own G (ops.MatchOptional head part)) (inside (ops.MatchOptional head part)) refl (optional_charges G B es head part)
op_charges G B (ops.MatchResponse head good bad) es at named goes = by_head heads.Match head at (response_branches good bad es) G B (length es) (own G (ops.MatchResponse head good bad)) (inside (ops.MatchResponse head good bad)) refl (response_charges G B es head good bad)
op_charges G B (ops.Call w) es at named goes = own_call G B es w at goes
op_charges G B (ops.ContractCall head c w callee) es at named goes = by_head heads.ContractCall head at (target c ∷ word w ∷ es) G B (length es) (own G (ops.ContractCall head c w callee)) (inside (ops.ContractCall head c w callee)) refl (contract_charges G B es head c w callee)
