-- Shapes of calls of functions of other contracts.
use Rattle.std.proofs.Common.{◌≡◌, ℕ, ◌+◌, ◌≤◌, Bool, true, false, List, [], ◌∷◌, length, drop, Option, Some, None, Result, Ok, Err, refl, ap, sym, subst, ◌∙◌, arith, rules}
use Rattle.std.specs.Prelude.{◌||◌, not, nat_eq, if◌then◌else◌, option_map, option_and_then}
use Rattle.std.specs.Global.{Vec}
use Rattle.cl_types.specs.declared.sized.Access.{Access}
use Rattle.cl_types.specs.declared.sized.Access.TheVariants.{Public, ReadOnly, Private}
use Rattle.cl_types.specs.declared.fault.Fault.{Fault}
use Rattle.cl_types.specs.declared.fault.Fault.TheVariants.{Refused}
use Rattle.cl_c32.specs.declared.principal.Principal.{Principal}
use Rattle.cl_c32.specs.contracts.principal.PrincipalPartialEq.TheImpl.{eq-value}
use Rattle.cl_sexpr.specs.declared.sexpr.Span.{Span}
use Rattle.cl_sexpr.specs.declared.rule.Rule.{Rule}
use Rattle.cl_sexpr.specs.declared.rule.Rule.TheVariants.{ArgumentCount, NoSuchContract, NoSuchFunction, LiteralExpected, BadBinding}
use Rattle.cl_sexpr.specs.declared.rule.Break.{Break}
use Rattle.cl_sexpr.specs.Tree.{Tree, LeafAt, ListAt, TupleAt, forest, forest_depth}
use Rattle.cl_forms.specs.Heads.{Row, row_of, takes}
use Rattle.cl_forms.specs.declared.head.Head.TheVariants.{ContractCall}
use Rattle.cl_forms.specs.Items.{atom_of}
use Rattle.cl_rules.specs.Faults.{shape_rules, sound_shape, when}
use Rattle.cl_rules.specs.Bills.{Charge, Both}
use Rattle.cl_rules.specs.Context.{Context, Names, Signature, Known, same_principal, known_at, signature_in, if_callable}
use Rattle.cl_rules.specs.Verdicts.{sum_of}
use Rattle.cl_forms.specs.Shapes.{open_to_others}
use Rattle.cl_rules.specs.Shapes.{Shape, parts, First, Absent, NoName, NoSuch, There, there_or_not, first_named, is_no_name, is_no_such, is_miscounted, at_first}
use Rattle.cl_rules.specs.CallShapes.{target_or_not, target_of, function_of, is_unlike_function, length_at, call_verdict, contract_call_shape}
use Rattle.cl_rules.specs.Table.{head_shape}
use Rattle.cl_code.specs.declared.definition.Function.{Function}
use Rattle.cl_code.specs.declared.op.Word.{Word}
use Rattle.cl_code.specs.Expression.{word}
use Rattle.cl_contracts.specs.declared.contract.Contract.{Contract}
use Rattle.cl_contracts.specs.Known.{Shown, seen, shown, IsKnownAs, AreKnownAs}
use Rattle.cl_contracts.specs.Seen.{AreIndexed, function_under, contract_under}
use Rattle.cl_contracts.proofs.KnownLaws.{known_is}
use Rattle.cl_typing.specs.declared.concluding.Checked.{Checked}
use Rattle.cl_typing.specs.declared.concluding.Concluded.{Concluded}
use Rattle.cl_typing.specs.Verdicts.{first_rule, Concludes}
use Rattle.cl_judging.specs.declared.context.Context.{Context as CodeContext}
use Rattle.cl_judging.specs.Seen.{Shows}
use Rattle.cl_judging.specs.Calls.{ConcludesCall, JudgesCallee}
use Rattle.cl_judging.specs.Targets.{literal_of, another_under, if_open, open_function}
use Rattle.cl_judging.specs.Walking.{ChecksAs, ChecksAll, ChecksHead, FinishesIn}
use Rattle.cl_judging.proofs.NamedShapes.{no_name_first}
use Rattle.cl_judging.proofs.Lists.{shape_fails, parts_fail, parts_finish}

pub equal_so : (p q : Principal) → eq-value.it p q ≡ same_principal p q
equal_so p q = search rules

-- ---- the target and its functions

target_is : (G : Context) (e : Tree) (es : List Tree) → target_of G (e ∷ es) ≡ target_or_not G (literal_of G.principal e)
target_is G (LeafAt leaf s) es = refl
target_is G (ListAt fs s) es = refl
target_is G (TupleAt ps s) es = refl

none_target : (b : Bool) (o : Option Contract) (p : Option Known) → AreKnownAs o p → None ≡ (if b then None else o) → (if b then None else p) ≡ None
none_target true o p h is = refl
none_target false None None h is = refl
none_target false None (Some k) h is = absurd h
none_target false (Some c) p h is = absurd cc

some_target : (b : Bool) (o : Option Contract) (p : Option Known) (c : Contract) → AreKnownAs o p → Some c ≡ (if b then None else o) → (k : Known) × ((if b then None else p) ≡ Some k) × IsKnownAs c k
some_target true o p c h is = absurd cc
some_target false None p c h is = absurd cc
some_target false (Some d) None c h is = absurd h
some_target false (Some d) (Some k) c h is = let same : c ≡ d = cc in (k, refl, subst (λ (x : Contract). IsKnownAs x k) (sym same) h)

open_by : (a b : Access) (g : Signature) (f : Function) → a ≡ b → seen g ≡ shown f → option_map seen (open_to_others a g) ≡ option_map shown (open_to_others b f)
open_by Public Public g f h same = ap (λ (s : Shown). Some s) same
open_by ReadOnly ReadOnly g f h same = ap (λ (s : Shown). Some s) same
open_by Private Private g f h same = refl
open_by Public ReadOnly g f h same = absurd cc
open_by Public Private g f h same = absurd cc
open_by ReadOnly Public g f h same = absurd cc
open_by ReadOnly Private g f h same = absurd cc
open_by Private Public g f h same = absurd cc
open_by Private ReadOnly g f h same = absurd cc

open_is : (o : Option Signature) (p : Option Function) → option_map seen o ≡ option_map shown p → option_map seen (if_callable o) ≡ option_map shown (option_and_then if_open p)
open_is None None h = refl
open_is None (Some f) h = absurd cc
open_is (Some g) None h = absurd cc
open_is (Some g) (Some f) h =
    let same : seen g ≡ shown f = cc in
    open_by g.access f.access g f (ap (λ (s : Shown). s.access) same) same

no_function : (o : Option Signature) (p : Option Function) → option_map seen o ≡ option_map shown p → None ≡ p → o ≡ None
no_function None p h is = refl
no_function (Some g) None h is = absurd cc
no_function (Some g) (Some f) h is = absurd cc

some_function : (o : Option Signature) (p : Option Function) (f : Function) → option_map seen o ≡ option_map shown p → Some f ≡ p → (g : Signature) × (o ≡ Some g) × (seen g ≡ shown f)
some_function None None f h is = absurd cc
some_function None (Some e) f h is = absurd cc
some_function (Some g) None f h is = absurd cc
some_function (Some g) (Some e) f h is =
    let one : f ≡ e = cc in
    let same : seen g ≡ shown e = cc in
    (g, refl, same ∙ ap shown (sym one))

-- ---- the shape at what the target and the function are

abbrev called_at : Row → Names → List Tree → First Known → First Signature → Shape
called_at row B es target function = record {
  faults = record sound_shape {
    argument_count = is_miscounted row es || is_unlike_function function (drop 2 es);
    no_such_contract = is_no_such target;
    no_such_function = is_no_such function;
    literal_expected = is_no_name target;
    bad_binding = is_no_name function;
  };
  plan = parts B (drop 2 es);
  verdict = at_first function (λ f. call_verdict f (Both (Charge row.cost (length_at target)) f.bound));
}

-- the first rule where there is no target
odd_first : (first : First (List ℕ)) (row : Row) (es : List Tree) (B : Names) → takes row.arity (length es) ≡ true → first_rule (shape_rules (called_at row B es NoName (elim first [ NoName ↦ NoName | _ ↦ Absent ])).faults) ≡ Some LiteralExpected
odd_first Absent row es B h i = first_rule (when (not (h i) || false) ArgumentCount (LiteralExpected ∷ []))
odd_first NoName row es B h i = first_rule (when (not (h i) || false) ArgumentCount (LiteralExpected ∷ BadBinding ∷ []))
odd_first NoSuch row es B h i = first_rule (when (not (h i) || false) ArgumentCount (LiteralExpected ∷ []))
odd_first (There x) row es B h i = first_rule (when (not (h i) || false) ArgumentCount (LiteralExpected ∷ []))

none_first : (first : First (List ℕ)) (row : Row) (es : List Tree) (B : Names) → takes row.arity (length es) ≡ true → first_rule (shape_rules (called_at row B es NoSuch (elim first [ NoName ↦ NoName | _ ↦ Absent ])).faults) ≡ Some NoSuchContract
none_first Absent row es B h i = first_rule (when (not (h i) || false) ArgumentCount (NoSuchContract ∷ []))
none_first NoName row es B h i = first_rule (when (not (h i) || false) ArgumentCount (NoSuchContract ∷ BadBinding ∷ []))
none_first NoSuch row es B h i = first_rule (when (not (h i) || false) ArgumentCount (NoSuchContract ∷ []))
none_first (There x) row es B h i = first_rule (when (not (h i) || false) ArgumentCount (NoSuchContract ∷ []))

module _ (c : CodeContext) (B : Names) (args : List Tree) (at : Span) (enough : takes (row_of ContractCall).arity (length args) ≡ true) (e d : Tree) (rest : List Tree) (list : args ≡ e ∷ d ∷ rest) where
  abbrev deep : ℕ
  deep = forest_depth (forest args) + 1

  abbrev row : Row
  row = row_of ContractCall

  abbrev call_shape : Context → Shape
  call_shape G = contract_call_shape row G B args

  whole : (result : Result Checked (Fault Break)) → ChecksAs c call_shape at deep result → ChecksHead c ContractCall B args at result
  unfolding head_shape
  whole result h = h

  target_here : (o : Option Principal) → literal_of c.principal e ≡ o → (G : Context) → Shows c G → target_of G args ≡ target_or_not G o
  target_here o is G shows = ap (target_of G) list ∙ target_is G e (d ∷ rest) ∙ ap (λ (p : Principal). target_or_not G (literal_of p e)) shows.principal ∙ ap (target_or_not G) is

  pub target_odd : (f : Fault Break) → literal_of c.principal e ≡ None → f ≡ Refused (record { rule = LiteralExpected; span = at }) → ChecksHead c ContractCall B args at (Err f)
  target_odd f odd fails = whole (Err f) (shape_fails c call_shape at deep LiteralExpected f (λ G shows.
      ap (λ (t : First Known). first_rule (shape_rules (called_at row B args t (function_of t args)).faults)) (target_here None odd G shows) ∙ odd_first (first_named (λ x. Some x) (drop 1 args)) row args B enough) fails)

  module _ (p : Principal) (literal : literal_of c.principal e ≡ Some p) (indexed : AreIndexed c.deployed.now) where
    known : (G : Context) → Shows c G → AreKnownAs (contract_under p c.deployed.now.contracts) (known_at p G.deployed)
    known G shows = known_is c.deployed.now G.deployed indexed shows.deployed p

    pub target_none : (f : Fault Break) → None ≡ another_under c.principal c.deployed.now.contracts p → f ≡ Refused (record { rule = NoSuchContract; span = at }) → ChecksHead c ContractCall B args at (Err f)
    target_none f none fails = whole (Err f) (shape_fails c call_shape at deep NoSuchContract f (λ G shows.
        ap (λ (t : First Known). first_rule (shape_rules (called_at row B args t (function_of t args)).faults)) (target_here (Some p) literal G shows ∙ ap there_or_not (ap (λ (own : Principal). if same_principal p own then None else known_at p G.deployed) shows.principal ∙ none_target (same_principal p c.principal) (contract_under p c.deployed.now.contracts) (known_at p G.deployed) (known G shows) none))
        ∙ none_first (first_named (λ x. Some x) (drop 1 args)) row args B enough) fails)

    module _ (contract : Contract) (there : Some contract ≡ another_under c.principal c.deployed.now.contracts p) where
      found_target : (G : Context) → Shows c G → (k : Known) × (target_of G args ≡ There k) × IsKnownAs contract k
      found_target G shows =
          let found = some_target (same_principal p c.principal) (contract_under p c.deployed.now.contracts) (known_at p G.deployed) contract (known G shows) there in
          (found.0, target_here (Some p) literal G shows ∙ ap there_or_not (ap (λ (own : Principal). if same_principal p own then None else known_at p G.deployed) shows.principal ∙ found.1), found.2)

      named_rest : (find : List ℕ → Option Signature) → first_named find (drop 1 args) ≡ first_named find (d ∷ rest)
      named_rest find = ap (λ (ts : List Tree). first_named find (drop 1 ts)) list

      pub function_odd : (f : Fault Break) → atom_of d ≡ None → f ≡ Refused (record { rule = BadBinding; span = at }) → ChecksHead c ContractCall B args at (Err f)
      function_odd f odd fails = whole (Err f) (shape_fails c call_shape at deep BadBinding f (λ G shows.
          let target = found_target G shows in
          ap (λ (t : First Known). first_rule (shape_rules (called_at row B args t (function_of t args)).faults)) target.1
          ∙ ap (λ (g : First Signature). first_rule (shape_rules (called_at row B args (There target.0) g).faults)) (named_rest (λ x. if_callable (signature_in x target.0.functions)) ∙ no_name_first (λ x. if_callable (signature_in x target.0.functions)) d rest odd)
          ∙ (λ i. first_rule (when (not (enough i) || false) ArgumentCount (BadBinding ∷ [])))) fails)

      module _ (w : Word) (named : d ≡ word w) where
        function_here : (G : Context) (shows : Shows c G) (o : Option Signature) → if_callable (signature_in w.name (found_target G shows).0.functions) ≡ o → function_of (There (found_target G shows).0) args ≡ there_or_not o
        function_here G shows o is =
            named_rest (λ x. if_callable (signature_in x (found_target G shows).0.functions))
            ∙ ap (λ (t : Tree). first_named (λ x. if_callable (signature_in x (found_target G shows).0.functions)) (t ∷ rest)) named
            ∙ ap there_or_not is

        opens : (G : Context) (shows : Shows c G) → option_map seen (if_callable (signature_in w.name (found_target G shows).0.functions)) ≡ option_map shown (open_function w.name contract)
        opens G shows = open_is (signature_in w.name (found_target G shows).0.functions) (function_under w.name contract.checked) ((found_target G shows).2.functions w.name)

        pub function_none : (f : Fault Break) → None ≡ open_function w.name contract → f ≡ Refused (record { rule = NoSuchFunction; span = at }) → ChecksHead c ContractCall B args at (Err f)
        function_none f none fails = whole (Err f) (shape_fails c call_shape at deep NoSuchFunction f (λ G shows.
            ap (λ (t : First Known). first_rule (shape_rules (called_at row B args t (function_of t args)).faults)) (found_target G shows).1
            ∙ ap (λ (g : First Signature). first_rule (shape_rules (called_at row B args (There (found_target G shows).0) g).faults)) (function_here G shows None (no_function (if_callable (signature_in w.name (found_target G shows).0.functions)) (open_function w.name contract) (opens G shows) none))
            ∙ (λ i. first_rule (when (not (enough i) || false) ArgumentCount (NoSuchFunction ∷ [])))) fails)

        module _ (f : Function) (callable : Some f ≡ open_function w.name contract) where
          found_function : (G : Context) (shows : Shows c G) → (g : Signature) × (call_shape G ≡ called_at row B args (There (found_target G shows).0) (There g)) × (seen g ≡ shown f)
          found_function G shows =
              let found = some_function (if_callable (signature_in w.name (found_target G shows).0.functions)) (open_function w.name contract) f (opens G shows) callable in
              (found.0, ap (λ (t : First Known). called_at row B args t (function_of t args)) (found_target G shows).1 ∙ ap (λ (g : First Signature). called_at row B args (There (found_target G shows).0) g) (function_here G shows (Some found.0) found.1), found.2)

          behind : drop 2 args ≡ rest
          behind = ap (drop 2) list

          counted : (G : Context) (shows : Shows c G) (b : Bool) → b ≡ nat_eq (length rest) (length f.params.items) → shape_rules (call_shape G).faults ≡ when (not b) ArgumentCount []
          counted G shows b is =
              let found = found_function G shows in
              ap (λ (s : Shape). shape_rules s.faults) found.1
              ∙ (λ i. when (not (enough i) || not (nat_eq (length (behind i)) (length found.0.params))) ArgumentCount [])
              ∙ ap (λ (s : Shown). when (not (nat_eq (length rest) (length s.params))) ArgumentCount []) found.2
              ∙ ap (λ (x : Bool). when (not x) ArgumentCount []) (sym is)

          pub callee_short : (b : Bool) (g : Fault Break) → b ≡ nat_eq (length rest) (length f.params.items) → b ≡ false → g ≡ Refused (record { rule = ArgumentCount; span = at }) → ChecksHead c ContractCall B args at (Err g)
          callee_short b g is short fails = whole (Err g) (shape_fails c call_shape at deep ArgumentCount g (λ G shows. ap first_rule (counted G shows b is) ∙ ap (λ (x : Bool). first_rule (when (not x) ArgumentCount [])) short) fails)

          module _ (b : Bool) (is : b ≡ nat_eq (length rest) (length f.params.items)) (many : b ≡ true) where
            sound : (G : Context) → Shows c G → shape_rules (call_shape G).faults ≡ []
            sound G shows = counted G shows b is ∙ ap (λ (x : Bool). when (not x) ArgumentCount []) many

            plan : (G : Context) → Shows c G → (call_shape G).plan ≡ parts B rest
            plan G shows = ap (λ (ts : List Tree). parts B ts) behind

            deeper : forest_depth (forest rest) ≤ forest_depth (forest args)
            deeper = let same : forest_depth (forest args) ≡ forest_depth (forest (e ∷ d ∷ rest)) = ap (λ (ts : List Tree). forest_depth (forest ts)) list in omega (arith, same)

            pub callee_fails : (g : Fault Break) → ChecksAll c (parts B rest) (forest_depth (forest rest) + 1) (Err g) → ChecksHead c ContractCall B args at (Err g)
            callee_fails g h = whole (Err g) (parts_fail c call_shape at deep (parts B rest) sound plan g (λ G n shows large. h G n shows (omega (arith, deeper, large))))

            pub callee_found : (v : Vec Checked) (concluded : Result Concluded (Fault Rule)) (result : Result Checked (Fault Break)) → ChecksAll c (parts B rest) (forest_depth (forest rest) + 1) (Ok v) → JudgesCallee f v.items concluded → FinishesIn c v.items concluded at result → ChecksHead c ContractCall B args at result
            callee_found v concluded result h judges fin = whole result (parts_finish c call_shape at deep (parts B rest) sound plan v concluded result (λ G n shows large. h G n shows (omega (arith, deeper, large))) fin (λ G fs shows same.
                let found = found_function G shows in
                let bound = Both (Both (Charge row.cost (length_at (There (found_target G shows).0))) found.0.bound) (sum_of fs) in
                subst (λ (s : Shape). Concludes (s.verdict fs) concluded) (sym found.1) (subst (λ (s : Shown). ConcludesCall s bound fs concluded) (sym found.2) (judges bound fs same))))
