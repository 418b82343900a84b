-- Calls of functions of the contract.
use Rattle.std.proofs.Common.{◌≡◌, ℕ, ◌+◌, Bool, true, false, List, [], ◌∷◌, map, length, Option, Some, None, Result, Ok, Err, refl, ap, sym, subst, ◌∙◌, arith}
use Rattle.std.specs.Prelude.{option_map, nat_eq, not, is_some}
use Rattle.std.specs.Global.{Vec}
use Rattle.cl_types.specs.Types.{PlainType}
use Rattle.cl_types.specs.declared.fault.Fault.{Fault}
use Rattle.cl_types.specs.declared.fault.Fault.TheVariants.{Refused}
use Rattle.cl_sexpr.specs.declared.sexpr.Span.{Span}
use Rattle.cl_sexpr.specs.declared.rule.Rule.{Rule}
use Rattle.cl_sexpr.specs.declared.rule.Rule.TheVariants.{ArgumentCount, UnknownName}
use Rattle.cl_sexpr.specs.declared.rule.Break.{Break}
use Rattle.cl_sexpr.specs.Tree.{Tree, ListAt, forest, forest_depth}
use Rattle.cl_forms.specs.Heads.{Row, native}
use Rattle.cl_forms.specs.declared.version.Version.{Version}
use Rattle.cl_rules.specs.Faults.{shape_rules, when}
use Rattle.cl_rules.specs.NativeTypes.{of_kind}
use Rattle.cl_rules.specs.Bills.{Both}
use Rattle.cl_rules.specs.Context.{Context, Names, Signature, named_in, signature_in}
use Rattle.cl_rules.specs.Verdicts.{Found, types_of, sum_of}
use Rattle.cl_rules.specs.Shapes.{parts}
use Rattle.cl_rules.specs.CallShapes.{all_admit, call_shape}
use Rattle.cl_rules.specs.Table.{operator_shape}
use Rattle.cl_code.specs.declared.definition.Function.{Function}
use Rattle.cl_code.specs.declared.op.Word.{Word}
use Rattle.cl_code.specs.Nodes.{has_own_name, goes_op}
use Rattle.cl_code.specs.declared.op.Op.TheVariants.{Call}
use Rattle.cl_code.specs.Expression.{word, headed}
use Rattle.cl_judging.specs.declared.context.Signature.{Signature as CodeSignature}
use Rattle.cl_judging.specs.declared.context.Context.{Context as CodeContext}
use Rattle.cl_typing.specs.declared.concluding.Checked.{Checked}
use Rattle.cl_typing.specs.declared.concluding.Concluded.{Concluded}
use Rattle.cl_judging.specs.Seen.{Shown, seen, shown, Shows}
use Rattle.cl_typing.specs.Verdicts.{facts, facts_of, first_rule, types_at, Rules, Concludes, ConcludesAs}
use Rattle.cl_judging.specs.Walking.{Checks, ChecksAll, FinishesIn}
use Rattle.cl_judging.specs.Calls.{ConcludesCall, JudgesCall, JudgesCallee, ChecksCall}
use Rattle.cl_judging.proofs.Contexts.{function_is}
use Rattle.cl_typing.proofs.VerdictLaws.{types_seen}
use Rattle.cl_judging.proofs.NativeNames.{no_native}
use Rattle.cl_judging.proofs.Atoms.{checks_by}
use Rattle.cl_judging.proofs.Lists.{shape_fails, parts_fail, parts_finish, list_is}

pub call_concluded : (f : CodeSignature) (cs : List Checked) (ruled : Result PlainType (Fault Rule)) (result : Result Concluded (Fault Rule)) → Rules (of_kind (all_admit (map (λ (p : List ℕ × PlainType). p.1) f.params.items) (types_at cs)) f.returns) ruled → ConcludesAs ruled None f.height cs result → JudgesCall f cs result
call_concluded f cs ruled result h k bound fs same =
    k (of_kind (all_admit (map (λ (p : List ℕ × PlainType). p.1) f.params.items) (types_of fs)) f.returns) bound fs
    (subst (λ (ts : List PlainType). Rules (of_kind (all_admit (map (λ (p : List ℕ × PlainType). p.1) f.params.items) ts) f.returns) ruled) (sym (types_seen fs cs same)) h) same

pub callee_concluded : (f : Function) (cs : List Checked) (ruled : Result PlainType (Fault Rule)) (result : Result Concluded (Fault Rule)) → Rules (of_kind (all_admit (map (λ (p : List ℕ × PlainType). p.1) f.params.items) (types_at cs)) f.returns) ruled → ConcludesAs ruled None f.height cs result → JudgesCallee f cs result
callee_concluded f cs ruled result h k bound fs same =
    k (of_kind (all_admit (map (λ (p : List ℕ × PlainType). p.1) f.params.items) (types_of fs)) f.returns) bound fs
    (subst (λ (ts : List PlainType). Rules (of_kind (all_admit (map (λ (p : List ℕ × PlainType). p.1) f.params.items) ts) f.returns) ruled) (sym (types_seen fs cs same)) h) same

module _ (f : CodeSignature) (B : Names) (args : List Tree) where
  abbrev Is : Option Signature → Type 0
  Is o = option_map seen o ≡ Some (shown f)

  call_rules : (o : Option Signature) → Is o → shape_rules (call_shape o B args).faults ≡ when (not (nat_eq (length args) (length f.params.items))) ArgumentCount []
  call_rules None h = absurd cc
  call_rules (Some g) h =
      let same : seen g ≡ shown f = cc in
      ap (λ (s : Shown). when (not (nat_eq (length args) (length s.params))) ArgumentCount []) same

  call_plan : (o : Option Signature) → Is o → (call_shape o B args).plan ≡ parts B args
  call_plan None h = absurd cc
  call_plan (Some g) h = refl

  call_verdict : (cs : List Checked) (concluded : Result Concluded (Fault Rule)) → JudgesCall f cs concluded → (o : Option Signature) → Is o → (fs : List Found) → map facts fs ≡ map facts_of cs → Concludes ((call_shape o B args).verdict fs) concluded
  call_verdict cs concluded judges None h fs same_facts = absurd cc
  call_verdict cs concluded judges (Some g) h fs same_facts =
      let same : seen g ≡ shown f = cc in
      subst (λ (s : Shown). ConcludesCall s (Both g.bound (sum_of fs)) fs concluded) (sym same) (judges (Both g.bound (sum_of fs)) fs same_facts)

  module _ (c : CodeContext) (x : List ℕ) (at : Span) (there : Some f ≡ named_in x c.functions.entries) where
    is_at : (G : Context) → Shows c G → Is (signature_in x G.functions)
    is_at G shows = function_is x G.functions c.functions.entries shows.functions ∙ ap (option_map shown) (sym there)

    pub call_short : (b : Bool) (g : Fault Break) → b ≡ nat_eq (length args) (length f.params.items) → b ≡ false → g ≡ Refused (record { rule = ArgumentCount; span = at }) → ChecksCall c x B args at (Err g)
    call_short b g is short fails = shape_fails c (λ G. call_shape (signature_in x G.functions) B args) at (forest_depth (forest args) + 1) ArgumentCount g (λ G shows. ap first_rule (call_rules (signature_in x G.functions) (is_at G shows)) ∙ ap (λ (d : Bool). first_rule (when (not d) ArgumentCount [])) (sym is ∙ short)) fails

    module _ (b : Bool) (is : b ≡ nat_eq (length args) (length f.params.items)) (enough : b ≡ true) where
      sound : (G : Context) → Shows c G → shape_rules (call_shape (signature_in x G.functions) B args).faults ≡ []
      sound G shows = call_rules (signature_in x G.functions) (is_at G shows) ∙ ap (λ (d : Bool). when (not d) ArgumentCount []) (sym is ∙ enough)

      pub call_fails : (g : Fault Break) → ChecksAll c (parts B args) (forest_depth (forest args) + 1) (Err g) → ChecksCall c x B args at (Err g)
      call_fails g h = parts_fail c (λ G. call_shape (signature_in x G.functions) B args) at (forest_depth (forest args) + 1) (parts B args) sound (λ G shows. call_plan (signature_in x G.functions) (is_at G shows)) g h

      pub call_found : (v : Vec Checked) (concluded : Result Concluded (Fault Rule)) (result : Result Checked (Fault Break)) → ChecksAll c (parts B args) (forest_depth (forest args) + 1) (Ok v) → JudgesCall f v.items concluded → FinishesIn c v.items concluded at result → ChecksCall c x B args at result
      call_found v concluded result h judges fin = parts_finish c (λ G. call_shape (signature_in x G.functions) B args) at (forest_depth (forest args) + 1) (parts B args) sound (λ G shows. call_plan (signature_in x G.functions) (is_at G shows)) v concluded result h fin
          (λ G fs shows same. call_verdict v.items concluded judges (signature_in x G.functions) (is_at G shows) fs same)

-- a list that begins with the name of no native
pub call_list : (c : CodeContext) (B : Names) (items : List Tree) (w : Word) (args : List Tree) (at : Span) (result : Result Checked (Fault Break)) → items ≡ word w ∷ args → None ≡ native c.version w.name → ChecksCall c w.name B args at result → Checks c B (ListAt (forest items) at) result
call_list c B items w args at result list none h =
    subst (λ (ts : List Tree). Checks c B (ListAt (forest ts) at) result) (sym list)
    (checks_by c B (ListAt (forest (word w ∷ args)) at) (λ G. call_shape (signature_in w.name G.functions) B args) (forest_depth (forest args) + 1) result (omega arith)
    (λ G shows. list_is G B w args at ∙ ap (λ (o : Option Row). operator_shape o (signature_in w.name G.functions) G B args) (no_native c w.name none G shows)) h)

pub no_function : (o : Option Signature) → option_map seen o ≡ None → o ≡ None
no_function None h = refl
no_function (Some g) h = absurd cc

-- a list that begins with a name of nothing that can be applied
pub unknown_list : (c : CodeContext) (B : Names) (items : List Tree) (w : Word) (args : List Tree) (at : Span) (g : Fault Break) → items ≡ word w ∷ args → None ≡ native c.version w.name → None ≡ named_in w.name c.functions.entries → g ≡ Refused (record { rule = UnknownName; span = at }) → Checks c B (ListAt (forest items) at) (Err g)
unknown_list c B items w args at g list none absent fails =
    call_list c B items w args at (Err g) list none (shape_fails c (λ G. call_shape (signature_in w.name G.functions) B args) at (forest_depth (forest args) + 1) UnknownName g
    (λ G shows. ap (λ (o : Option Signature). first_rule (shape_rules (call_shape o B args).faults)) (no_function (signature_in w.name G.functions) (function_is w.name G.functions c.functions.entries shows.functions ∙ ap (option_map shown) (sym absent)))) fails)

pub word_text : (items : List Tree) (w : Word) (args : List Tree) (at : Span) → items ≡ word w ∷ args → headed w.name w.span args at ≡ ListAt (forest items) at
word_text items w args at list = ap (λ (ts : List Tree). ListAt (forest ts) at) (sym list)

pub call_named : (f : Word) → has_own_name (Call f) ≡ true
unfolding has_own_name
call_named f = refl

-- a function is no native
pub call_goes : (version : Version) (f : Word) → native version f.name ≡ None → goes_op version (Call f) ≡ true
unfolding goes_op
call_goes version f none = ap (λ (o : Option Row). not (is_some o)) none
