-- Deployments are sound, form by form.
use Rattle.std.proofs.Common.{◌≡◌, inl, inr, ℕ, ◌<◌, ◌≤◌, ◌^◌, Bool, true, false, cond, List, [], ◌∷◌, ◌++◌, Option, Some, None, refl, sym, ap, subst, ◌∙◌, arith, append_assoc, append-nil}
use Rattle.std.specs.Prelude.{unwrap_or, ◌&&◌}
use Rattle.std.proofs.lemmas.Bool.{ltb-false}
use Rattle.cl_types.specs.Types.{PlainType, UintType, admits, size_of as type_size}
use Rattle.cl_shapes.specs.declared.cost.Cost5.{Cost5}
use Rattle.cl_shapes.specs.declared.name.CostName.{CostName}
use Rattle.cl_shapes.specs.declared.name.CostName.TheVariants.{Deploy, Define}
use Rattle.cl_shapes.specs.Costs.{plus, zero_cost, IsAtMost}
use Rattle.cl_sexpr.specs.declared.sexpr.Span.{Span}
use Rattle.cl_sexpr.specs.Tree.{Tree}
use Rattle.cl_values.specs.Tree.{Tree as Val, UintV}
use Rattle.cl_values.specs.Wire.{size_of}
use Rattle.cl_values.specs.Valid.{IsPrincipal}
use Rattle.cl_maps.specs.Maps.{Map, empty, get, put}
use Rattle.cl_maps.proofs.MapLaws.{get-put, self_equal}
use Rattle.cl_tokens.specs.Ledger.{most_of, no_tokens}
use Rattle.cl_tokens.proofs.Balances.{empty_kept}
use Rattle.cl_forms.specs.Forms.{Form, FormKind, ConstantForm, VariableForm, MapForm, FungibleForm, NonFungibleForm, FunctionForm, ExpressionForm}
use Rattle.cl_events.specs.State.{State, place, with_fungibles, with_nonfungibles}
use Rattle.cl_meaning.specs.Answers.{Outcome, Given, Thrown, Aborted, Wrong, Deeper, Answer, Note, stop, give, charged, then_on, and_then, with_known}
use Rattle.cl_meaning.specs.Deployed.{Contract, Deployed, contract_at, form_of}
use Rattle.cl_meaning.specs.Deploying.{with_cap, defined, all_defined, in_order, deployment}
use Rattle.cl_meaning.specs.Limits.{charges_of, cost_sum, cost}
use Rattle.cl_meaning.specs.Scope.{Frame}
use Rattle.cl_meaning.specs.Top.{most_depth, top}
use Rattle.cl_meaning.specs.Kept.{Defines, IsHeld, IsNonFungible, Stands, Stage, Whole, Behind, Kept, IsDefinition, IsAmong}
use Rattle.cl_rules.specs.Faults.{form_rules}
use Rattle.cl_rules.specs.Bills.{Charge, cost_under}
use Rattle.cl_rules.specs.Context.{CostTable, Known}
use Rattle.cl_rules.specs.Verdicts.{Found}
use Rattle.cl_rules.specs.Typing.{Follows, ends, part}
use Rattle.cl_rules.specs.FormRules.{most_height, is_too_high, Defined, nothing_defined, form_plan, form_faults, declared_faults, form_charges, defined_after}
use Rattle.cl_rules.specs.FormTyping.{form_typed, FormsTyped, no_more, one_more}
use Rattle.cl_forms.specs.Fits.{KindFits}
use Rattle.cl_expression_sound.specs.Fitted.{Fitted}
use Rattle.cl_expression_sound.specs.Sound.{World, IsFine, IsSound, IsThrown, IsFrame, AreBound, deployed_world, IsKept}
use Rattle.cl_expression_sound.specs.Stages.{IsDefining, AreForms, AreKnown, IsContext, AreDistinct}
use Rattle.cl_contract_sound.specs.Deployments.{AreItsForms, with_values, IsDone, IsFineEnd, IsSoundDeployment}
use Rattle.cl_expression_sound.proofs.Costs.{at_most, same_cost, more_of_both, and_more, none_at_most, less_charged, and_nothing, grouped, cost-after}
use Rattle.cl_expression_sound.proofs.Rules.{fine_form, not_false}
use Rattle.cl_expression_sound.proofs.Values.{number_of}
use Rattle.cl_expression_sound.proofs.Leaves.{bound_there}
use Rattle.cl_expression_sound.proofs.Stands.{bound_more}
use Rattle.cl_expression_sound.proofs.Depth.{each_depth}
use Rattle.cl_expression_sound.proofs.Fitting.{is_fitted}
use Rattle.cl_contract_sound.proofs.Contexts.{behind, stands_in}
use Rattle.cl_contract_sound.proofs.States.{variable_kept, still_there, after_put}
use Rattle.cl_contract_sound.proofs.Holdings.{ledger_kept}
use Rattle.cl_contract_sound.proofs.Functions.{is_world}
use Rattle.cl_contract_sound.proofs.MidDeployment.{found_front, distinct_front, known_behind, kept_front, grown, with_others}
use Rattle.cl_values.specs.Typed.{IsOf}
use Rattle.cl_values.proofs.OfTypes.{raised_of, no_larger}

-- ---- answers of a deployment

module _ (costs : CostTable) where
  end_more : (Done : Contract → State → Type 0) (b c : Cost5) (a : Answer Contract) → IsAtMost b c → IsSoundDeployment costs Done b a → IsSoundDeployment costs Done c a
  end_more Done b c a h k = record { outcome = k.outcome; within = at_most (cost costs a) b c k.within h }

  end_give : (Done : Contract → State → Type 0) (c : Contract) (s : State) → Done c s → IsSoundDeployment costs Done zero_cost (give c s)
  unfolding stop cost
  end_give Done c s h = record { outcome = h; within = none_at_most zero_cost }

  end_charged : (Done : Contract → State → Type 0) (name : CostName) (n : ℕ) (b : Cost5) (a : Answer Contract) → IsSoundDeployment costs Done b a → IsSoundDeployment costs Done (plus (cost_under costs (Charge name n)) b) (charged name n a)
  unfolding charged cost
  end_charged Done name n b a h = record { outcome = h.outcome; within = more_of_both (cost_under costs (Charge name n)) (cost_under costs (Charge name n)) (cost costs a) b (same_cost (cost_under costs (Charge name n))) h.within }

  after_case : (Q : Contract → State → Type 0) (Done : Contract → State → Type 0) (b d : Cost5) (o : Outcome Contract) (s : State) (log : List Note) (go_on : Contract → State → Answer Contract) → IsFineEnd Q o s → IsAtMost (cost_sum costs (charges_of log)) b → ((c : Contract) (t : State) → Q c t → IsSoundDeployment costs Done d (go_on c t)) → IsSoundDeployment costs Done (plus b d) (then_on o s log go_on)
  unfolding cost
  after_case Q Done b d (Given c) s log go_on f low next =
      let r = next c s f in
      record {
        outcome = r.outcome;
        within = subst (λ k. IsAtMost k (plus b d)) (sym (cost-after costs log (go_on c s))) (more_of_both (cost_sum costs (charges_of log)) b (cost costs (go_on c s)) d low r.within);
      }
  after_case Q Done b d (Thrown v) s log go_on f low next = record { outcome = tt; within = and_more (cost_sum costs (charges_of log)) b d low }
  after_case Q Done b d (Aborted why) s log go_on f low next = record { outcome = tt; within = and_more (cost_sum costs (charges_of log)) b d low }
  after_case Q Done b d Wrong s log go_on f low next = absurd f
  after_case Q Done b d Deeper s log go_on f low next = absurd f

  -- one form, and then the others
  end_then : (Q Done : Contract → State → Type 0) (b d : Cost5) (a : Answer Contract) (go_on : Contract → State → Answer Contract) → IsSoundDeployment costs Q b a → ((c : Contract) (t : State) → Q c t → IsSoundDeployment costs Done d (go_on c t)) → IsSoundDeployment costs Done (plus b d) (and_then a go_on)
  unfolding and_then cost
  end_then Q Done b d a go_on h next = after_case Q Done b d a.outcome a.state a.log go_on h.outcome h.within next

-- a fine outcome in a state that is kept
abbrev pub IsFineOf : (K : World) → (Val → Type 0) → (Val → Type 0) → Outcome Val → State → Type 0
IsFineOf K P T o s = IsFine P T o × IsKept K s

module _ (K : World) where
  value_case : (P T : Val → Type 0) (Done : Contract → State → Type 0) (b d : Cost5) (o : Outcome Val) (s : State) (log : List Note) (go_on : Val → State → Answer Contract) → IsFineOf K P T o s → IsAtMost (cost_sum K.costs (charges_of log)) b → ((v : Val) (t : State) → P v → IsKept K t → IsSoundDeployment K.costs Done d (go_on v t)) → IsSoundDeployment K.costs Done (plus b d) (then_on o s log go_on)
  unfolding cost
  value_case P T Done b d (Given v) s log go_on f low next =
      let r = next v s f.0 f.1 in
      record {
        outcome = r.outcome;
        within = subst (λ k. IsAtMost k (plus b d)) (sym (cost-after K.costs log (go_on v s))) (more_of_both (cost_sum K.costs (charges_of log)) b (cost K.costs (go_on v s)) d low r.within);
      }
  value_case P T Done b d (Thrown v) s log go_on f low next = record { outcome = tt; within = and_more (cost_sum K.costs (charges_of log)) b d low }
  value_case P T Done b d (Aborted why) s log go_on f low next = record { outcome = tt; within = and_more (cost_sum K.costs (charges_of log)) b d low }
  value_case P T Done b d Wrong s log go_on f low next = absurd f.0
  value_case P T Done b d Deeper s log go_on f low next = absurd f.0

  -- an expression, and then its definition
  end_from : (P T : Val → Type 0) (Done : Contract → State → Type 0) (b d : Cost5) (a : Answer Val) (go_on : Val → State → Answer Contract) → IsSound K P T b a → ((v : Val) (t : State) → P v → IsKept K t → IsSoundDeployment K.costs Done d (go_on v t)) → IsSoundDeployment K.costs Done (plus b d) (and_then a go_on)
  unfolding and_then cost
  end_from P T Done b d a go_on h next = value_case P T Done b d a.outcome a.state a.log go_on (h.outcome, h.state) h.within next

-- ---- stages

pub its_forms : (c : Contract) (done all : List Form) → AreItsForms c done → ((x : List ℕ) → IsAmong x done → IsAmong x all) → AreForms (Behind c.principal all) c done
its_forms c [] all h k = tt
its_forms c (form ∷ done) all h k = (h.0, λ i e. k (unwrap_or form.name []) (inl (i, refl)), h.1, its_forms c done all h.2 (λ x g. k x (inr g)))

pub moved_forms : (c d : Contract) (forms : List Form) → d.forms ≡ c.forms → AreItsForms c forms → AreItsForms d forms
moved_forms c d [] e h = tt
moved_forms c d (form ∷ forms) e h = (λ i. ap (form_of (unwrap_or form.name [])) e ∙ h.0 i, h.1, moved_forms c d forms e h.2)

both_false : (a b : Bool) → (a && b) ≡ false → a ≡ true → b ≡ false
both_false true b h e = h
both_false false b h e = absurd cc

no_entry : {A : Type 0} (key : List ℕ) (a : A) → get key (empty {A = A}) ≡ Some a → ⊥
no_entry key a e = cc

put_there : {A : Type 0} (m : Map A) (at : List ℕ) (a : A) → Stands (put at a m) at
put_there m at a = record { value = a; there = get-put m at a at ∙ ap (λ c. cond c (Some a) (get at m)) (self_equal at) }

module _ (costs : CostTable) (W : Deployed) (A : AreDistinct W) (ks : List Known) (known : AreKnown W Whole ks) (c : Contract) (valid : IsPrincipal c.principal) (new : contract_at c.principal W ≡ None) (F : Frame) (home : F.contract ≡ c.principal) (sender : IsPrincipal F.sender) (caller : IsPrincipal F.caller) (height : F.height < 2 ^ 128) where
  module _ (done : List Form) (D : Defined) (its : AreItsForms c done) (typed : FormsTyped (nothing_defined ks c.principal c.version c.source_length) done D) (es : List (List ℕ × Val)) (are : AreBound D.context.constants es) where
    abbrev stage : Stage
    stage = Behind c.principal done

    abbrev d : Contract
    d = with_values c es

    distinct : AreDistinct (d ∷ W)
    distinct = distinct_front W A d valid new

    stage_good : IsContext (d ∷ W) stage D.context
    stage_good = record {
      before = ks;
      known = known_behind W A d valid new done ks known;
      contract = d;
      defined = D;
      accepted = record { valid = valid; order = done; forms = its_forms d done done (moved_forms c d done refl its) (λ x g. g); typed = typed; constants = λ x t h. bound_there D.context.constants es x t are h };
      there = found_front W A d valid new;
      so_far = D;
      done = done;
      rest = [];
      order = sym (append-nil done);
      typed = typed;
      more = no_more refl;
      context = refl;
    }

    framed : IsFrame D.context F
    unfolding stage_good
    framed = record { home = home ∙ sym (stands_in (d ∷ W) stage D.context stage_good).home; contract = subst IsPrincipal (sym home) valid; sender = sender; caller = caller; height = height }

    top_sound : (e : Tree) (f : Found) → Fitted D.context [] e f → f.height ≤ most_depth → (s : State) → Kept (d ∷ W) stage s → IsSound (deployed_world costs (d ∷ W) stage) (λ v. IsOf v f.type) (IsThrown f.thrown) (cost_under costs f.bound) (top W F d e s)
    unfolding top
    top_sound e f fit low s n = (each_depth (deployed_world costs (d ∷ W) stage) (is_world costs (d ∷ W) stage distinct) most_depth).0.each D.context stage_good F framed [] [] tt e f fit low s n

    itself : (x : List ℕ) (k : FormKind) → form_of x c.forms ≡ Some k → Defines (d ∷ W) d x k
    itself x k h = record { there = (0, omega arith, refl); form = h }

    -- what one more form leaves
    abbrev After : Form → List Found → Contract → State → Type 0
    After form fs = IsDone W c (done ++ form ∷ []) (defined_after D form fs)

    low_of : (n : ℕ) → is_too_high n ≡ false → n ≤ most_depth
    low_of n h = ltb-false most_height n h

    charged_end : (Q : Contract → State → Type 0) (m n : ℕ) (b : Contract) (s : State) → m ≤ n → Q b s → IsSoundDeployment costs Q (cost_under costs (Charge Define n)) (charged Define m (give b s))
    charged_end Q m n b s low h =
        end_more costs Q (plus (cost_under costs (Charge Define m)) zero_cost) (cost_under costs (Charge Define n)) _ (at_most (plus (cost_under costs (Charge Define m)) zero_cost) (cost_under costs (Charge Define m)) (cost_under costs (Charge Define n)) (and_nothing (cost_under costs (Charge Define m))) (less_charged costs Define m n low))
        (end_charged costs Q Define m zero_cost _ (end_give costs Q b s h))

    owners_new : (x : List ℕ) (t : PlainType) → form_of x c.forms ≡ Some (NonFungibleForm t) → (s : State) → Kept (d ∷ W) stage s → Kept (d ∷ W) stage (with_nonfungibles (put (place c.principal x) empty s.nonfungibles) s)
    owners_new x t h s n = record {
      variables_there = n.variables_there;
      variables = n.variables;
      entries = n.entries;
      fungibles_there = n.fungibles_there;
      fungibles = n.fungibles;
      nonfungibles_there = λ b y u g now. still_there s.nonfungibles (place c.principal x) (place b.principal y) empty (n.nonfungibles_there b y u g now);
      nonfungibles = λ key k g. after_put (λ k. IsNonFungible (d ∷ W) key k) s.nonfungibles (place c.principal x) key empty k g (λ is. record { contract = d; name = x; type = t; defined = itself x (NonFungibleForm t) h; place = is; owned = record { assets = λ id owner e. absurd (no_entry id owner e); principals = λ id owner e. absurd (no_entry id owner e) } }) (n.nonfungibles key k);
      stx = n.stx;
      uncapped = n.uncapped;
    }

    no_holders : (cap : Option ℕ) → IsHeld (no_tokens cap)
    no_holders cap = record { ledger = empty_kept cap; holders = λ key n e. absurd (no_entry key n e) }

    ledger_new : (x : List ℕ) (e : Option Tree) → form_of x c.forms ≡ Some (FungibleForm e) → (cap : Option ℕ) → most_of cap < 2 ^ 128 → (s : State) → Kept (d ∷ W) stage s → Kept (d ∷ W) stage (with_fungibles (put (place c.principal x) (no_tokens cap) s.fungibles) s)
    ledger_new x e h cap low s n = ledger_kept (d ∷ W) stage distinct costs d x e (itself x (FungibleForm e) h) (no_tokens cap) (no_tokens cap) (no_holders cap) refl low s n

    step : (name : Option (List ℕ)) (kind : FormKind) (span : Span) (fs : List Found) → (IsDefinition kind → form_of (unwrap_or name []) c.forms ≡ Some kind) → KindFits kind → Follows D.context (form_plan kind) fs → form_rules (form_faults kind fs) ≡ [] → (s : State) → Kept (d ∷ W) stage s →
        IsSoundDeployment costs (After (record { name = name; kind = kind; span = span }) fs) (cost_under costs (form_charges kind fs)) (defined W F (unwrap_or name []) kind d s)
    unfolding defined
    step name (ConstantForm e) span _ own fit (part {f = f} t ends) rules s n =
        let form : Form = record { name = name; kind = ConstantForm e; span = span } in
        let x = unwrap_or name [] in
        end_from (deployed_world costs (d ∷ W) stage) (λ v. IsOf v f.type) (IsThrown f.thrown) _ (cost_under costs f.bound) (cost_under costs (Charge Define (type_size f.type))) _ _
        (top_sound e f (is_fitted D.context t fit) (low_of f.height (fine_form (form_faults (ConstantForm e) (f ∷ [])) rules).too_deep_calls) s n)
        (λ v u i m. charged_end _ (size_of v) (type_size f.type) _ u (no_larger v f.type i) (record {
          values = es ++ (x, v) ∷ [];
          is = refl;
          constants = bound_more D.context.constants es x f.type v are i;
          kept = with_others W (Behind c.principal (done ++ form ∷ [])) d (with_values c (es ++ (x, v) ∷ [])) refl refl u (grown W A d valid new done form own u m tt);
        }))
    step name (VariableForm u e) span _ own fit (part {f = f} t ends) rules s n =
        let form : Form = record { name = name; kind = VariableForm u e; span = span } in
        let x = unwrap_or name [] in
        let fine = fine_form (declared_faults u f) rules in
        let admitted = not_false (admits u f.type) fine.argument_kind in
        end_from (deployed_world costs (d ∷ W) stage) (λ v. IsOf v f.type) (IsThrown f.thrown) _ (cost_under costs f.bound) (cost_under costs (Charge Define (type_size f.type))) _ _
        (top_sound e f (is_fitted D.context t fit) (low_of f.height (both_false (admits u f.type) (is_too_high f.height) fine.too_deep_calls admitted)) s n)
        (λ v z i m. charged_end _ (size_of v) (type_size f.type) _ _ (no_larger v f.type i) (record {
          values = es;
          is = refl;
          constants = are;
          kept = grown W A d valid new done form own _ (variable_kept (d ∷ W) stage distinct d x u e (itself x (VariableForm u e) (own tt)) v (raised_of v u f.type admitted i) z m) (put_there z.variables (place c.principal x) v);
        }))
    step name (MapForm k v) span _ own fit ends rules s n =
        let form : Form = record { name = name; kind = MapForm k v; span = span } in
        charged_end _ 0 0 d s (omega arith) (record { values = es; is = refl; constants = are; kept = grown W A d valid new done form own s n tt })
    step name (FungibleForm None) span _ own fit ends rules s n =
        let form : Form = record { name = name; kind = FungibleForm None; span = span } in
        let x = unwrap_or name [] in
        charged_end _ 0 0 d _ (omega arith) (record { values = es; is = refl; constants = are; kept = grown W A d valid new done form own _ (ledger_new x None (own tt) None (omega arith) s n) (put_there s.fungibles (place c.principal x) (no_tokens None)) })
    step name (FungibleForm (Some e)) span _ own fit (part {f = f} t ends) rules s n =
        let form : Form = record { name = name; kind = FungibleForm (Some e); span = span } in
        let x = unwrap_or name [] in
        let fine = fine_form (declared_faults UintType f) rules in
        let admitted = not_false (admits UintType f.type) fine.argument_kind in
        end_from (deployed_world costs (d ∷ W) stage) (λ v. IsOf v f.type) (IsThrown f.thrown) _ (cost_under costs f.bound) (cost_under costs (Charge Define (type_size UintType))) _ _
        (top_sound e f (is_fitted D.context t fit) (low_of f.height (both_false (admits UintType f.type) (is_too_high f.height) fine.too_deep_calls admitted)) s n)
        (λ v z i m. capped name span e own v z m (number_of v UintType refl (raised_of v UintType f.type admitted i)) (raised_of v UintType f.type admitted i) f)
      where
        capped : (name : Option (List ℕ)) (span : Span) (e : Tree) → (IsDefinition (FungibleForm (Some e)) → form_of (unwrap_or name []) c.forms ≡ Some (FungibleForm (Some e))) → (v : Val) (z : State) → Kept (d ∷ W) stage z → (k : ℕ) × (v ≡ UintV k) → IsOf v UintType → (f : Found) →
            IsSoundDeployment costs (After (record { name = name; kind = FungibleForm (Some e); span = span }) (f ∷ [])) (cost_under costs (Charge Define (type_size UintType))) (with_cap d (unwrap_or name []) v z)
        capped name span e own v z m is i f =
            let form : Form = record { name = name; kind = FungibleForm (Some e); span = span } in
            let x = unwrap_or name [] in
            let low = (subst (λ v. IsOf v UintType) is.1 i).valid.ranges in
            subst (λ v. IsSoundDeployment costs (After form (f ∷ [])) (cost_under costs (Charge Define (type_size UintType))) (with_cap d x v z)) (sym is.1)
            (charged_end _ (size_of (UintV is.0)) (type_size UintType) d _ (omega arith) (record { values = es; is = refl; constants = are; kept = grown W A d valid new done form own _ (ledger_new x (Some e) (own tt) (Some is.0) low z m) (put_there z.fungibles (place c.principal x) (no_tokens (Some is.0))) }))
    step name (NonFungibleForm t) span _ own fit ends rules s n =
        let form : Form = record { name = name; kind = NonFungibleForm t; span = span } in
        let x = unwrap_or name [] in
        charged_end _ 0 0 d _ (omega arith) (record { values = es; is = refl; constants = are; kept = grown W A d valid new done form own _ (owners_new x t (own tt) s n) (put_there s.nonfungibles (place c.principal x) empty) })
    step name (FunctionForm access params body) span _ own fit (part {f = f} t ends) rules s n =
        let form : Form = record { name = name; kind = FunctionForm access params body; span = span } in
        charged_end _ 0 0 d s (omega arith) (record { values = es; is = refl; constants = are; kept = grown W A d valid new done form own s n tt })
    step name (ExpressionForm e) span _ own fit (part {f = f} t ends) rules s n =
        let form : Form = record { name = name; kind = ExpressionForm e; span = span } in
        end_more costs _ (plus (cost_under costs f.bound) zero_cost) (cost_under costs f.bound) _ (and_nothing (cost_under costs f.bound))
        (end_from (deployed_world costs (d ∷ W) stage) (λ v. IsOf v f.type) (IsThrown f.thrown) _ (cost_under costs f.bound) zero_cost _ _
        (top_sound e f (is_fitted D.context t fit) (low_of f.height (fine_form (form_faults (ExpressionForm e) (f ∷ [])) rules).too_deep_calls) s n)
        (λ v u i m. end_give costs _ d u (record { values = es; is = refl; constants = are; kept = grown W A d valid new done form own u m tt })))

  -- ---- forms one after another

  -- what is charged for the forms that are left
  rest_bound : {D E : Defined} {forms : List Form} → FormsTyped D forms E → Cost5
  rest_bound (no_more e) = zero_cost
  rest_bound (one_more {form = form} (form_typed fs follows rules is) later) = plus (cost_under costs (form_charges form.kind fs)) (rest_bound later)

  rest_low : {D E : Defined} {forms : List Form} (typed : FormsTyped D forms E) → IsAtMost (plus (cost_under costs D.deploy) (rest_bound typed)) (cost_under costs E.deploy)
  unfolding rest_bound
  rest_low {D = D} (no_more e) = subst (λ (E : Defined). IsAtMost (plus (cost_under costs D.deploy) zero_cost) (cost_under costs E.deploy)) e (and_nothing (cost_under costs D.deploy))
  rest_low {D = D} {E = E} (one_more {E = G} {form = form} (form_typed fs follows rules is) later) =
      at_most (plus (cost_under costs D.deploy) (plus (cost_under costs (form_charges form.kind fs)) (rest_bound later))) (plus (plus (cost_under costs D.deploy) (cost_under costs (form_charges form.kind fs))) (rest_bound later)) (cost_under costs E.deploy)
      (grouped (cost_under costs D.deploy) (cost_under costs (form_charges form.kind fs)) (rest_bound later))
      (subst (λ (G : Defined). IsAtMost (plus (cost_under costs G.deploy) (rest_bound later)) (cost_under costs E.deploy)) (sym is) (rest_low later))

  its_behind : (done : List Form) (form : Form) → AreItsForms c done → (IsDefinition form.kind → IsDefining c form) → KindFits form.kind → AreItsForms c (done ++ form ∷ [])
  its_behind [] form h own fit = (own, fit, tt)
  its_behind (f ∷ done) form h own fit = (h.0, h.1, its_behind done form h.2 own fit)

  all_sound : (order : List Form) (E : Defined) (forms done : List Form) (D : Defined) (typed : FormsTyped D forms E) → done ++ forms ≡ order → AreItsForms c done → AreItsForms c forms → FormsTyped (nothing_defined ks c.principal c.version c.source_length) done D → (es : List (List ℕ × Val)) → AreBound D.context.constants es → (s : State) → Kept (with_values c es ∷ W) (Behind c.principal done) s →
      IsSoundDeployment costs (IsDone W c order E) (rest_bound typed) (all_defined W F forms (with_values c es) s)
  unfolding all_defined rest_bound
  all_sound order E [] done D (no_more e) same its own before es are s n =
      end_give costs (IsDone W c order E) (with_values c es) s (record {
        values = es;
        is = refl;
        constants = subst (λ (E : Defined). AreBound E.context.constants es) e are;
        kept = subst (λ fs. Kept (with_values c es ∷ W) (Behind c.principal fs) s) (sym (append-nil done) ∙ same) n;
      })
  all_sound order E (form ∷ forms) done D (one_more {E = G} (form_typed fs follows rules is) later) same its own before es are s n =
      end_then costs (IsDone W c (done ++ form ∷ []) (defined_after D form fs)) (IsDone W c order E) (cost_under costs (form_charges form.kind fs)) (rest_bound later) _ _
      (step done D its before es are form.name form.kind form.span fs own.0 own.1 follows rules s n)
      (λ b t q. subst (λ b. IsSoundDeployment costs (IsDone W c order E) (rest_bound later) (all_defined W F forms b t)) (sym q.is)
      (all_sound order E forms (done ++ form ∷ []) G later (append_assoc done (form ∷ []) forms ∙ same) (its_behind done form its own.0 own.1) own.2 (behind done before (form_typed fs follows rules is)) q.values (subst (λ (G : Defined). AreBound G.context.constants q.values) is q.constants) t q.kept))

  pub deployment_sound : (order : List Form) → in_order c.forms ≡ Some order → AreItsForms c order → (E : Defined) → FormsTyped (nothing_defined ks c.principal c.version c.source_length) order E → (s : State) → Kept W Whole s →
      IsSoundDeployment costs (IsDone W c order E) (cost_under costs E.deploy) (deployment W F (with_values c []) s)
  unfolding deployment
  deployment_sound order is own E typed s n =
      end_more costs (IsDone W c order E) (plus (cost_under costs (Charge Deploy c.source_length)) (rest_bound typed)) (cost_under costs E.deploy) _ (rest_low typed)
      (end_charged costs (IsDone W c order E) Deploy c.source_length (rest_bound typed) _
      (subst (λ o. IsSoundDeployment costs (IsDone W c order E) (rest_bound typed) (with_known o (λ fs. all_defined W F fs (with_values c [])) s)) (sym is)
      (all_sound order E order [] (nothing_defined ks c.principal c.version c.source_length) typed refl tt own (no_more refl) [] tt s (kept_front W A (with_values c []) valid new s n))))

pub deployment_is_sound : (costs : CostTable) (W : Deployed) → AreDistinct W → (ks : List Known) → AreKnown W Whole ks →
    (c : Contract) → c.constants ≡ [] → IsPrincipal c.principal → contract_at c.principal W ≡ None →
    (order : List Form) → in_order c.forms ≡ Some order → AreItsForms c order → (E : Defined) → FormsTyped (nothing_defined ks c.principal c.version c.source_length) order E →
    (F : Frame) → F.contract ≡ c.principal → IsPrincipal F.sender → IsPrincipal F.caller → F.height < 2 ^ 128 → (s : State) → Kept W Whole s →
    IsSoundDeployment costs (IsDone W c order E) (cost_under costs E.deploy) (deployment W F c s)
deployment_is_sound costs W A ks known c none valid new order is own E typed F home sender caller height s n =
    subst (λ (b : Contract). IsSoundDeployment costs (IsDone W c order E) (cost_under costs E.deploy) (deployment W F b s)) (λ i. record { principal = c.principal; version = c.version; forms = c.forms; source_length = c.source_length; constants = (sym none) i })
    (deployment_sound costs W A ks known c valid new F home sender caller height order is own E typed s n)
