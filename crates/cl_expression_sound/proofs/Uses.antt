-- What a name applies that is given to map, filter or fold; and rows of applications.
use Rattle.std.proofs.Common.{◌≡◌, ℕ, suc, ◌≤◌, Bool, true, false, List, [], ◌∷◌, length, Option, Some, None, refl, sym, ap, subst, ◌∙◌}
use Rattle.std.specs.Prelude.{◌||◌, ◌&&◌, not, if◌then◌else◌}
use Rattle.std.specs.List.{list_any}
use Rattle.cl_types.specs.Types.{PlainType}
use Rattle.cl_shapes.specs.declared.cost.Cost5.{Cost5}
use Rattle.cl_shapes.specs.Costs.{plus, times, zero_cost}
use Rattle.cl_sexpr.specs.declared.sexpr.Span.{Span}
use Rattle.cl_sexpr.specs.declared.rule.Rule.{Rule}
use Rattle.cl_sexpr.specs.Tree.{Tree, LeafAt, Named}
use Rattle.cl_values.specs.Tree.{Tree as Val, BoolV}
use Rattle.cl_forms.specs.Heads.{Row, native, row_of}
use Rattle.cl_events.specs.State.{State}
use Rattle.cl_meaning.specs.Answers.{Answer, Given}
use Rattle.cl_meaning.specs.Deployed.{function_of, contract_at}
use Rattle.cl_meaning.specs.Scope.{Callee, OwnFunction, ByName}
use Rattle.cl_meaning.specs.Sequences.{own, by_row, callee_of, each, kept_if, sifted, folded}
use Rattle.cl_rules.specs.Faults.{type_rules, sound_shape}
use Rattle.cl_rules.specs.NativeTypes.{Ruled, or_broken, and_ruled, undetermined}
use Rattle.cl_rules.specs.Bills.{cost_under}
use Rattle.cl_rules.specs.Context.{Signature, signature_in}
use Rattle.cl_rules.specs.Verdicts.{Found, Verdict}
use Rattle.cl_rules.specs.Shapes.{parts as all_parts, is_miscounted, there_or_not, is_no_such, at_first}
use Rattle.cl_rules.specs.CallShapes.{Usable, AFunction, ANative, usable_function, usable_row, usable, takes_values, takes_no, use_row, use_bound, use_height, is_native, entries_row, using_shape}
use Rattle.cl_expression_sound.specs.Fitted.{Follows}
use Rattle.cl_expression_sound.specs.Sound.{World, IsSound, IsAsFound, NoThrow, IsKept}
use Rattle.cl_expression_sound.proofs.Costs.{once_more}
use Rattle.cl_expression_sound.proofs.Logic.{sound_more, sound_less, sound_stop, sound_then, sound_last}
use Rattle.cl_expression_sound.proofs.Rules.{fine_shape, fine_types, not_false, or_left, or_right}
use Rattle.cl_expression_sound.proofs.Values.{truth_of}
use Rattle.cl_expression_sound.proofs.Calls.{params_fit, native_there, function_there}
use Rattle.cl_expression_sound.proofs.Sides.{AllRows}
use Rattle.cl_expression_sound.proofs.Stands.{Stands, here, IsSoundShape}
use Rattle.cl_values.specs.Typed.{IsOf, AreOf, AllOf, AreSome, none, with, without}
use Rattle.cl_forms.proofs.Found.{is_row}
use Rattle.cl_types.specs.TypeKinds.{is_bool, is_undetermined}

same_usable : (a b : Usable) → Some a ≡ Some b → a ≡ b
same_usable a b h = cc

-- a native by name is one of the table
abbrev pub IsByName : Usable → Type 0
IsByName (AFunction g) = Unit {0}
IsByName (ANative row) = (row ≡ row_of row.head) × (row.by_name ≡ true)

module _ (K : World) (N : Stands K) where
  -- a function or a native by name is there, and its applications are sound
  pub record IsUsed (u : Usable) (o : Option Callee) : Type 0 where
    pub callee : Callee
    pub there : o ≡ Some callee
    pub named : IsByName u
    pub sound : (ts : List PlainType) (vs : List Val) → takes_values u (length ts) ≡ true → AreOf vs ts → type_rules (use_row u ts).faults ≡ [] → use_height u ≤ N.depth → (s : State) → IsKept K s → IsSound K (λ v. IsOf v (use_row u ts).type) NoThrow (cost_under K.costs (use_bound u ts)) (N.enter (here K N) callee vs s)

  native_used : (x : List ℕ) (at : Span) (row : Row) (b : Bool) (u : Usable) → native N.context.version x ≡ Some row → row.by_name ≡ b → (if b then Some (ANative row) else None) ≡ Some u → IsUsed u (if b then Some (ByName row at) else None)
  native_used x at row true u is by_name h = subst (λ u. IsUsed u (Some (ByName row at))) (same_usable (ANative row) u h) (record {
    callee = ByName row at;
    there = refl;
    named = (is_row N.context.version x row is, by_name);
    sound = λ ts vs count i types low s n. N.enters.natives low row (is_row N.context.version x row is) by_name at N.frame N.bound ts vs count i types s n;
  })
  native_used x at row false u is by_name h = absurd cc

  function_used : (x : List ℕ) (o : Option Signature) (u : Usable) → signature_in x N.context.functions ≡ o → usable_function o ≡ Some u → IsUsed u (own (function_of x (contract_at N.frame.contract K.deployed)))
  function_used x (Some g) u is h =
      let f = function_there K N x g is in
      subst (λ u. IsUsed u (own (function_of x (contract_at N.frame.contract K.deployed)))) (same_usable (AFunction g) u h) (record {
        callee = OwnFunction f.0.function;
        there = ap own f.1;
        named = tt;
        sound = λ ts vs count i types low s n. N.enters.each N.context g f.0.function f.0.served N.frame N.framed N.bound low vs (params_fit g ts vs (fine_types (use_row (AFunction g) ts).faults types) i) s n;
      })
  function_used x None u is h = absurd cc

  used_by : (x : List ℕ) (at : Span) (o : Option Row) (u : Usable) → native N.context.version x ≡ o → usable_row o (signature_in x N.context.functions) ≡ Some u → IsUsed u (by_row at o (function_of x (contract_at N.frame.contract K.deployed)))
  used_by x at (Some row) u is h = native_used x at row row.by_name u is refl h
  used_by x at None u is h = function_used x (signature_in x N.context.functions) u refl h

  used_there : (x : List ℕ) (at : Span) (u : Usable) → usable N.context x ≡ Some u → IsUsed u (callee_of (here K N) x at)
  used_there x at u h =
      subst (λ o. IsUsed u (by_row at o (function_of x (contract_at N.frame.contract K.deployed)))) (sym (native_there K N x)) (used_by x at (native N.context.version x) u refl h)

  -- ---- the shape of a native that applies

  abbrev pub OfUse : Row → (Usable → List Found → Verdict) → (List Tree → State → Answer Val) → Type 0
  OfUse row verdict form =
      (x : List ℕ) (at : Span) (es : List Tree) (u : Usable) → IsUsed u (callee_of (here K N) x at) → is_miscounted row (LeafAt (Named x) at ∷ es) ≡ false → takes_values u (length es) ≡ true →
      (fs : List Found) → Follows N.context (all_parts N.names es) fs → type_rules (verdict u fs).faults ≡ [] → (verdict u fs).found.height ≤ suc N.depth → (s : State) → IsKept K s → IsAsFound K (verdict u fs).found (form (LeafAt (Named x) at ∷ es) s)

  named_use : (row : Row) (verdict : Usable → List Found → Verdict) (form : List Tree → State → Answer Val) → OfUse row verdict form → (x : List ℕ) (at : Span) (es : List Tree) (o : Option Usable) → usable N.context x ≡ o →
      IsSoundShape K N (record { faults = record sound_shape { argument_count = is_miscounted row (LeafAt (Named x) at ∷ es) || takes_no (there_or_not o) (length es); not_a_function = is_no_such (there_or_not o) }; plan = all_parts N.names es; verdict = at_first (there_or_not o) verdict }) (form (LeafAt (Named x) at ∷ es))
  named_use row verdict form k x at es (Some u) is = record {
    each = λ fs shape follows types low s n.
        let count = (fine_shape (record sound_shape { argument_count = is_miscounted row (LeafAt (Named x) at ∷ es) || not (takes_values u (length es)); not_a_function = false }) shape).argument_count in
        k x at es u (used_there x at u is) (or_left (is_miscounted row (LeafAt (Named x) at ∷ es)) (not (takes_values u (length es))) count) (not_false (takes_values u (length es)) (or_right (is_miscounted row (LeafAt (Named x) at ∷ es)) (not (takes_values u (length es))) count)) fs follows types low s n;
  }
  named_use row verdict form k x at es None is = record {
    each = λ fs shape follows types low s n.
        let h = (fine_shape (record sound_shape { argument_count = is_miscounted row (LeafAt (Named x) at ∷ es) || false; not_a_function = true }) shape).not_a_function in absurd cc;
  }

  pub using_sound : (row : Row) (verdict : Usable → List Found → Verdict) (form : List Tree → State → Answer Val) → is_miscounted row [] ≡ true → OfUse row verdict form → (es : List Tree) → IsSoundShape K N (using_shape row verdict N.context N.names es) (form es)
  using_sound row verdict form nothing k [] = record {
    each = λ fs shape follows types low s n.
        let h = or_left (is_miscounted row []) false (fine_shape (using_shape row verdict N.context N.names []).faults shape).argument_count in absurd cc;
  }
  using_sound row verdict form nothing k (LeafAt (Named x) at ∷ es) = named_use row verdict form k x at es (usable N.context x) refl
  using_sound row verdict form nothing k (e ∷ es) = record {
    each = λ fs shape follows types low s n.
        let h = (fine_shape (using_shape row verdict N.context N.names (e ∷ es)).faults shape).not_a_function in absurd cc;
  }

  -- ---- rows of applications

  module _ (f : Callee) (c : Cost5) where
    pub each_sound : {T : Val → Type 0} (us : List PlainType) (t : PlainType) → ((vs : List Val) (s : State) → AreOf vs us → IsKept K s → IsSound K (λ v. IsOf v t) NoThrow c (N.enter (here K N) f vs s)) → (rs : List (List Val)) → AllRows us rs → (s : State) → IsKept K s → IsSound K (λ ws. AllOf ws t × (length ws ≡ length rs)) T (times c (length rs)) (each N.enter (here K N) f rs s)
    unfolding each
    each_sound {T = T} us t app [] i s n = sound_stop K (λ ws. AllOf ws t × (length ws ≡ 0)) T (times c 0) (Given []) s (tt, refl) n
    each_sound {T = T} us t app (r ∷ rs) i s n =
        sound_more K (plus c (times c (length rs))) (times c (suc (length rs))) _ (once_more c (length rs))
        (sound_then K c (times c (length rs)) _ _ (sound_less K c _ (λ v k. k) (λ v k. absurd k) (app r s i.0 n))
        (λ v u j m. sound_last K (times c (length rs)) _ _ (each_sound us t app rs i.1 u m)
        (λ ws w k l. sound_stop K (λ ws. AllOf ws t × (length ws ≡ suc (length rs))) T zero_cost (Given (v ∷ ws)) w ((j, k.0), ap suc k.1) l)))

    keep_sound : {T : Val → Type 0} (v x : Val) (ys xs : List Val) (s : State) → (b : Bool) × (v ≡ BoolV b) → AreSome ys xs → IsKept K s → IsSound K (λ zs. AreSome zs (x ∷ xs)) T zero_cost (kept_if v x ys s)
    keep_sound {T = T} v x ys xs s i h n = subst (λ v. IsSound K (λ zs. AreSome zs (x ∷ xs)) T zero_cost (kept_if v x ys s)) (sym i.1) (by i.0)
      where
        by : (b : Bool) → IsSound K (λ zs. AreSome zs (x ∷ xs)) T zero_cost (kept_if (BoolV b) x ys s)
        by true = sound_stop K (λ zs. AreSome zs (x ∷ xs)) T zero_cost (Given (x ∷ ys)) s (with h) n
        by false = sound_stop K (λ zs. AreSome zs (x ∷ xs)) T zero_cost (Given ys) s (without h) n

    pub sifted_sound : {T : Val → Type 0} (t u : PlainType) → is_bool u ≡ true → ((v : Val) (s : State) → IsOf v t → IsKept K s → IsSound K (λ v. IsOf v u) NoThrow c (N.enter (here K N) f (v ∷ []) s)) → (xs : List Val) → AllOf xs t → (s : State) → IsKept K s → IsSound K (λ ys. AreSome ys xs) T (times c (length xs)) (sifted N.enter (here K N) f xs s)
    unfolding sifted
    sifted_sound {T = T} t u bool app [] i s n = sound_stop K (λ ys. AreSome ys []) T (times c 0) (Given []) s none n
    sifted_sound {T = T} t u bool app (x ∷ xs) i s n =
        sound_more K (plus c (times c (length xs))) (times c (suc (length xs))) _ (once_more c (length xs))
        (sound_then K c (times c (length xs)) _ _ (sound_less K c _ (λ v k. k) (λ v k. absurd k) (app x s i.0 n))
        (λ v z j m. sound_last K (times c (length xs)) _ _ (sifted_sound t u bool app xs i.1 z m)
        (λ ys w k l. keep_sound v x ys xs w (truth_of v u bool j) k l)))

    pub folded_sound : {T : Val → Type 0} (t u : PlainType) → ((x r : Val) (s : State) → IsOf x t → IsOf r u → IsKept K s → IsSound K (λ v. IsOf v u) NoThrow c (N.enter (here K N) f (x ∷ r ∷ []) s)) → (xs : List Val) → AllOf xs t → (r : Val) → IsOf r u → (s : State) → IsKept K s → IsSound K (λ v. IsOf v u) T (times c (length xs)) (folded N.enter (here K N) f xs r s)
    unfolding folded
    folded_sound {T = T} t u app [] i r j s n = sound_stop K (λ v. IsOf v u) T (times c 0) (Given r) s j n
    folded_sound {T = T} t u app (x ∷ xs) i r j s n =
        sound_more K (plus c (times c (length xs))) (times c (suc (length xs))) _ (once_more c (length xs))
        (sound_then K c (times c (length xs)) _ _ (sound_less K c _ (λ v k. k) (λ v k. absurd k) (app x r s i.0 j n))
        (λ v z k m. folded_sound t u app xs i.1 v k z m))

-- ---- rulings on rulings

-- nothing is broken by the first, and the second is what is made of its type
pub and_ruled_is : (r : Ruled) (make : PlainType → Ruled) → type_rules (and_ruled r make).faults ≡ [] → (type_rules r.faults ≡ []) × (and_ruled r make ≡ make r.type)
and_ruled_is r make h = by (type_rules r.faults) refl h
  where
    by : (rules : List Rule) → type_rules r.faults ≡ rules → type_rules (or_broken rules r (make r.type)).faults ≡ [] → (type_rules r.faults ≡ []) × (or_broken rules r (make r.type) ≡ make r.type)
    by [] e k = (e, refl)
    by (rule ∷ rules) e k = absurd (apart (sym e ∙ k))
      where
        apart : rule ∷ rules ≡ [] → ⊥
        apart h = cc

pub entries_are : (u : Usable) (entries : List PlainType) (row : Usable → Ruled) → type_rules (entries_row u entries row).faults ≡ [] → entries_row u entries row ≡ row u
entries_are u entries row h = by (is_native u && list_any is_undetermined entries) h
  where
    by : (b : Bool) → type_rules (if b then undetermined else row u).faults ≡ [] → (if b then undetermined else row u) ≡ row u
    by true k = absurd cc
    by false k = refl
