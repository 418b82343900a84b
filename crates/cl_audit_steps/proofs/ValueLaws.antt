-- What follows the values of parts.
use Rattle.std.proofs.Common.{◌≡◌, ◌≢◌, ◌≤◌, ℕ, suc, Bool, true, false, List, [], ◌∷◌, ◌++◌, length, map, option_map, nat_le, Option, Some, None, Result, Ok, Err, refl, sym, ap, ◌∙◌, subst, arith}
use Rattle.std.specs.Prelude.{◌==◌, if◌then◌else◌}
use Rattle.std.proofs.lemmas.Bool.{eqb-true}
use Rattle.std.proofs.lemmas.Bool.Decides.{nat_tests}
use Rattle.cl_shapes.specs.declared.name.CostName.{CostName}
use Rattle.cl_shapes.specs.declared.name.CostName.TheVariants.{Bind, Make}
use Rattle.cl_sexpr.specs.Tree.{Tree}
use Rattle.cl_values.specs.Computed.{Gives}
use Rattle.cl_values.specs.declared.native.Native.{Native}
use Rattle.cl_values.specs.Natives.{native_value}
use Rattle.cl_values.specs.Sequences.{entries_of, on_entries, within_length}
use Rattle.cl_values.specs.Tree.{Tree as Val, BoolV, TupleV, NoneV, SomeV, ResponseV}
use Rattle.cl_values.specs.Tuples.{sorted_entries}
use Rattle.cl_values.specs.Wire.{size_of}
use Rattle.cl_forms.specs.declared.head.Head.{Head}
use Rattle.cl_forms.specs.declared.head.Head.TheVariants as heads
use Rattle.cl_events.specs.State.{State}
use Rattle.cl_operands.specs.declared.ways.Way.{Way}
use Rattle.cl_operands.specs.declared.ways.Way.TheVariants.{Good, Bad, Neither}
use Rattle.cl_operands.specs.Truths.{truth_of}
use Rattle.cl_operands.specs.Ways.{way_of, err_way_of, optional_way_of, response_way_of, content}
use Rattle.cl_meaning.specs.Answers.{Answer, stop, give, wrong, charged, outcome_of, with_known}
use Rattle.cl_meaning.specs.Calls.{truth_value, native_form}
use Rattle.cl_meaning.specs.Control.{choice, throw, wanted_part, err_part, tried, match_optional, match_response, last_of}
use Rattle.cl_meaning.specs.Deployed.{Function}
use Rattle.cl_meaning.specs.Limits.{Charge}
use Rattle.cl_meaning.specs.Scope.{Scope, Take, Enter, OwnFunction, binding, taken_with, sizes}
use Rattle.cl_meaning.specs.Values.{number_of, on_values}
use Rattle.cl_audit_steps.specs.declared.scope.Function.{Function as FunctionOfCode}
use Rattle.cl_audit_steps.specs.declared.step.Last.{Last}
use Rattle.cl_audit_steps.specs.declared.step.End.{End}
use Rattle.cl_audit_steps.specs.declared.values.NativeKind.{NativeKind}
use Rattle.cl_audit_steps.specs.declared.values.NativeKind.TheVariants as kinds
use Rattle.cl_audit_steps.specs.Seen.{function_seen, some_function}
use Rattle.cl_audit_steps.specs.Steps.{behind, last_step, end_step, Form, IsEnd, tuple_made}
use Rattle.cl_audit_steps.specs.Ways.{IsComputed, held, kind_of, joined_form}

-- by a truth value
abbrev pub by_truth : Option Bool → (State → Answer Val) → (State → Answer Val) → State → Answer Val
by_truth (Some true) holds fails s = holds s
by_truth (Some false) holds fails s = fails s
by_truth None holds fails s = wrong s

chosen : (v : Val) (holds fails : State → Answer Val) (s : State) → choice v holds fails s ≡ by_truth (truth_of v) holds fails s
chosen (BoolV true) holds fails s = refl
chosen (BoolV false) holds fails s = refl
chosen v holds fails s = refl

pub chosen_by : (v : Val) (o : Option Bool) (holds fails : State → Answer Val) (s : State) → o ≡ truth_of v → choice v holds fails s ≡ by_truth o holds fails s
chosen_by v o holds fails s h = chosen v holds fails s ∙ ap (λ p. by_truth p holds fails s) (sym h)

-- by a way
abbrev pub by_way : Way → (State → Answer Val) → (State → Answer Val) → State → Answer Val
by_way Good holds fails s = holds s
by_way Bad holds fails s = fails s
by_way Neither holds fails s = wrong s

wanted : (v : Val) (otherwise : State → Answer Val) (s : State) → wanted_part otherwise v s ≡ by_way (way_of v) (give (content v)) otherwise s
wanted (SomeV v) otherwise s = refl
wanted NoneV otherwise s = refl
wanted (ResponseV true v) otherwise s = refl
wanted (ResponseV false v) otherwise s = refl
wanted v otherwise s = refl

pub wanted_by : (v : Val) (w : Way) (otherwise : State → Answer Val) (s : State) → w ≡ way_of v → wanted_part otherwise v s ≡ by_way w (give (content v)) otherwise s
wanted_by v w otherwise s h = wanted v otherwise s ∙ ap (λ x. by_way x (give (content v)) otherwise s) (sym h)

erred : (v : Val) (otherwise : State → Answer Val) (s : State) → err_part otherwise v s ≡ by_way (err_way_of v) (give (content v)) otherwise s
erred (ResponseV true v) otherwise s = refl
erred (ResponseV false v) otherwise s = refl
erred v otherwise s = refl

pub erred_by : (v : Val) (w : Way) (otherwise : State → Answer Val) (s : State) → w ≡ err_way_of v → err_part otherwise v s ≡ by_way w (give (content v)) otherwise s
erred_by v w otherwise s h = erred v otherwise s ∙ ap (λ x. by_way x (give (content v)) otherwise s) (sym h)

tries : (v : Val) (s : State) → tried v s ≡ by_way (way_of v) (give (content v)) (throw v) s
tries (SomeV v) s = refl
tries NoneV s = refl
tries (ResponseV true v) s = refl
tries (ResponseV false v) s = refl
tries v s = refl

pub tried_by : (v : Val) (w : Way) (s : State) → w ≡ way_of v → tried v s ≡ by_way w (give (content v)) (throw v) s
tried_by v w s h = tries v s ∙ ap (λ x. by_way x (give (content v)) (throw v) s) (sym h)

-- the last of values
pub last_is : (vs xs : List Val) (v : Val) (s : State) → vs ≡ xs ++ v ∷ [] → last_of vs s ≡ give v s
last_is vs xs v s h = ap (λ ys. last_of ys s) h ∙ at_end xs
  where
    at_end : (xs : List Val) → last_of (xs ++ v ∷ []) s ≡ give v s
    at_end [] = refl
    at_end (x ∷ []) = refl
    at_end (x ∷ y ∷ xs) = at_end (y ∷ xs)

-- a native on values
pub native_is : (n : Native) (cost : CostName) (vs : List Val) (s : State) → on_values n cost vs s ≡ charged cost (number_of cost vs) (stop (outcome_of (native_value n vs)) s)
unfolding on_values
native_is n cost vs s = refl

-- an end with no charge before
pub uncharged : (a f : Answer Val) → f ≡ a → f ≡ behind None a
unfolding behind
uncharged a f h = h

-- ---- chains

with_value : (v : Val) (b : Bool) → Some b ≡ truth_of v → v ≡ BoolV b
with_value (BoolV c) b h = cc
with_value v b h = absurd cc

pub and_ends : (v : Val) (more : State → Answer Val) (s : State) → Some false ≡ truth_of v → choice v more (give (BoolV false)) s ≡ give v s
and_ends v more s h = ap (λ w. choice w more (give (BoolV false)) s) (with_value v false h) ∙ sym (ap (λ w. give w s) (with_value v false h))

pub or_ends : (v : Val) (more : State → Answer Val) (s : State) → Some true ≡ truth_of v → choice v (give (BoolV true)) more s ≡ give v s
or_ends v more s h = ap (λ w. choice w (give (BoolV true)) more s) (with_value v true h) ∙ sym (ap (λ w. give w s) (with_value v true h))

-- ---- branches

-- an end that is known
pub ends_as : (f : Answer Val) (x : End) (l : Last) (S : Scope) (take : Take) (enter : Enter) (s : State) → f ≡ last_step take enter S l s → x ≡ record { charge = None; last = l } → f ≡ end_step take enter S x s
unfolding behind
ends_as f x l S take enter s h same = h ∙ sym (ap (λ y. end_step take enter S y s) same)

module _ (take : Take) (S : Scope) (x : List ℕ) (a : Tree) where
  pub optional_some : (b : Tree) (v w : Val) (s : State) → Good ≡ optional_way_of v → w ≡ content v → match_optional take S x a b v s ≡ taken_with take S x w a s
  optional_some b (SomeV v) w s h same = sym (ap (λ u. taken_with take S x u a s) same)
  optional_some b NoneV w s h same = absurd cc
  optional_some b v w s h same = absurd cc

  pub optional_none : (b : Tree) (v : Val) (s : State) → Bad ≡ optional_way_of v → match_optional take S x a b v s ≡ take S b s
  optional_none b (SomeV v) s h = absurd cc
  optional_none b NoneV s h = refl
  optional_none b v s h = absurd cc

  pub optional_wrong : (b : Tree) (v : Val) (s : State) → Neither ≡ optional_way_of v → match_optional take S x a b v s ≡ wrong s
  optional_wrong b (SomeV v) s h = absurd cc
  optional_wrong b NoneV s h = absurd cc
  optional_wrong b v s h = refl

  pub response_ok : (y : List ℕ) (b : Tree) (v w : Val) (s : State) → Good ≡ response_way_of v → w ≡ content v → match_response take S x a y b v s ≡ taken_with take S x w a s
  response_ok y b (ResponseV true v) w s h same = sym (ap (λ u. taken_with take S x u a s) same)
  response_ok y b (ResponseV false v) w s h same = absurd cc
  response_ok y b v w s h same = absurd cc

  pub response_err : (y : List ℕ) (b : Tree) (v w : Val) (s : State) → Bad ≡ response_way_of v → w ≡ content v → match_response take S x a y b v s ≡ taken_with take S y w b s
  response_err y b (ResponseV true v) w s h same = absurd cc
  response_err y b (ResponseV false v) w s h same = sym (ap (λ u. taken_with take S y u b s) same)
  response_err y b v w s h same = absurd cc

  pub response_wrong : (y : List ℕ) (b : Tree) (v : Val) (s : State) → Neither ≡ response_way_of v → match_response take S x a y b v s ≡ wrong s
  response_wrong y b (ResponseV true v) s h = absurd cc
  response_wrong y b (ResponseV false v) s h = absurd cc
  response_wrong y b v s h = refl

-- a part with one more name
pub bound_with : (take : Take) (S : Scope) (x : List ℕ) (v : Val) (e : Tree) (c : Charge) (s : State) → c ≡ (Bind, size_of v) → taken_with take S x v e s ≡ behind (Some c) (take (binding x v S) e s)
unfolding behind
bound_with take S x v e c s h = sym (ap (λ (d : Charge). charged d.0 d.1 (take (binding x v S) e s)) h)

-- a function that is known, or not
pub called_as : (f : Option Function) (g : FunctionOfCode) (enter : Enter) (S : Scope) (vs : List Val) (s : State) → some_function (Some g) ≡ f → with_known f (λ h. enter S (OwnFunction h) vs) s ≡ enter S (OwnFunction (function_seen g)) vs s
called_as f g enter S vs s h = ap (λ o. with_known o (λ k. enter S (OwnFunction k) vs) s) (sym h)

pub not_called : (f : Option Function) (enter : Enter) (S : Scope) (vs : List Val) (s : State) → None ≡ f → with_known f (λ h. enter S (OwnFunction h) vs) s ≡ wrong s
not_called f enter S vs s h = ap (λ o. with_known o (λ k. enter S (OwnFunction k) vs) s) (sym h)

-- ---- ends

-- an end with a charge
pub charged_as : (f a : Answer Val) (name : CostName) (n : ℕ) (c : Charge) (x : End) (l : Last) (S : Scope) (take : Take) (enter : Enter) (s : State) → f ≡ charged name n a → c ≡ (name, n) → a ≡ last_step take enter S l s → x ≡ record { charge = Some c; last = l } → f ≡ end_step take enter S x s
unfolding behind
charged_as f a name n c x l S take enter s h is e same =
    h ∙ ap (charged name n) e ∙ sym (ap (λ (d : Charge). charged d.0 d.1 (last_step take enter S l s)) is) ∙ sym (ap (λ y. end_step take enter S y s) same)

-- the same end in other words
pub ends_eq : {E : Type 0} (S : Scope) (f g : Form) (r : Result End E) → ((take : Take) (enter : Enter) (s : State) → f take enter s ≡ g take enter s) → IsEnd S g r → IsEnd S f r
ends_eq S f g (Ok x) h is = λ take enter s. h take enter s ∙ is take enter s
ends_eq S f g (Err e) h is = tt

pub ends_so : {E : Type 0} (S : Scope) (f : Form) (r q : Result End E) → r ≡ q → IsEnd S f q → IsEnd S f r
ends_so S f r q h is = subst (λ p. IsEnd S f p) (sym h) is

-- what is known, or not
pub known_so : {A : Type 0} (o : Option A) (a : A) (go_on : A → State → Answer Val) (s : State) → Some a ≡ o → with_known o go_on s ≡ go_on a s
known_so o a go_on s h = sym (ap (λ p. with_known p go_on s) h)

pub unknown_so : {A : Type 0} (o : Option A) (go_on : A → State → Answer Val) (s : State) → None ≡ o → with_known o go_on s ≡ wrong s
unknown_so o go_on s h = sym (ap (λ p. with_known p go_on s) h)

-- ---- a sequence within a length

within_known : (o : Option (List Val)) (p : Option ℕ) (most n : ℕ) (v : Val) (s : State) → p ≡ option_map length o → Some n ≡ p → stop (outcome_of (on_entries (λ xs. Gives (if nat_le (length xs) most then SomeV v else NoneV)) o)) s ≡ stop (outcome_of (held most n v)) s
within_known None p most n v s h k = absurd (none_some (k ∙ h))
  where
    none_some : Some n ≡ None → ⊥
    none_some e = cc
within_known (Some xs) p most n v s h k = ap (λ m. stop (outcome_of (held most m v)) s) (sym (some_same (k ∙ h)))
  where
    some_same : Some n ≡ Some (length xs) → n ≡ length xs
    some_same e = cc

pub within_is : (most n : ℕ) (v : Val) (p : Option ℕ) (s : State) → p ≡ option_map length (entries_of v) → Some n ≡ p → stop (outcome_of (within_length most v)) s ≡ stop (outcome_of (held most n v)) s
within_is most n v p s h k = within_known (entries_of v) p most n v s h k

within_unknown : (o : Option (List Val)) (p : Option ℕ) (most : ℕ) (v : Val) (s : State) → p ≡ option_map length o → None ≡ p → stop (outcome_of (on_entries (λ xs. Gives (if nat_le (length xs) most then SomeV v else NoneV)) o)) s ≡ wrong s
within_unknown None p most v s h k = refl
within_unknown (Some xs) p most v s h k = absurd (some_none (k ∙ h))
  where
    some_none : {n : ℕ} → None ≡ Some n → ⊥
    some_none e = cc

pub not_within : (most : ℕ) (v : Val) (p : Option ℕ) (s : State) → p ≡ option_map length (entries_of v) → None ≡ p → stop (outcome_of (within_length most v)) s ≡ wrong s
not_within most v p s h k = within_unknown (entries_of v) p most v s h k

pub held_some : {E : Type 0} (n most : ℕ) (v : Val) (r : Result Last E) → n ≤ most → IsComputed (Gives (SomeV v)) r → IsComputed (held most n v) r
held_some n most v r h is = subst (λ (b : Bool). IsComputed (Gives (if b then SomeV v else NoneV)) r) (sym (le_true n most h)) is
  where
    le_true : (m n : ℕ) → m ≤ n → nat_le m n ≡ true
    le_true m n h = grind (arith, nat_tests)

-- ---- tuples

pub nil_from : {A : Type 0} (es : List A) → (length es == 0) ≡ true → es ≡ []
nil_from [] h = refl
nil_from (e ∷ es) h =
    let none : suc (length es) ≡ 0 = eqb-true (suc (length es)) 0 h in
    absurd (omega (arith, none))

pub not_nil : {A : Type 0} (es : List A) → (length es == 0) ≡ false → es ≢ []
not_nil es h e = absurd (apart (sym h ∙ ap (λ l. length l == 0) e))
  where
    apart : false ≡ true → ⊥
    apart p = cc

pub no_entry : (es : List (List ℕ × Val)) (s : State) → es ≡ [] → tuple_made es s ≡ wrong s
no_entry es s h = ap (λ l. tuple_made l s) h

pub some_entry : (es : List (List ℕ × Val)) (s : State) → es ≢ [] → tuple_made es s ≡ charged Make (sizes (map (λ q. q.1) es)) (stop (outcome_of (Gives (TupleV (sorted_entries es)))) s)
some_entry [] s h = absurd (h refl)
some_entry (e ∷ es) s h = refl

-- ---- natives given by name

unfoldable pub by_kind : NativeKind → CostName → List Val → State → Answer Val
by_kind (kinds.OnValues n) cost vs s = on_values n cost vs s
by_kind kinds.And cost vs s = joined_form true vs s
by_kind kinds.Or cost vs s = joined_form false vs s
by_kind kinds.Other cost vs s = wrong s

kind_is : (h : Head) (cost : CostName) (vs : List Val) (s : State) → native_form h cost vs s ≡ by_kind (kind_of h) cost vs s
unfolding native_form by_kind
kind_is (heads.OnValues n) cost vs s = refl
kind_is heads.And cost vs s = refl
kind_is heads.Or cost vs s = refl
kind_is h cost vs s = refl

pub named_kind : (h : Head) (k l : NativeKind) (cost : CostName) (vs : List Val) (s : State) → k ≡ kind_of h → k ≡ l → native_form h cost vs s ≡ by_kind l cost vs s
named_kind h k l cost vs s is same = kind_is h cost vs s ∙ ap (λ m. by_kind m cost vs s) (sym is ∙ same)

pub truth_some : (o : Option Bool) (b : Bool) (v : Val) (s : State) → Some b ≡ o → v ≡ BoolV b → truth_value o s ≡ give v s
truth_some o b v s h same = sym (ap (λ p. truth_value p s) h) ∙ ap (λ w. give w s) (sym same)

pub truth_none : (o : Option Bool) (s : State) → None ≡ o → truth_value o s ≡ wrong s
truth_none o s h = sym (ap (λ p. truth_value p s) h)
