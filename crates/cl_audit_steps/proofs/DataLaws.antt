-- Variables, maps and events.
use Rattle.std.proofs.Common.{◌≡◌, ◌≢◌, ℕ, ◌+◌, Bool, true, false, not, List, [], ◌∷◌, length, Option, Some, None, Result, Err, refl, sym, ap, ◌∙◌, subst}
use Rattle.std.specs.Prelude.{is_some}
use Rattle.cl_shapes.specs.declared.name.CostName.TheVariants.{ReadVar, ReadMap}
use Rattle.cl_sexpr.specs.Tree.{Tree, LeafAt, ListAt, TupleAt, Named}
use Rattle.cl_values.specs.Computed.{Gives}
use Rattle.cl_values.specs.Sequences.{optional}
use Rattle.cl_values.specs.Tree.{Tree as Val, BoolV, SomeV}
use Rattle.cl_values.specs.Wire.{size_of}
use Rattle.cl_maps.specs.Maps.{get, put, without}
use Rattle.cl_events.specs.declared.event.EventKind.TheVariants.{Print}
use Rattle.cl_events.specs.State.{State, spot, with_variables, with_entries, with_event}
use Rattle.cl_state.specs.Stack.{Stack}
use Rattle.cl_meaning.specs.Answers.{Answer, stop, give, wrong, charged, and_then, with_known, outcome_of}
use Rattle.cl_meaning.specs.Data.{here, variable_set, only_if, with_map, entry_at, set_entry, insert_entry, delete_entry, key_and_value, var_get_form, var_set_form, map_get_form, map_set_form, map_insert_form, map_delete_form}
use Rattle.cl_meaning.specs.Deployed.{has_map}
use Rattle.cl_meaning.specs.Scope.{Scope, Take, Enter, home, parts}
use Rattle.cl_meaning.specs.Tokens.{print_form}
use Rattle.cl_audit_steps.specs.declared.step.Last.{Last}
use Rattle.cl_audit_steps.specs.declared.step.End.{End}
use Rattle.cl_audit_steps.specs.declared.step.Part.{Part}
use Rattle.cl_audit_steps.specs.declared.step.Start.{Start}
use Rattle.cl_audit_steps.specs.declared.step.OnRead.{OnRead}
use Rattle.cl_audit_steps.specs.declared.step.OnAct.{OnAct}
use Rattle.cl_audit_steps.specs.declared.step.OnActs.{OnActs}
use Rattle.cl_audit_steps.specs.Acting.{IsDone, Does}
use Rattle.cl_audit_steps.specs.Items.{one_of, atom_of, named_of, headed}
use Rattle.cl_audit_steps.specs.Steps.{behind, part_step, start_step, variable_read, variable_written, value_printed, entry_read, entry_deleted, entry_written, entry_inserted, on_read, on_act, on_acts}
use Rattle.cl_audit_steps.specs.Ways.{IsComputed}
use Rattle.cl_audit_steps.proofs.FormLaws.{by}

-- a form whose first item is a name
unfoldable pub by_name : Option (List ℕ) → (List ℕ → State → Answer Val) → State → Answer Val
by_name None form s = wrong s
by_name (Some x) form s = form x s

pub name_found : (o : Option (List ℕ)) (x : List ℕ) (form : List ℕ → State → Answer Val) (s : State) → Some x ≡ o → by_name o form s ≡ form x s
unfolding by_name
name_found o x form s h = ap (λ p. by_name p form s) (sym h)

pub name_absent : (o : Option (List ℕ)) (form : List ℕ → State → Answer Val) (s : State) → None ≡ o → by_name o form s ≡ wrong s
unfolding by_name
name_absent o form s h = ap (λ p. by_name p form s) (sym h)

-- a node that begins with one part, or with nothing
pub starts_at : (f : Answer Val) (p : Part) (b : Start) (take : Take) (enter : Enter) (S : Scope) (s : State) → f ≡ part_step take enter S p s → b ≡ record { charge = None; part = p } → f ≡ start_step take enter S b s
unfolding behind
starts_at f p b take enter S s h same = h ∙ sym (ap (λ d. start_step take enter S d s) same)

-- a name alone
pub get_by : (es : List Tree) (S : Scope) (s : State) → var_get_form S es s ≡ by (one_of es) (λ e. by_name (atom_of e) (variable_read S)) s
unfolding var_get_form by by_name
get_by [] S s = refl
get_by (LeafAt (Named x) at ∷ []) S s = refl
get_by (LeafAt l at ∷ []) S s = refl
get_by (ListAt fs at ∷ []) S s = refl
get_by (TupleAt ps at ∷ []) S s = refl
get_by (LeafAt (Named x) at ∷ e ∷ es) S s = refl
get_by (LeafAt l at ∷ e ∷ es) S s = refl
get_by (ListAt fs at ∷ e ∷ es) S s = refl
get_by (TupleAt ps at ∷ e ∷ es) S s = refl

pub set_by : (es : List Tree) (take : Take) (S : Scope) (s : State) → var_set_form take S es s ≡ by (named_of es) (λ p t. and_then (take S p.1 t) (variable_written S p.0)) s
unfolding var_set_form by
set_by [] take S s = refl
set_by (LeafAt (Named x) at ∷ []) take S s = refl
set_by (LeafAt l at ∷ []) take S s = refl
set_by (ListAt fs at ∷ []) take S s = refl
set_by (TupleAt ps at ∷ []) take S s = refl
set_by (LeafAt (Named x) at ∷ e ∷ []) take S s = refl
set_by (LeafAt l at ∷ e ∷ []) take S s = refl
set_by (ListAt fs at ∷ e ∷ []) take S s = refl
set_by (TupleAt ps at ∷ e ∷ []) take S s = refl
set_by (LeafAt (Named x) at ∷ e ∷ d ∷ es) take S s = refl
set_by (LeafAt l at ∷ e ∷ d ∷ es) take S s = refl
set_by (ListAt fs at ∷ e ∷ d ∷ es) take S s = refl
set_by (TupleAt ps at ∷ e ∷ d ∷ es) take S s = refl

pub map_get_by : (es : List Tree) (take : Take) (S : Scope) (s : State) → map_get_form take S es s ≡ by (named_of es) (λ p t. and_then (take S p.1 t) (entry_read S p.0)) s
unfolding map_get_form by
map_get_by [] take S s = refl
map_get_by (LeafAt (Named x) at ∷ []) take S s = refl
map_get_by (LeafAt l at ∷ []) take S s = refl
map_get_by (ListAt fs at ∷ []) take S s = refl
map_get_by (TupleAt ps at ∷ []) take S s = refl
map_get_by (LeafAt (Named x) at ∷ e ∷ []) take S s = refl
map_get_by (LeafAt l at ∷ e ∷ []) take S s = refl
map_get_by (ListAt fs at ∷ e ∷ []) take S s = refl
map_get_by (TupleAt ps at ∷ e ∷ []) take S s = refl
map_get_by (LeafAt (Named x) at ∷ e ∷ d ∷ es) take S s = refl
map_get_by (LeafAt l at ∷ e ∷ d ∷ es) take S s = refl
map_get_by (ListAt fs at ∷ e ∷ d ∷ es) take S s = refl
map_get_by (TupleAt ps at ∷ e ∷ d ∷ es) take S s = refl

pub map_delete_by : (es : List Tree) (take : Take) (S : Scope) (s : State) → map_delete_form take S es s ≡ by (named_of es) (λ p t. and_then (take S p.1 t) (entry_deleted S p.0)) s
unfolding map_delete_form by
map_delete_by [] take S s = refl
map_delete_by (LeafAt (Named x) at ∷ []) take S s = refl
map_delete_by (LeafAt l at ∷ []) take S s = refl
map_delete_by (ListAt fs at ∷ []) take S s = refl
map_delete_by (TupleAt ps at ∷ []) take S s = refl
map_delete_by (LeafAt (Named x) at ∷ e ∷ []) take S s = refl
map_delete_by (LeafAt l at ∷ e ∷ []) take S s = refl
map_delete_by (ListAt fs at ∷ e ∷ []) take S s = refl
map_delete_by (TupleAt ps at ∷ e ∷ []) take S s = refl
map_delete_by (LeafAt (Named x) at ∷ e ∷ d ∷ es) take S s = refl
map_delete_by (LeafAt l at ∷ e ∷ d ∷ es) take S s = refl
map_delete_by (ListAt fs at ∷ e ∷ d ∷ es) take S s = refl
map_delete_by (TupleAt ps at ∷ e ∷ d ∷ es) take S s = refl

pub map_set_by : (es : List Tree) (take : Take) (S : Scope) (s : State) → map_set_form take S es s ≡ by (headed es) (λ p t. and_then (parts take S p.1 t) (entry_written S p.0)) s
unfolding map_set_form by
map_set_by [] take S s = refl
map_set_by (LeafAt (Named x) at ∷ es) take S s = refl
map_set_by (LeafAt l at ∷ es) take S s = refl
map_set_by (ListAt fs at ∷ es) take S s = refl
map_set_by (TupleAt ps at ∷ es) take S s = refl

pub map_insert_by : (es : List Tree) (take : Take) (S : Scope) (s : State) → map_insert_form take S es s ≡ by (headed es) (λ p t. and_then (parts take S p.1 t) (entry_inserted S p.0)) s
unfolding map_insert_form by
map_insert_by [] take S s = refl
map_insert_by (LeafAt (Named x) at ∷ es) take S s = refl
map_insert_by (LeafAt l at ∷ es) take S s = refl
map_insert_by (ListAt fs at ∷ es) take S s = refl
map_insert_by (TupleAt ps at ∷ es) take S s = refl

pub print_by : (es : List Tree) (take : Take) (S : Scope) (s : State) → print_form take S es s ≡ by (one_of es) (λ e t. and_then (take S e t) (value_printed S)) s
unfolding print_form by
print_by [] take S s = refl
print_by (e ∷ []) take S s = refl
print_by (e ∷ d ∷ es) take S s = refl

-- ---- variables and events

pub read_known : (S : Scope) (x : List ℕ) (v : Val) (s : State) → Some v ≡ get (here S x) s.variables → variable_read S x s ≡ charged ReadVar (size_of v) (give v s)
read_known S x v s h = ap (λ o. with_known o (λ w t. charged ReadVar (size_of w) (give w t)) s) (sym h)

pub read_unknown : (S : Scope) (x : List ℕ) (s : State) → None ≡ get (here S x) s.variables → variable_read S x s ≡ wrong s
read_unknown S x s h = ap (λ o. with_known o (λ w t. charged ReadVar (size_of w) (give w t)) s) (sym h)

set_there : (o : Option Val) (at : List ℕ) (v : Val) (s : State) → true ≡ is_some o → with_known o (variable_set at v) s ≡ give (BoolV true) (with_variables (put at v s.variables) s)
set_there None at v s h = absurd cc
set_there (Some w) at v s h = refl

set_absent : (o : Option Val) (at : List ℕ) (v : Val) (s : State) → false ≡ is_some o → with_known o (variable_set at v) s ≡ wrong s
set_absent None at v s h = refl
set_absent (Some w) at v s h = absurd cc

pub written : (S : Scope) (x : List ℕ) (v w : Val) (s t : State) → w ≡ BoolV true → true ≡ is_some (get (here S x) s.variables) → t ≡ with_variables (put (here S x) v s.variables) s → with_known (get (here S x) s.variables) (variable_set (here S x) v) s ≡ give w t
written S x v w s t same there now = set_there (get (here S x) s.variables) (here S x) v s there ∙ sym (λ i. give (same i) (now i))

pub not_written : (S : Scope) (x : List ℕ) (v : Val) (s t : State) → false ≡ is_some (get (here S x) s.variables) → t ≡ s → with_known (get (here S x) s.variables) (variable_set (here S x) v) s ≡ wrong t
not_written S x v s t there now = set_absent (get (here S x) s.variables) (here S x) v s there ∙ sym (ap wrong now)

pub printed : (S : Scope) (v w : Val) (s t : State) → w ≡ v → t ≡ with_event S.frame.contract (Print w) s → give v (with_event S.frame.contract (Print v) s) ≡ give v t
printed S v w s t same now = sym (ap (λ u. give v u) (now ∙ ap (λ x. with_event S.frame.contract (Print x) s) same))

-- ---- maps

pub has_it : (S : Scope) (m : List ℕ) (b : Bool) (go_on : State → Answer Val) (s : State) → b ≡ has_map m (home S) → b ≡ true → with_map S m go_on s ≡ go_on s
has_it S m b go_on s h k = ap (λ c. only_if c go_on s) (sym h ∙ k)

pub has_none : (S : Scope) (m : List ℕ) (b : Bool) (go_on : State → Answer Val) (s : State) → b ≡ has_map m (home S) → b ≡ false → with_map S m go_on s ≡ wrong s
has_none S m b go_on s h k = ap (λ c. only_if c go_on s) (sym h ∙ k)

pub found_is : (S : Scope) (m : List ℕ) (key : Val) (found : Option Val) (n : ℕ) (s : State) → found ≡ get (spot S.frame.contract m key) s.entries → n ≡ size_of key + size_of (optional found) → charged ReadMap (size_of key + size_of (optional (entry_at S m key s))) (stop (outcome_of (Gives (optional (entry_at S m key s)))) s) ≡ charged ReadMap n (stop (outcome_of (Gives (optional found))) s)
found_is S m key found n s h k = sym (ap (λ i. charged ReadMap i (stop (outcome_of (Gives (optional found))) s)) k ∙ ap (λ o. charged ReadMap (size_of key + size_of (optional o)) (stop (outcome_of (Gives (optional o))) s)) h)

pub deleted : (S : Scope) (m : List ℕ) (key w : Val) (b : Bool) (s t : State) → b ≡ is_some (get (spot S.frame.contract m key) s.entries) → w ≡ BoolV b → t ≡ with_entries (without (spot S.frame.contract m key) s.entries) s → delete_entry S m key s ≡ give w t
deleted S m key w b s t was same now = sym (λ i. give ((same ∙ ap BoolV was) i) (now i))

pub put_in : (S : Scope) (m : List ℕ) (key v w : Val) (s t : State) → w ≡ BoolV true → t ≡ with_entries (put (spot S.frame.contract m key) v s.entries) s → set_entry S m key v s ≡ give w t
put_in S m key v w s t same now = sym (λ i. give (same i) (now i))

inserted_by : (S : Scope) (m : List ℕ) (key v w : Val) (o : Option Val) (b : Bool) (s t : State) → not b ≡ is_some o → w ≡ BoolV b → (b ≡ true → t ≡ with_entries (put (spot S.frame.contract m key) v s.entries) s) → (b ≡ false → t ≡ s) → insert_entry S m key v o s ≡ give w t
inserted_by S m key v w None true s t h same done stays = put_in S m key v w s t same (done refl)
inserted_by S m key v w None false s t h same done stays = absurd cc
inserted_by S m key v w (Some old) true s t h same done stays = absurd cc
inserted_by S m key v w (Some old) false s t h same done stays = sym (λ i. give (same i) (stays refl i))

pub inserted : (S : Scope) (m : List ℕ) (key v w : Val) (b : Bool) (s t : State) → not b ≡ is_some (get (spot S.frame.contract m key) s.entries) → w ≡ BoolV b → (b ≡ true → t ≡ with_entries (put (spot S.frame.contract m key) v s.entries) s) → (b ≡ false → t ≡ s) → insert_entry S m key v (entry_at S m key s) s ≡ give w t
inserted S m key v w b s t h same done stays = inserted_by S m key v w (entry_at S m key s) b s t h same done stays

pub two_values : (act : Val → Val → State → Answer Val) (vs : List Val) (key v : Val) (s : State) → vs ≡ key ∷ v ∷ [] → key_and_value act vs s ≡ act key v s
two_values act vs key v s h = ap (λ l. key_and_value act l s) h

pub not_two : (act : Val → Val → State → Answer Val) (vs : List Val) (s : State) → length vs ≢ 2 → key_and_value act vs s ≡ wrong s
not_two act [] s h = refl
not_two act (v ∷ []) s h = refl
not_two act (v ∷ w ∷ []) s h = absurd (h refl)
not_two act (v ∷ w ∷ u ∷ vs) s h = refl

-- ---- which of them

pub reads_at : {E : Type 0} (S : Scope) (k l : OnRead) (s t : State) (r : Result End E) → k ≡ l → IsDone S (on_read S l) s r t → IsDone S (on_read S k) s r t
reads_at S k l s t r h is = subst (λ i. IsDone S (on_read S i) s r t) (sym h) is

pub acts_at : {E : Type 0} (S : Scope) (k l : OnAct) (v : Val) (old new : Stack) (r : Result End E) → k ≡ l → Does S (on_act S l v) old r new → Does S (on_act S k v) old r new
acts_at S k l v old new r h is = subst (λ i. Does S (on_act S i v) old r new) (sym h) is

pub acts_all : {E : Type 0} (S : Scope) (k l : OnActs) (vs : List Val) (old new : Stack) (r : Result End E) → k ≡ l → Does S (on_acts S l vs) old r new → Does S (on_acts S k vs) old r new
acts_all S k l vs old new r h is = subst (λ i. Does S (on_acts S i vs) old r new) (sym h) is

-- what only reads changes nothing
pub only_reads : {E : Type 0} (S : Scope) (form : State → Answer Val) (old : Stack) (r : Result End E) → IsDone S form old.top r old.top → Does S form old r old
only_reads S form old r is = record { done = is; below = refl }

pub kept_below : {A : Type 0} (b : Bool) (x y : A) → (b ≡ true → x ≡ y) → (b ≡ false → x ≡ y) → x ≡ y
kept_below true x y done stays = done refl
kept_below false x y done stays = stays refl

pub some_found : {E : Type 0} (o : Option Val) (v : Val) (r : Result Last E) → o ≡ Some v → IsComputed (Gives (SomeV v)) r → IsComputed (Gives (optional o)) r
some_found o v r h is = subst (λ p. IsComputed (Gives (optional p)) r) (sym h) is

-- for want of memory
pub does_forgot : {E : Type 0} (S : Scope) (form : State → Answer Val) (old new : Stack) (r : Result End E) (x : E) → r ≡ Err x → new.below ≡ old.below → Does S form old r new
does_forgot S form old new r x h below = subst (λ q. Does S form old q new) (sym h) (record { done = tt; below = below })
