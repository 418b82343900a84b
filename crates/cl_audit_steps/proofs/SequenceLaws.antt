-- Tuples, sequences and other contracts: their forms by their items.
use Rattle.std.proofs.Common.{◌≡◌, ◌≢◌, ℕ, List, [], ◌∷◌, ◌++◌, append_assoc, length, Option, Some, None, refl, sym, ap, ◌∙◌}
use Rattle.cl_sexpr.specs.declared.sexpr.Span.{Span}
use Rattle.cl_sexpr.specs.Tree.{Tree, LeafAt, ListAt, TupleAt, Named, Unsigned}
use Rattle.cl_values.specs.Tree.{Tree as Val}
use Rattle.cl_events.specs.State.{State}
use Rattle.cl_meaning.specs.Answers.{Answer, Outcome, Given, Thrown, Aborted, Wrong, Deeper, Note, stop, give, wrong, after_log, then_on, and_then, with_known}
use Rattle.cl_meaning.specs.Calls.{contract_call_form}
use Rattle.cl_meaning.specs.Deployed.{Contract, Function}
use Rattle.cl_meaning.specs.Scope.{Scope, Callee, OwnFunction, Take, Enter, parts}
use Rattle.cl_meaning.specs.Sequences.{map_form, filter_form, fold_form}
use Rattle.cl_meaning.specs.Values.{tuple_form, get_form, as_max_len_form}
use Rattle.cl_audit_steps.specs.declared.scope.Function.{Function as FunctionOfCode}
use Rattle.cl_audit_steps.specs.declared.scope.Callee.{Callee as CalleeOfCode}
use Rattle.cl_audit_steps.specs.Items.{one_of, two_of, uint_of, named_of, worded, called_of}
use Rattle.cl_audit_steps.specs.Seen.{function_seen, some_function, callee_seen, some_callee}
use Rattle.cl_audit_steps.specs.Steps.{part_taken, shortened, across, map_on, filter_on, fold_on, fold_values}
use Rattle.cl_audit_steps.proofs.FormLaws.{by}

-- ---- one answer behind another

log_again : {A : Type 0} (l m : List Note) (a : Answer A) → after_log (l ++ m) a ≡ after_log l (after_log m a)
log_again l m a = ap (λ n. record { outcome = a.outcome; state = a.state; log = n }) (append_assoc l m a.log)

then_again : {A B : Type 0} (l : List Note) (o : Outcome A) (s : State) (log : List Note) (g : A → State → Answer B) → then_on o s (l ++ log) g ≡ after_log l (then_on o s log g)
then_again l (Given a) s log g = log_again l log (g a s)
then_again l (Thrown v) s log g = refl
then_again l (Aborted why) s log g = refl
then_again l Wrong s log g = refl
then_again l Deeper s log g = refl

then_then_on : {A B C : Type 0} (o : Outcome A) (s : State) (log : List Note) (f : A → State → Answer B) (g : B → State → Answer C) → and_then (then_on o s log f) g ≡ then_on o s log (λ a t. and_then (f a t) g)
unfolding and_then
then_then_on (Given a) s log f g = then_again log (f a s).outcome (f a s).state (f a s).log g
then_then_on (Thrown v) s log f g = refl
then_then_on (Aborted why) s log f g = refl
then_then_on Wrong s log f g = refl
then_then_on Deeper s log f g = refl

pub then_then : {A B C : Type 0} (a : Answer A) (f : A → State → Answer B) (g : B → State → Answer C) → and_then (and_then a f) g ≡ and_then a (λ x s. and_then (f x s) g)
unfolding and_then
then_then a f g = then_then_on a.outcome a.state a.log f g

pub given_then : {A B : Type 0} (a : A) (s : State) (g : A → State → Answer B) → and_then (give a s) g ≡ g a s
unfolding and_then stop
given_then a s g = refl

-- two parts, one after the other
pub two_parts : (take : Take) (S : Scope) (e i : Tree) (g : List Val → State → Answer Val) (s : State) → and_then (parts take S (e ∷ i ∷ []) s) g ≡ and_then (take S e s) (λ v t. and_then (take S i t) (λ w u. g (v ∷ w ∷ []) u))
unfolding parts
two_parts take S e i g s =
    then_then (take S e s) _ g
    ∙ λ j. and_then (take S e s) (λ v t. (then_then (parts take S (i ∷ []) t) _ g ∙ then_then (take S i t) _ _ ∙ last v t) j)
  where
    last : (v : Val) (t : State) → and_then (take S i t) (λ w u. and_then (and_then (parts take S [] u) (λ vs z. give (w ∷ vs) z)) (λ vs u. and_then (give (v ∷ vs) u) g)) ≡ and_then (take S i t) (λ w u. g (v ∷ w ∷ []) u)
    last v t = λ j. and_then (take S i t) (λ w u. (ap (λ a. and_then a (λ vs z. and_then (give (v ∷ vs) z) g)) (given_then [] u (λ vs z. give (w ∷ vs) z)) ∙ given_then (w ∷ []) u (λ vs z. and_then (give (v ∷ vs) z) g) ∙ given_then (v ∷ w ∷ []) u g) j)

-- ---- get, as-max-len?

pub get_by_key : (es : List Tree) (take : Take) (S : Scope) (s : State) → get_form take S es s ≡ by (named_of es) (λ p t. and_then (take S p.1 t) (part_taken p.0)) s
unfolding get_form by
get_by_key [] take S s = refl
get_by_key (LeafAt (Named x) at ∷ []) take S s = refl
get_by_key (LeafAt l at ∷ []) take S s = refl
get_by_key (ListAt fs at ∷ []) take S s = refl
get_by_key (TupleAt ps at ∷ []) take S s = refl
get_by_key (LeafAt (Named x) at ∷ e ∷ []) take S s = refl
get_by_key (LeafAt l at ∷ e ∷ []) take S s = refl
get_by_key (ListAt fs at ∷ e ∷ []) take S s = refl
get_by_key (TupleAt ps at ∷ e ∷ []) take S s = refl
get_by_key (LeafAt (Named x) at ∷ e ∷ d ∷ es) take S s = refl
get_by_key (LeafAt l at ∷ e ∷ d ∷ es) take S s = refl
get_by_key (ListAt fs at ∷ e ∷ d ∷ es) take S s = refl
get_by_key (TupleAt ps at ∷ e ∷ d ∷ es) take S s = refl

-- a form whose second item is a uint
unfoldable pub by_uint : Option ℕ → (ℕ → State → Answer Val) → State → Answer Val
by_uint None form s = wrong s
by_uint (Some n) form s = form n s

pub uint_found : (o : Option ℕ) (n : ℕ) (form : ℕ → State → Answer Val) (s : State) → Some n ≡ o → by_uint o form s ≡ form n s
unfolding by_uint
uint_found o n form s h = ap (λ p. by_uint p form s) (sym h)

pub uint_absent : (o : Option ℕ) (form : ℕ → State → Answer Val) (s : State) → None ≡ o → by_uint o form s ≡ wrong s
unfolding by_uint
uint_absent o form s h = ap (λ p. by_uint p form s) (sym h)

pub max_len_by : (es : List Tree) (take : Take) (S : Scope) (s : State) → as_max_len_form take S es s ≡ by (two_of es) (λ p. by_uint (uint_of p.1) (λ most t. and_then (take S p.0 t) (shortened most))) s
unfolding as_max_len_form by by_uint
max_len_by [] take S s = refl
max_len_by (e ∷ []) take S s = refl
max_len_by (e ∷ LeafAt (Unsigned n) at ∷ []) take S s = refl
max_len_by (e ∷ LeafAt l at ∷ []) take S s = refl
max_len_by (e ∷ ListAt fs at ∷ []) take S s = refl
max_len_by (e ∷ TupleAt ps at ∷ []) take S s = refl
max_len_by (e ∷ LeafAt (Unsigned n) at ∷ d ∷ es) take S s = refl
max_len_by (e ∷ LeafAt l at ∷ d ∷ es) take S s = refl
max_len_by (e ∷ ListAt fs at ∷ d ∷ es) take S s = refl
max_len_by (e ∷ TupleAt ps at ∷ d ∷ es) take S s = refl

pub known_tuple : (o : Option (List (List ℕ × Tree))) (ps : List (List ℕ × Tree)) (take : Take) (S : Scope) (s : State) → Some ps ≡ o → with_known o (tuple_form take S) s ≡ tuple_form take S ps s
known_tuple o ps take S s h = sym (ap (λ p. with_known p (tuple_form take S) s) h)

pub no_tuple : (o : Option (List (List ℕ × Tree))) (take : Take) (S : Scope) (s : State) → None ≡ o → with_known o (tuple_form take S) s ≡ wrong s
no_tuple o take S s h = sym (ap (λ p. with_known p (tuple_form take S) s) h)

-- ---- map, filter, fold

pub map_by : (es : List Tree) (take : Take) (enter : Enter) (S : Scope) (s : State) → map_form take enter S es s ≡ by (worded es) (λ p t. and_then (parts take S p.2 t) (map_on enter S p.0 p.1)) s
unfolding map_form by
map_by [] take enter S s = refl
map_by (LeafAt (Named x) at ∷ es) take enter S s = refl
map_by (LeafAt l at ∷ es) take enter S s = refl
map_by (ListAt fs at ∷ es) take enter S s = refl
map_by (TupleAt ps at ∷ es) take enter S s = refl

pub filter_by : (es : List Tree) (take : Take) (enter : Enter) (S : Scope) (s : State) → filter_form take enter S es s ≡ by (worded es) (λ p. by (one_of p.2) (λ e t. and_then (take S e t) (filter_on enter S p.0 p.1))) s
unfolding filter_form by
filter_by [] take enter S s = refl
filter_by (LeafAt (Named x) at ∷ []) take enter S s = refl
filter_by (LeafAt l at ∷ []) take enter S s = refl
filter_by (ListAt fs at ∷ []) take enter S s = refl
filter_by (TupleAt ps at ∷ []) take enter S s = refl
filter_by (LeafAt (Named x) at ∷ e ∷ []) take enter S s = refl
filter_by (LeafAt l at ∷ e ∷ []) take enter S s = refl
filter_by (ListAt fs at ∷ e ∷ []) take enter S s = refl
filter_by (TupleAt ps at ∷ e ∷ []) take enter S s = refl
filter_by (LeafAt (Named x) at ∷ e ∷ d ∷ es) take enter S s = refl
filter_by (LeafAt l at ∷ e ∷ d ∷ es) take enter S s = refl
filter_by (ListAt fs at ∷ e ∷ d ∷ es) take enter S s = refl
filter_by (TupleAt ps at ∷ e ∷ d ∷ es) take enter S s = refl

abbrev pub folds : Take → Enter → Scope → List ℕ → Span → Tree × Tree → State → Answer Val
folds take enter S f at q t = and_then (take S q.0 t) (λ v u. and_then (take S q.1 u) (λ w z. fold_on enter S f at (v ∷ w ∷ []) z))

fold_items : (es : List Tree) (take : Take) (enter : Enter) (S : Scope) (s : State) → fold_form take enter S es s ≡ by (worded es) (λ p. by (two_of p.2) (folds take enter S p.0 p.1)) s
unfolding fold_form by
fold_items [] take enter S s = refl
fold_items (LeafAt (Named x) at ∷ []) take enter S s = refl
fold_items (LeafAt l at ∷ []) take enter S s = refl
fold_items (ListAt fs at ∷ []) take enter S s = refl
fold_items (TupleAt ps at ∷ []) take enter S s = refl
fold_items (LeafAt (Named x) at ∷ e ∷ []) take enter S s = refl
fold_items (LeafAt l at ∷ e ∷ []) take enter S s = refl
fold_items (ListAt fs at ∷ e ∷ []) take enter S s = refl
fold_items (TupleAt ps at ∷ e ∷ []) take enter S s = refl
fold_items (LeafAt (Named x) at ∷ e ∷ i ∷ []) take enter S s = refl
fold_items (LeafAt l at ∷ e ∷ i ∷ []) take enter S s = refl
fold_items (ListAt fs at ∷ e ∷ i ∷ []) take enter S s = refl
fold_items (TupleAt ps at ∷ e ∷ i ∷ []) take enter S s = refl
fold_items (LeafAt (Named x) at ∷ e ∷ i ∷ d ∷ es) take enter S s = refl
fold_items (LeafAt l at ∷ e ∷ i ∷ d ∷ es) take enter S s = refl
fold_items (ListAt fs at ∷ e ∷ i ∷ d ∷ es) take enter S s = refl
fold_items (TupleAt ps at ∷ e ∷ i ∷ d ∷ es) take enter S s = refl

two_are : (es : List Tree) (q : Tree × Tree) → Some q ≡ two_of es → es ≡ q.0 ∷ q.1 ∷ []
two_are [] q h = absurd cc
two_are (e ∷ []) q h = absurd cc
two_are (e ∷ i ∷ []) q h = let same : q ≡ (e, i) = cc in sym (ap (λ (p : Tree × Tree). p.0 ∷ p.1 ∷ []) same)
two_are (e ∷ i ∷ d ∷ es) q h = absurd cc

pub fold_by : (es : List Tree) (take : Take) (enter : Enter) (S : Scope) (s : State) (f : List ℕ) (at : Span) (fs : List Tree) (q : Tree × Tree) → Some (f, at, fs) ≡ worded es → Some q ≡ two_of fs → fold_form take enter S es s ≡ and_then (parts take S fs s) (fold_on enter S f at)
unfolding by
fold_by es take enter S s f at fs q h k =
    fold_items es take enter S s ∙ sym (ap (λ o. by o (λ p. by (two_of p.2) (folds take enter S p.0 p.1)) s) h)
    ∙ sym (ap (λ o. by o (folds take enter S f at) s) k)
    ∙ sym (ap (λ l. and_then (parts take S l s) (fold_on enter S f at)) (two_are fs q k) ∙ two_parts take S q.0 q.1 (fold_on enter S f at) s)

pub no_fold_name : (es : List Tree) (take : Take) (enter : Enter) (S : Scope) (s : State) → None ≡ worded es → fold_form take enter S es s ≡ wrong s
unfolding by
no_fold_name es take enter S s h = fold_items es take enter S s ∙ sym (ap (λ o. by o (λ p. by (two_of p.2) (folds take enter S p.0 p.1)) s) h)

pub no_fold_items : (es : List Tree) (take : Take) (enter : Enter) (S : Scope) (s : State) (f : List ℕ) (at : Span) (fs : List Tree) → Some (f, at, fs) ≡ worded es → None ≡ two_of fs → fold_form take enter S es s ≡ wrong s
unfolding by
no_fold_items es take enter S s f at fs h k =
    fold_items es take enter S s ∙ sym (ap (λ o. by o (λ p. by (two_of p.2) (folds take enter S p.0 p.1)) s) h) ∙ sym (ap (λ o. by o (folds take enter S f at) s) k)

-- what is given by name, or not
pub callee_so : (o : Option Callee) (f : CalleeOfCode) (go_on : Callee → State → Answer Val) (s : State) → some_callee (Some f) ≡ o → with_known o go_on s ≡ go_on (callee_seen f) s
callee_so o f go_on s h = sym (ap (λ p. with_known p go_on s) h)

pub no_callee : (o : Option Callee) (go_on : Callee → State → Answer Val) (s : State) → None ≡ o → with_known o go_on s ≡ wrong s
no_callee o go_on s h = sym (ap (λ p. with_known p go_on s) h)

pub two_folded : (enter : Enter) (S : Scope) (vs : List Val) (v w : Val) (f : Callee) (s : State) → vs ≡ v ∷ w ∷ [] → fold_values enter S vs f s ≡ fold_values enter S (v ∷ w ∷ []) f s
two_folded enter S vs v w f s h = ap (λ l. fold_values enter S l f s) h

pub not_folded : (enter : Enter) (S : Scope) (vs : List Val) (f : Callee) (s : State) → length vs ≢ 2 → fold_values enter S vs f s ≡ wrong s
not_folded enter S [] f s h = refl
not_folded enter S (v ∷ []) f s h = refl
not_folded enter S (v ∷ w ∷ []) f s h = absurd (h refl)
not_folded enter S (v ∷ w ∷ u ∷ vs) f s h = refl

-- ---- contract-call?

pub across_by : (es : List Tree) (take : Take) (enter : Enter) (S : Scope) (s : State) → contract_call_form take enter S es s ≡ by (called_of es) (λ p t. and_then (parts take S p.2 t) (across enter S p.0 p.1)) s
unfolding contract_call_form by
across_by [] take enter S s = refl
across_by (c ∷ []) take enter S s = refl
across_by (c ∷ LeafAt (Named x) at ∷ es) take enter S s = refl
across_by (c ∷ LeafAt l at ∷ es) take enter S s = refl
across_by (c ∷ ListAt fs at ∷ es) take enter S s = refl
across_by (c ∷ TupleAt ps at ∷ es) take enter S s = refl

pub entered_there : (o : Option Function) (f : FunctionOfCode) (enter : Enter) (S : Scope) (vs : List Val) (s : State) → some_function (Some f) ≡ o → with_known o (λ g. enter S (OwnFunction g) vs) s ≡ enter S (OwnFunction (function_seen f)) vs s
entered_there o f enter S vs s h = sym (ap (λ p. with_known p (λ g. enter S (OwnFunction g) vs) s) h)

pub not_entered : (o : Option Function) (enter : Enter) (S : Scope) (vs : List Val) (s : State) → None ≡ o → with_known o (λ g. enter S (OwnFunction g) vs) s ≡ wrong s
not_entered o enter S vs s h = sym (ap (λ p. with_known p (λ g. enter S (OwnFunction g) vs) s) h)

pub known_there : (o : Option Contract) (c : Contract) (go_on : Contract → State → Answer Val) (s : State) → Some c ≡ o → with_known o go_on s ≡ go_on c s
known_there o c go_on s h = sym (ap (λ p. with_known p go_on s) h)

pub not_known_there : (o : Option Contract) (go_on : Contract → State → Answer Val) (s : State) → None ≡ o → with_known o go_on s ≡ wrong s
not_known_there o go_on s h = sym (ap (λ p. with_known p go_on s) h)
