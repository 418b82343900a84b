-- The forms that decide which of their parts are evaluated, by their items.
use Rattle.std.proofs.Common.{◌≡◌, ℕ, suc, Bool, true, false, List, [], ◌∷◌, length, Option, Some, None, Result, Ok, Err, refl, sym, ap, ◌∙◌, arith}
use Rattle.std.specs.Prelude.{◌==◌}
use Rattle.std.proofs.lemmas.Bool.{eqb-true}
use Rattle.cl_shapes.specs.declared.name.CostName.TheVariants.{Control}
use Rattle.cl_sexpr.specs.Tree.{Tree, LeafAt, ListAt, TupleAt}
use Rattle.cl_values.specs.Tree.{Tree as Val, BoolV}
use Rattle.cl_events.specs.State.{State}
use Rattle.cl_meaning.specs.Answers.{Answer, give, wrong, charged, and_then}
use Rattle.cl_meaning.specs.Limits.{Charge}
use Rattle.cl_meaning.specs.Scope.{Scope, Take, Enter, parts, in_frame, as_contract}
use Rattle.cl_audit_steps.specs.declared.step.Start.{Start}
use Rattle.cl_audit_steps.specs.declared.step.Part.TheVariants.{Ends}
use Rattle.cl_audit_steps.specs.declared.step.Last.TheVariants.{Wrong}
use Rattle.cl_audit_steps.specs.Steps.{behind, start_step, Form, IsStart}
use Rattle.cl_meaning.specs.Control.{if_form, begin_form, last_of, choice, and_on, or_on, and_form, or_form, throwing, wanted_part, err_part, asserts_form, unwrap_form, unwrap_err_form, tried, try_form, let_in, let_form, match_taken, match_form, as_contract_form}
use Rattle.cl_audit_steps.specs.Items.{one_of, two_of, three_of, listed}
use Rattle.cl_forms.specs.Shapes.{MatchParts, match_of}

-- a form whose items are taken apart, and wrong where they can't be
unfoldable pub by : {A : Type 0} → Option A → (A → State → Answer Val) → State → Answer Val
by None form s = wrong s
by (Some p) form s = form p s

pub found : {A : Type 0} (o : Option A) (p : A) (form : A → State → Answer Val) (s : State) → Some p ≡ o → by o form s ≡ form p s
unfolding by
found o p form s h = ap (λ q. by q form s) (sym h)

pub absent : {A : Type 0} (o : Option A) (form : A → State → Answer Val) (s : State) → None ≡ o → by o form s ≡ wrong s
unfolding by
absent o form s h = ap (λ q. by q form s) (sym h)

-- a form whose charge is made
pub begun : (f a : Answer Val) (c : Option Charge) (n : ℕ) → f ≡ charged Control n a → c ≡ Some (Control, n) → f ≡ behind c a
unfolding behind
begun f a c n h same = h ∙ sym (ap (λ d. behind d a) same)

-- a form that is wrong
pub not_begun : (f : Answer Val) (b : Start) (take : Take) (enter : Enter) (S : Scope) (s : State) → f ≡ wrong s → b ≡ record { charge = None; part = Ends Wrong } → f ≡ start_step take enter S b s
unfolding behind
not_begun f b take enter S s h same = h ∙ sym (ap (λ d. start_step take enter S d s) same)

-- the same form in other words
pub starts_eq : {E : Type 0} (S : Scope) (f g : Form) (r : Result Start E) → ((take : Take) (enter : Enter) (s : State) → f take enter s ≡ g take enter s) → IsStart S g r → IsStart S f r
starts_eq S f g (Ok b) h is = λ take enter s. h take enter s ∙ is take enter s
starts_eq S f g (Err e) h is = tt

pub if_by : (es : List Tree) (take : Take) (S : Scope) (s : State) → if_form take S es s ≡ by (three_of es) (λ p s. charged Control 3 (and_then (take S p.0 s) (λ v t. choice v (take S p.1) (take S p.2) t))) s
unfolding if_form by
if_by [] take S s = refl
if_by (a ∷ []) take S s = refl
if_by (a ∷ b ∷ []) take S s = refl
if_by (a ∷ b ∷ c ∷ []) take S s = refl
if_by (a ∷ b ∷ c ∷ d ∷ es) take S s = refl

pub asserts_by : (es : List Tree) (take : Take) (S : Scope) (s : State) → asserts_form take S es s ≡ by (two_of es) (λ p s. charged Control 2 (and_then (take S p.0 s) (λ v t. choice v (give (BoolV true)) (throwing take S p.1) t))) s
unfolding asserts_form by
asserts_by [] take S s = refl
asserts_by (a ∷ []) take S s = refl
asserts_by (a ∷ b ∷ []) take S s = refl
asserts_by (a ∷ b ∷ c ∷ es) take S s = refl

pub unwrap_by : (es : List Tree) (take : Take) (S : Scope) (s : State) → unwrap_form take S es s ≡ by (two_of es) (λ p s. charged Control 2 (and_then (take S p.0 s) (wanted_part (throwing take S p.1)))) s
unfolding unwrap_form by
unwrap_by [] take S s = refl
unwrap_by (a ∷ []) take S s = refl
unwrap_by (a ∷ b ∷ []) take S s = refl
unwrap_by (a ∷ b ∷ c ∷ es) take S s = refl

pub unwrap_err_by : (es : List Tree) (take : Take) (S : Scope) (s : State) → unwrap_err_form take S es s ≡ by (two_of es) (λ p s. charged Control 2 (and_then (take S p.0 s) (err_part (throwing take S p.1)))) s
unfolding unwrap_err_form by
unwrap_err_by [] take S s = refl
unwrap_err_by (a ∷ []) take S s = refl
unwrap_err_by (a ∷ b ∷ []) take S s = refl
unwrap_err_by (a ∷ b ∷ c ∷ es) take S s = refl

pub try_by : (es : List Tree) (take : Take) (S : Scope) (s : State) → try_form take S es s ≡ by (one_of es) (λ e s. charged Control 1 (and_then (take S e s) tried)) s
unfolding try_form by
try_by [] take S s = refl
try_by (a ∷ []) take S s = refl
try_by (a ∷ b ∷ es) take S s = refl

pub begin_is : (es : List Tree) (take : Take) (S : Scope) (s : State) → begin_form take S es s ≡ charged Control (length es) (and_then (parts take S es s) last_of)
unfolding begin_form
begin_is es take S s = refl

abbrev pub is_nil : List Tree → Bool
is_nil [] = true
is_nil (e ∷ es) = false

some_length : (n : ℕ) (b : Bool) → (suc n == 0) ≡ b → b ≡ false
some_length n false h = refl
some_length n true h =
    let none : suc n ≡ 0 = eqb-true (suc n) 0 h in
    absurd (omega (arith, none))

pub nil_is : (es : List Tree) → (length es == 0) ≡ is_nil es
nil_is [] = refl
nil_is (e ∷ es) = some_length (length es) (suc (length es) == 0) refl

empty_is : (es : List Tree) → is_nil es ≡ true → es ≡ []
empty_is [] h = refl
empty_is (e ∷ es) h = absurd cc

pub and_none : (es : List Tree) (take : Take) (S : Scope) (s : State) → (length es == 0) ≡ true → and_form take S es s ≡ wrong s
unfolding and_form
and_none es take S s h = ap (λ xs. and_form take S xs s) (empty_is es (sym (nil_is es) ∙ h))

and_some : (es : List Tree) (take : Take) (S : Scope) (s : State) → is_nil es ≡ false → and_form take S es s ≡ charged Control (length es) (and_on take S es s)
unfolding and_form
and_some [] take S s h = absurd cc
and_some (e ∷ es) take S s h = refl

pub and_is : (es : List Tree) (take : Take) (S : Scope) (s : State) → (length es == 0) ≡ false → and_form take S es s ≡ charged Control (length es) (and_on take S es s)
and_is es take S s h = and_some es take S s (sym (nil_is es) ∙ h)

pub or_none : (es : List Tree) (take : Take) (S : Scope) (s : State) → (length es == 0) ≡ true → or_form take S es s ≡ wrong s
unfolding or_form
or_none es take S s h = ap (λ xs. or_form take S xs s) (empty_is es (sym (nil_is es) ∙ h))

or_some : (es : List Tree) (take : Take) (S : Scope) (s : State) → is_nil es ≡ false → or_form take S es s ≡ charged Control (length es) (or_on take S es s)
unfolding or_form
or_some [] take S s h = absurd cc
or_some (e ∷ es) take S s h = refl

pub or_is : (es : List Tree) (take : Take) (S : Scope) (s : State) → (length es == 0) ≡ false → or_form take S es s ≡ charged Control (length es) (or_on take S es s)
or_is es take S s h = or_some es take S s (sym (nil_is es) ∙ h)

pub as_contract_by : (es : List Tree) (take : Take) (S : Scope) (s : State) → as_contract_form take S es s ≡ by (one_of es) (λ e s. charged Control 1 (take (in_frame (as_contract S.frame) S) e s)) s
unfolding as_contract_form by
as_contract_by [] take S s = refl
as_contract_by (a ∷ []) take S s = refl
as_contract_by (a ∷ b ∷ es) take S s = refl

pub let_by : (es : List Tree) (take : Take) (S : Scope) (s : State) → let_form take S es s ≡ by (listed es) (λ p s. charged Control (length es) (let_in take p.1 S p.0 s)) s
unfolding let_form by
let_by [] take S s = refl
let_by (LeafAt l at ∷ es) take S s = refl
let_by (ListAt bs at ∷ es) take S s = refl
let_by (TupleAt ps at ∷ es) take S s = refl

pub match_is : (es : List Tree) (m : Option MatchParts) (take : Take) (S : Scope) (s : State) → m ≡ match_of es → match_form take S es s ≡ match_taken take S m s
unfolding match_form
match_is es m take S s h = ap (λ o. match_taken take S o s) (sym h)
