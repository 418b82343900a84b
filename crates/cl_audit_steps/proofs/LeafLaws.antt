-- Expressions of one token, and the ends of chains.
use Rattle.std.proofs.Common.{◌≡◌, ℕ, true, false, List, [], Option, Some, None, Result, Err, sym, ap, ◌∙◌}
use Rattle.cl_shapes.specs.declared.name.CostName.{CostName}
use Rattle.cl_values.specs.declared.refusal.ValueRefusal.{ValueRefusal}
use Rattle.cl_values.specs.Tree.{Tree as Val, BoolV}
use Rattle.cl_values.specs.Wire.{size_of}
use Rattle.cl_events.specs.State.{State}
use Rattle.cl_meaning.specs.Answers.{Answer, give, wrong, charged, with_known}
use Rattle.cl_meaning.specs.Limits.{Charge}
use Rattle.cl_meaning.specs.Scope.{Scope, Take, home}
use Rattle.cl_meaning.specs.Names.{standing, literal, keyword_form, known_form, keyword_or, name_form}
use Rattle.cl_meaning.specs.Deployed.{value_of, constant_of}
use Rattle.std.specs.Option.{option_or}
use Rattle.cl_forms.specs.declared.keyword.Keyword.{Keyword}
use Rattle.cl_forms.specs.Keywords.{keyword_of}
use Rattle.cl_shapes.specs.declared.name.CostName.TheVariants.{Lookup}
use Rattle.cl_meaning.specs.Control.{and_on, or_on}
use Rattle.cl_audit_steps.specs.declared.step.Chain.{Chain}
use Rattle.cl_audit_steps.specs.declared.step.Chain.TheVariants.{And, Or}
use Rattle.cl_audit_steps.specs.Steps.{behind, chain}

pub stands : (cost : CostName) (v : Val) (c : Charge) (s : State) → c ≡ (cost, size_of v) → standing cost v s ≡ behind (Some c) (give v s)
unfolding standing behind
stands cost v c s h = sym (ap (λ (d : Charge). charged d.0 d.1 (give v s)) h)

pub no_literal : (o : Result Val ValueRefusal) (why : ValueRefusal) (s : State) → o ≡ Err why → literal o s ≡ wrong s
no_literal o why s h = ap (λ p. literal p s) h

pub no_charge : (f a : Answer Val) → f ≡ a → f ≡ behind None a
unfolding behind
no_charge f a h = h

pub and_end : (k : Chain) (v : Val) (take : Take) (S : Scope) (s : State) → k ≡ And → v ≡ BoolV true → chain k take S [] s ≡ give v s
unfolding and_on
and_end k v take S s h same = ap (λ l. chain l take S [] s) h ∙ sym (ap (λ w. give w s) same)

pub or_end : (k : Chain) (v : Val) (take : Take) (S : Scope) (s : State) → k ≡ Or → v ≡ BoolV false → chain k take S [] s ≡ give v s
unfolding or_on
or_end k v take S s h same = ap (λ l. chain l take S [] s) h ∙ sym (ap (λ w. give w s) same)

-- ---- names

pub value_known : (o : Option Val) (v : Val) (s : State) → Some v ≡ o → with_known o (standing Lookup) s ≡ standing Lookup v s
value_known o v s h = ap (λ p. with_known p (standing Lookup) s) (sym h)

pub value_unknown : (o : Option Val) (s : State) → None ≡ o → with_known o (standing Lookup) s ≡ wrong s
value_unknown o s h = ap (λ p. with_known p (standing Lookup) s) (sym h)

pub bound_known : (S : Scope) (x : List ℕ) (v : Val) (s : State) → Some v ≡ value_of x S.bound → known_form S x s ≡ standing Lookup v s
bound_known S x v s h = ap (λ o. with_known (option_or o (constant_of x (home S))) (standing Lookup) s) (sym h)

pub not_bound : (S : Scope) (x : List ℕ) (s : State) → None ≡ value_of x S.bound → known_form S x s ≡ with_known (constant_of x (home S)) (standing Lookup) s
not_bound S x s h = ap (λ o. with_known (option_or o (constant_of x (home S))) (standing Lookup) s) (sym h)

pub keyword_named : (S : Scope) (x : List ℕ) (k : Keyword) (s : State) → Some k ≡ keyword_of x → name_form S x s ≡ keyword_form S k s
unfolding name_form
keyword_named S x k s h = ap (λ o. keyword_or S o (known_form S x) s) (sym h)

pub no_keyword : (S : Scope) (x : List ℕ) (s : State) → None ≡ keyword_of x → name_form S x s ≡ known_form S x s
unfolding name_form
no_keyword S x s h = ap (λ o. keyword_or S o (known_form S x) s) (sym h)
