use Rattle.std.specs.Prelude.{IfOk}
use Rattle.std.proofs.Common.{Result, Ok, Err}
use Rattle.cl_types.specs.Fault.{IfRefused}
use Rattle.cl_types.specs.declared.fault.Fault.{Fault}
use Rattle.cl_types.specs.declared.fault.Fault.TheVariants.{Refused, NoMemory as OutOfMemory}
use Rattle.cl_nodes.proofs.Facts.{ok_also}
use Rattle.cl_nodes.proofs.contracts.Contracts.price.Goals as goal

-- two facts on one value
both : {A E : Type 0} (r : Result A E) (P Q : A → Type 0) → IfOk r P → IfOk r Q → IfOk r (λ a. P a × Q a)
both (Ok a) P Q p q = (p, q)
both (Err e) P Q p q = tt

-- and on one refusal
both_refused : {A R : Type 0} (r : Result A (Fault R)) (P Q S : R → Type 0) → ((x : R) → P x → Q x → S x) → IfRefused r P → IfRefused r Q → IfRefused r S
both_refused (Ok a) P Q S go p q = tt
both_refused (Err (Refused x)) P Q S go p q = go x p q
both_refused (Err OutOfMemory) P Q S go p q = tt

pub returns-clause-priced : goal.returns-clause-priced
returns-clause-priced c =
    let d = c.args.self.now.deployed in
    ok_also c.bound.result _ _
    (λ priced h. record {
      bounded = record { found = λ known standing defined stands. (h.0.0 d known defined c.requires.bounds_are standing stands, h.0.1 d known defined c.requires.bounds_are standing stands) };
      kept = h.1 d c.requires.bounds_are;
    })
    (both c.bound.result _ _ (both c.bound.result _ _ c.bound.ensures.bounded c.bound.ensures.told) c.bound.ensures.kept)

pub returns-clause-broken : goal.returns-clause-broken
returns-clause-broken c =
    let d = c.args.self.now.deployed in
    both_refused c.bound.result _ _ _
    (λ refusal above none. record {
      dimension = above.0;
      rule = above.1;
      names = none;
      first = λ known standing defined stands. above.2 d known defined c.requires.bounds_are standing stands;
    })
    c.bound.ensures.broken c.bound.ensures.names
