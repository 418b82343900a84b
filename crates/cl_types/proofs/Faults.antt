-- What holds of a refusal, handed on.
use Rattle.std.proofs.Common.{◌≡◌, Result, Ok, Err, sym, subst}
use Rattle.std.specs.Result.{IsErrAnd}
use Rattle.cl_types.specs.Fault.{IsRefusal, IfRefused}
use Rattle.cl_types.specs.declared.fault.Fault.{Fault}
use Rattle.cl_types.specs.declared.fault.Fault.TheVariants.{Refused, NoMemory}

-- one fact gives another
pub refused_so : {R : Type 0} (fault : Fault R) (P Q : R → Type 0) → ((r : R) → P r → Q r) → IsRefusal fault P → IsRefusal fault Q
refused_so (Refused r) P Q so h = so r h
refused_so NoMemory P Q so h = tt

-- a fault that `?` hands on has the fact that its call gave
pub passes : {T R : Type 0} {P Q : R → Type 0} (result : Result T (Fault R)) (fault : Fault R) → ((r : R) → P r → Q r) → IsErrAnd result (λ x. x ≡ fault) → IsRefusal fault P → IfRefused result Q
passes (Ok t) fault so e h = absurd e
passes {P = P} {Q = Q} (Err x) fault so e h = refused_so x P Q so (subst (λ f. IsRefusal f P) (sym e) h)
