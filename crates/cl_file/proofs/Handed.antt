-- What is handed on.
use Rattle.std.proofs.Common.{Result, Ok, Err, IfOk}
use Rattle.cl_types.specs.Fault.{IfRefused, IsRefusal}
use Rattle.cl_types.specs.declared.fault.Fault.{Fault}
use Rattle.cl_types.specs.declared.fault.Fault.TheVariants.{Refused, NoMemory}
use Rattle.cl_types.proofs.Faults.{refused_so}

pub ok_so : {T R : Type 0} {P Q : T → Type 0} (result : Result T (Fault R)) → ((t : T) → P t → Q t) → IfOk result P → IfOk result Q
ok_so (Ok t) so h = so t h
ok_so (Err x) so h = tt

pub refuses_so : {T R : Type 0} {P Q : R → Type 0} (result : Result T (Fault R)) → ((r : R) → P r → Q r) → IfRefused result P → IfRefused result Q
refuses_so (Ok t) so h = tt
refuses_so {P = P} {Q = Q} (Err x) so h = refused_so x P Q so h

-- what holds for each choice of something holds for all of them at once
pub ok_each : {V T R : Type 0} (P : V → T → Type 0) (result : Result T (Fault R)) → ((v : V) → IfOk result (P v)) → IfOk result (λ t. (v : V) → P v t)
ok_each P (Ok t) h = h
ok_each P (Err x) h = tt

refusal_each : {V R : Type 0} (P : V → R → Type 0) (fault : Fault R) → ((v : V) → IsRefusal fault (P v)) → IsRefusal fault (λ r. (v : V) → P v r)
refusal_each P (Refused r) h = h
refusal_each P NoMemory h = tt

pub refuses_each : {V T R : Type 0} (P : V → R → Type 0) (result : Result T (Fault R)) → ((v : V) → IfRefused result (P v)) → IfRefused result (λ r. (v : V) → P v r)
refuses_each P (Ok t) h = tt
refuses_each P (Err x) h = refusal_each P x h
