-- What a call that takes memory answers.
use Rattle.std.specs.Prelude.{Result, IfErr}
use Rattle.cl_types.specs.declared.fault.Fault.{Fault}
use Rattle.cl_types.specs.declared.fault.Fault.TheVariants.{Refused, NoMemory}

-- the fact on the refusal, and nothing where memory ran out
abbrev pub IsRefusal : {R : Type 0} → Fault R → (R → Type 0) → Type 0
IsRefusal (Refused r) P = P r
IsRefusal NoMemory P = Unit {0}

-- the fact on the refusal, if the call was refused
abbrev pub IfRefused : {T R : Type 0} → Result T (Fault R) → (R → Type 0) → Type 0
IfRefused result P = IfErr result (λ fault. IsRefusal fault P)
