-- What holds of an answer holds of it by what follows from it.
use Rattle.std.specs.Prelude.{Result, Ok, Err, IfOk}
use Rattle.cl_types.specs.Fault.{IfRefused}
use Rattle.cl_types.specs.declared.fault.Fault.{Fault}
use Rattle.cl_types.specs.declared.fault.Fault.TheVariants.{Refused, NoMemory}

pub ok_so : {T E : Type 0} (P Q : T → Type 0) (result : Result T E) → ((x : T) → P x → Q x) → IfOk result P → IfOk result Q
ok_so P Q (Ok x) f h = f x h
ok_so P Q (Err e) f h = tt

pub refused_so : {T R : Type 0} (P Q : R → Type 0) (result : Result T (Fault R)) → ((r : R) → P r → Q r) → IfRefused result P → IfRefused result Q
refused_so P Q (Ok x) f h = tt
refused_so P Q (Err (Refused r)) f h = f r h
refused_so P Q (Err NoMemory) f h = tt
