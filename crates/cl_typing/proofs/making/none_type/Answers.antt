use Rattle.std.proofs.Common.{refl}
use Rattle.cl_types.specs.Types.{NoType, OptionalType}
use Rattle.cl_typing.proofs.MadeTypes.{fit_sized}
use Rattle.cl_typing.proofs.making.none_type.Goals as goal

pub fit-requires : goal.fit-requires
fit-requires c = rw c.in_ok-part.ensures (fit_sized (OptionalType NoType) refl)
