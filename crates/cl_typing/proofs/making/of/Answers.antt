use Rattle.cl_types.specs.TypeView.{plain_of}
use Rattle.cl_typing.proofs.MadeTypes.{fit_sized}
use Rattle.cl_typing.proofs.making.of.Goals as goal

pub fit-requires : goal.fit-requires
fit-requires c = fit_sized (plain_of c.args.kind) c.requires
