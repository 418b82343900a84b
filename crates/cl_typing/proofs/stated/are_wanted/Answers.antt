use Rattle.cl_typing.specs.Stated.{wanted_of}
use Rattle.cl_typing.proofs.StatedRows.{unlike_lists}
use Rattle.cl_typing.proofs.stated.are_wanted.Goals as goal

pub returns-then-wanted-types : goal.returns-then-wanted-types
returns-then-wanted-types c = unlike_lists wanted_of (λ t. t.now) c.args.wanted.now c.args.types.now c.if-wanted-types.true
