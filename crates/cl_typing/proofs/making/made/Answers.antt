use Rattle.cl_types.specs.Types.{size_of}
use Rattle.cl_types.specs.Sized.{everywhere, is_within}
use Rattle.cl_types.proofs.Within.{some_where, none_where}
use Rattle.cl_typing.proofs.MadeTypes.{made_holds, made_large, made_deep}
use Rattle.cl_typing.proofs.making.made.Goals as goal

pub returns-in_default : goal.returns-in_default
returns-in_default c = made_large c.args.ty (none_where (everywhere is_within c.args.ty) (size_of c.args.ty) c.in_default.ensures.counted)

pub returns-in-Ok : goal.returns-in-Ok
returns-in-Ok c = made_holds c.args.ty c.in-Ok.ty c.in-Some.ensures.named c.requires.keys (some_where (everywhere is_within c.args.ty) c.in-Some.field-0 (size_of c.args.ty) c.in-Some.ensures.counted).0 c.in-Ok.ensures.found

pub returns-in-Err-Refused : goal.returns-in-Err-Refused
returns-in-Err-Refused c = made_deep c.args.ty c.in-Err-Refused.field-0-0 c.in-Some.ensures.named c.requires.keys (some_where (everywhere is_within c.args.ty) c.in-Some.field-0 (size_of c.args.ty) c.in-Some.ensures.counted).0 (rw c.in-Err-Refused.field-0-is at c.in-Err-Refused.ensures.broken)
