-- What holds everywhere in a type holds of the type itself.
use Rattle.std.proofs.Common.{◌≡◌, ◌&&◌, Bool, true}
use Rattle.std.specs.Cmp.{first_so}
use Rattle.cl_types.specs.Types.{PlainType, NoType, IntType, UintType, BoolType, PrincipalType, BuffType, AsciiType, Utf8Type, ListType, TupleType, OptionalType, ResponseType}
use Rattle.cl_types.specs.Sized.{everywhere, everywhere_in}

pub here : (test : PlainType → Bool) (t : PlainType) → everywhere test t ≡ true → test t ≡ true
here test (ListType n t) h = first_so (test (ListType n t)) (everywhere test t) h
here test (TupleType fs) h = first_so (test (TupleType fs)) (everywhere_in test fs) h
here test (OptionalType t) h = first_so (test (OptionalType t)) (everywhere test t) h
here test (ResponseType t e) h = first_so (test (ResponseType t e)) (everywhere test t) (first_so (test (ResponseType t e) && everywhere test t) (everywhere test e) h)
here test NoType h = h
here test IntType h = h
here test UintType h = h
here test BoolType h = h
here test PrincipalType h = h
here test (BuffType n) h = h
here test (AsciiType n) h = h
here test (Utf8Type n) h = h
