-- What a contract sees of a type.
use Rattle.cl_types.specs.declared.ty.TyKind.{TyKind}
use Rattle.cl_types.specs.declared.ty.TyKind.TheVariants.{NoType as NoKind, Int, Uint, Bool, Principal, Buff, Ascii, Utf8, List, Tuple, Optional, Response}
use Rattle.cl_types.specs.Types.{PlainType, NoType, IntType, UintType, BoolType, PrincipalType, BuffType, AsciiType, Utf8Type, ListType, TupleType, OptionalType, ResponseType, fields}

abbrev pub plain_of : TyKind → PlainType
plain_of NoKind = NoType
plain_of Int = IntType
plain_of Uint = UintType
plain_of Bool = BoolType
plain_of Principal = PrincipalType
plain_of (Buff n) = BuffType n
plain_of (Ascii n) = AsciiType n
plain_of (Utf8 n) = Utf8Type n
plain_of (List n t) = ListType n t.value
plain_of (Tuple fs) = TupleType (fields fs.items)
plain_of (Optional t) = OptionalType t.value
plain_of (Response t e) = ResponseType t.value e.value
