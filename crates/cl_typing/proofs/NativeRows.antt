-- Rows at numbers of arguments that they don't take.
use Rattle.std.proofs.Common.{◌≡◌, false, List, [], ◌∷◌, None, Result, refl, sym, subst}
use Rattle.cl_types.specs.Types.{PlainType, NoType}
use Rattle.cl_values.specs.declared.native.Native.{Native}
use Rattle.cl_values.specs.declared.native.Native.TheVariants.{Add, Subtract, Multiply, Divide, Modulo, Power, Xor, SquareRoot, Log2, Less, AtMost, Greater, AtLeast, Same, MakeList, ToInt, ToUint, Not, Sha256, Sha512, Sha512Of256, MakeSome, MakeOk, MakeErr, IsSome, IsNone, IsOk, IsErr, UnwrapPanic, UnwrapErrPanic, Len, DefaultTo, Merge, Append, Concat, ElementAt, IndexOf, ContentLess, ContentAtMost, ContentGreater, ContentAtLeast, BitAnd, BitOr, BitXor, BitNot, ShiftLeft, ShiftRight, Slice, ReplaceAt, EntryAt, PlaceOf, ToConsensusBuff}
use Rattle.cl_types.specs.declared.fault.Fault.{Fault}
use Rattle.cl_sexpr.specs.declared.rule.Rule.{Rule}
use Rattle.cl_rules.specs.NativeTypes.{Ruled, fine, one, two, three, native_type}
use Rattle.cl_typing.specs.Verdicts.{Rules, one_of, two_of, three_of, is_list_row}

pub one_at : (row : PlainType → Ruled) (ts : List PlainType) (t : PlainType) (r : Result PlainType (Fault Rule)) → ts ≡ t ∷ [] → Rules (row t) r → Rules (one row ts) r
one_at row ts t r is h = subst (λ (us : List PlainType). Rules (one row us) r) (sym is) h

pub one_else : (row : PlainType → Ruled) (ts : List PlainType) → one_of ts ≡ None → one row ts ≡ fine NoType
one_else row [] h = refl
one_else row (t ∷ []) h = absurd cc
one_else row (t ∷ u ∷ ts) h = refl

two_else : (row : PlainType → PlainType → Ruled) (ts : List PlainType) → two_of ts ≡ None → two row ts ≡ fine NoType
two_else row [] h = refl
two_else row (t ∷ []) h = refl
two_else row (t ∷ u ∷ []) h = absurd cc
two_else row (t ∷ u ∷ v ∷ ts) h = refl

three_else : (row : PlainType → PlainType → PlainType → Ruled) (ts : List PlainType) → three_of ts ≡ None → three row ts ≡ fine NoType
three_else row [] h = refl
three_else row (t ∷ []) h = refl
three_else row (t ∷ u ∷ []) h = refl
three_else row (t ∷ u ∷ v ∷ []) h = absurd cc
three_else row (t ∷ u ∷ v ∷ w ∷ ts) h = refl

pub no_row : (native : Native) (ts : List PlainType) → is_list_row native ≡ false → one_of ts ≡ None → two_of ts ≡ None → three_of ts ≡ None → native_type native ts ≡ fine NoType
unfolding native_type
no_row Add ts l h k m = absurd cc
no_row Subtract ts l h k m = absurd cc
no_row Multiply ts l h k m = absurd cc
no_row Divide ts l h k m = absurd cc
no_row Modulo ts l h k m = absurd cc
no_row Power ts l h k m = absurd cc
no_row Xor ts l h k m = absurd cc
no_row SquareRoot ts l h k m = absurd cc
no_row Log2 ts l h k m = absurd cc
no_row Less ts l h k m = absurd cc
no_row AtMost ts l h k m = absurd cc
no_row Greater ts l h k m = absurd cc
no_row AtLeast ts l h k m = absurd cc
no_row Same ts l h k m = absurd cc
no_row MakeList ts l h k m = absurd cc
no_row ToInt ts l h k m = one_else _ ts h
no_row ToUint ts l h k m = one_else _ ts h
no_row Not ts l h k m = one_else _ ts h
no_row Sha256 ts l h k m = one_else _ ts h
no_row Sha512 ts l h k m = one_else _ ts h
no_row Sha512Of256 ts l h k m = one_else _ ts h
no_row MakeSome ts l h k m = one_else _ ts h
no_row MakeOk ts l h k m = one_else _ ts h
no_row MakeErr ts l h k m = one_else _ ts h
no_row IsSome ts l h k m = one_else _ ts h
no_row IsNone ts l h k m = one_else _ ts h
no_row IsOk ts l h k m = one_else _ ts h
no_row IsErr ts l h k m = one_else _ ts h
no_row UnwrapPanic ts l h k m = one_else _ ts h
no_row UnwrapErrPanic ts l h k m = one_else _ ts h
no_row Len ts l h k m = one_else _ ts h
no_row DefaultTo ts l h k m = two_else _ ts k
no_row Merge ts l h k m = two_else _ ts k
no_row Append ts l h k m = two_else _ ts k
no_row Concat ts l h k m = two_else _ ts k
no_row ElementAt ts l h k m = two_else _ ts k
no_row IndexOf ts l h k m = two_else _ ts k
no_row BitAnd ts l h k m = absurd cc
no_row BitOr ts l h k m = absurd cc
no_row BitXor ts l h k m = absurd cc
no_row BitNot ts l h k m = absurd cc
no_row ToConsensusBuff ts l h k m = one_else _ ts h
no_row ContentLess ts l h k m = two_else _ ts k
no_row ContentAtMost ts l h k m = two_else _ ts k
no_row ContentGreater ts l h k m = two_else _ ts k
no_row ContentAtLeast ts l h k m = two_else _ ts k
no_row ShiftLeft ts l h k m = two_else _ ts k
no_row ShiftRight ts l h k m = two_else _ ts k
no_row EntryAt ts l h k m = two_else _ ts k
no_row PlaceOf ts l h k m = two_else _ ts k
no_row Slice ts l h k m = three_else _ ts m
no_row ReplaceAt ts l h k m = three_else _ ts m
