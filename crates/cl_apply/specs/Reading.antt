-- The natives whose values are read off their arguments: nothing is moved, and no memory is taken.
use Rattle.std.specs.Prelude.{Bool, true, false}
use Rattle.cl_values.specs.declared.native.Native.{Native}
use Rattle.cl_values.specs.declared.native.Native.TheVariants.{Sha256, Sha512Of256, Sha512, MakeSome, MakeOk, MakeErr, DefaultTo, UnwrapPanic, UnwrapErrPanic, MakeList, Merge, Append, Concat, ElementAt, IndexOf, EntryAt, PlaceOf, Slice, ReplaceAt, ToConsensusBuff}

abbrev pub is_read : Native → Bool
is_read Sha256 = false
is_read Sha512Of256 = false
is_read Sha512 = false
is_read MakeSome = false
is_read MakeOk = false
is_read MakeErr = false
is_read DefaultTo = false
is_read UnwrapPanic = false
is_read UnwrapErrPanic = false
is_read MakeList = false
is_read Merge = false
is_read Append = false
is_read Concat = false
is_read ElementAt = false
is_read IndexOf = false
is_read EntryAt = false
is_read PlaceOf = false
is_read Slice = false
is_read ReplaceAt = false
is_read ToConsensusBuff = false
is_read native = true
