-- What natives may come to at values of their types.
use Rattle.std.specs.Prelude.{◌≡◌, Bool, true, false}
use Rattle.cl_types.specs.Types.{PlainType}
use Rattle.cl_values.specs.Computed.{Computed, Gives, Fails, Panics, Undefined}
use Rattle.cl_values.specs.declared.native.Native.{Native}
use Rattle.cl_values.specs.declared.native.Native.TheVariants.{Add, Subtract, Multiply, Divide, Modulo, Power, SquareRoot, Log2, ToInt, ToUint, UnwrapPanic, UnwrapErrPanic}
use Rattle.cl_values.specs.Typed.{IsOf}

-- a value of the type; an abort of arithmetic or a panic, where there may be one; and never undefined
abbrev pub EndsAs : (fails panics : Bool) → PlainType → Computed → Type 0
EndsAs fails panics t (Gives v) = IsOf v t
EndsAs fails panics t (Fails why) = fails ≡ true
EndsAs fails panics t Panics = panics ≡ true
EndsAs fails panics t Undefined = ⊥

-- the natives that may abort by arithmetic
abbrev pub may_fail : Native → Bool
may_fail Add = true
may_fail Subtract = true
may_fail Multiply = true
may_fail Divide = true
may_fail Modulo = true
may_fail Power = true
may_fail SquareRoot = true
may_fail Log2 = true
may_fail ToInt = true
may_fail ToUint = true
may_fail n = false

-- the natives that may panic
abbrev pub may_panic : Native → Bool
may_panic UnwrapPanic = true
may_panic UnwrapErrPanic = true
may_panic n = false
