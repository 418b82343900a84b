-- What holds of natives on values at values of their types.
use Rattle.std.specs.Prelude.{◌≡◌, ◌≤◌, true, List, [], length}
use Rattle.cl_types.specs.Types.{PlainType, size_of as type_size}
use Rattle.cl_values.specs.declared.native.Native.{Native}
use Rattle.cl_values.specs.Tree.{Tree}
use Rattle.cl_values.specs.Wire.{size_of}
use Rattle.cl_values.specs.Computed.{Gives}
use Rattle.cl_values.specs.Natives.{native_value}
use Rattle.cl_values.specs.Typed.{AreOf}
use Rattle.cl_forms.specs.declared.head.Head.TheVariants.{OnValues}
use Rattle.cl_forms.specs.Heads.{takes, row_of}
use Rattle.cl_rules.specs.Faults.{type_rules}
use Rattle.cl_rules.specs.NativeTypes.{native_type}
use Rattle.cl_rules.specs.Verdicts.{number_at}
use Rattle.cl_meaning.specs.Values.{number_of}
use Rattle.cl_native_sound.specs.Ending.{EndsAs, may_fail, may_panic}

-- as many values as a native takes, of types at which its row breaks no rule
pub record AreFit (n : Native) (ts : List PlainType) (vs : List Tree) : Type 0 where
  pub count : takes (row_of (OnValues n)).arity (length ts) ≡ true
  pub typed : AreOf vs ts
  pub clean : type_rules (native_type n ts).faults ≡ []

-- a native gives a value of the row's type, or aborts as it may
abbrev pub NativesEnd : Type 0
NativesEnd = (n : Native) (ts : List PlainType) (vs : List Tree) → AreFit n ts vs → EndsAs (may_fail n) (may_panic n) (native_type n ts).type (native_value n vs)

-- what it gives is no larger than the row's type
abbrev pub NativesAreSmall : Type 0
NativesAreSmall = (n : Native) (ts : List PlainType) (vs : List Tree) (v : Tree) → AreFit n ts vs → native_value n vs ≡ Gives v → size_of v ≤ type_size (native_type n ts).type

-- it is charged by no greater a number than at the types
abbrev pub NumbersAreWithin : Type 0
NumbersAreWithin = (n : Native) (ts : List PlainType) (vs : List Tree) → AreOf vs ts → number_of (row_of (OnValues n)).cost vs ≤ number_at (row_of (OnValues n)).cost ts
