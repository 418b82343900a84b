-- A native on values is charged by no greater a number than at the types of its values.
use Rattle.std.proofs.Common.{◌≡◌, suc, ◌≤◌, List, [], ◌∷◌, length, refl, ap, arith}
use Rattle.cl_types.specs.Types.{PlainType, size_of as type_size}
use Rattle.cl_values.specs.Tree.{Tree}
use Rattle.cl_values.specs.Wire.{size_of}
use Rattle.cl_values.specs.Typed.{AreOf}
use Rattle.cl_values.proofs.OfTypes.{no_larger}
use Rattle.cl_values.specs.declared.native.Native.{Native}
use Rattle.cl_values.specs.declared.native.Native.TheVariants.{Add, Subtract, Multiply, Divide, Modulo, Power, Xor, SquareRoot, Log2, ToInt, ToUint, Not, BitAnd, BitOr, BitXor, BitNot, ShiftLeft, ShiftRight}
use Rattle.cl_forms.specs.declared.head.Head.TheVariants.{OnValues}
use Rattle.cl_forms.specs.Heads.{row_of}
use Rattle.cl_rules.specs.Verdicts.{number_at, sizes_of}
use Rattle.cl_meaning.specs.Scope.{sizes}
use Rattle.cl_meaning.specs.Values.{number_of}

pub as_many : (ts : List PlainType) (vs : List Tree) → AreOf vs ts → length vs ≡ length ts
as_many [] [] is = refl
as_many [] (v ∷ vs) is = absurd is
as_many (t ∷ ts) [] is = absurd is
as_many (t ∷ ts) (v ∷ vs) is = ap suc (as_many ts vs is.1)

pub sizes_within : (ts : List PlainType) (vs : List Tree) → AreOf vs ts → sizes vs ≤ sizes_of ts
sizes_within [] [] is = omega arith
sizes_within [] (v ∷ vs) is = absurd is
sizes_within (t ∷ ts) [] is = absurd is
sizes_within (t ∷ ts) (v ∷ vs) is =
    let first : size_of v ≤ type_size t = no_larger v t is.0 in
    let rest : sizes vs ≤ sizes_of ts = sizes_within ts vs is.1 in
    omega (arith, first, rest)

pub numbers_within : (n : Native) (ts : List PlainType) (vs : List Tree) → AreOf vs ts → number_of (row_of (OnValues n)).cost vs ≤ number_at (row_of (OnValues n)).cost ts
numbers_within Add ts vs is = let same = as_many ts vs is in omega (arith, same)
numbers_within Subtract ts vs is = let same = as_many ts vs is in omega (arith, same)
numbers_within Multiply ts vs is = let same = as_many ts vs is in omega (arith, same)
numbers_within Divide ts vs is = let same = as_many ts vs is in omega (arith, same)
numbers_within Modulo ts vs is = let same = as_many ts vs is in omega (arith, same)
numbers_within Power ts vs is = let same = as_many ts vs is in omega (arith, same)
numbers_within Xor ts vs is = let same = as_many ts vs is in omega (arith, same)
numbers_within SquareRoot ts vs is = let same = as_many ts vs is in omega (arith, same)
numbers_within Log2 ts vs is = let same = as_many ts vs is in omega (arith, same)
numbers_within ToInt ts vs is = let same = as_many ts vs is in omega (arith, same)
numbers_within ToUint ts vs is = let same = as_many ts vs is in omega (arith, same)
numbers_within Not ts vs is = let same = as_many ts vs is in omega (arith, same)
numbers_within BitAnd ts vs is = let same = as_many ts vs is in omega (arith, same)
numbers_within BitOr ts vs is = let same = as_many ts vs is in omega (arith, same)
numbers_within BitXor ts vs is = let same = as_many ts vs is in omega (arith, same)
numbers_within BitNot ts vs is = let same = as_many ts vs is in omega (arith, same)
numbers_within ShiftLeft ts vs is = let same = as_many ts vs is in omega (arith, same)
numbers_within ShiftRight ts vs is = let same = as_many ts vs is in omega (arith, same)
numbers_within n ts vs is = sizes_within ts vs is
