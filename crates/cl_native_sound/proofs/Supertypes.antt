-- Values of types that have a least supertype.
use Rattle.std.proofs.Common.{◌≡◌, true, List, [], ◌∷◌}
use Rattle.cl_types.specs.Types.{PlainType, admits, IsLeastSupertype}
use Rattle.cl_types.specs.Lattice.{least_supertype}
use Rattle.cl_types.proofs.Lattice.{admits_same, admits_trans}
use Rattle.cl_types.proofs.LatticeAnswers.{ok_least}
use Rattle.cl_values.specs.Tree.{Tree}
use Rattle.cl_values.proofs.OfTypes.{AreIn, AllIn, raised}
use Rattle.cl_rules.specs.NativeTypes.{Ruled, lub_then, and_lub}
use Rattle.cl_native_sound.proofs.Rulings.{IsClean, lub_clean}

-- a type admits each of these
abbrev pub AllAdmitted : PlainType → List PlainType → Type 0
AllAdmitted c [] = Unit {0}
AllAdmitted c (t ∷ ts) = (admits c t ≡ true) × AllAdmitted c ts

pub each_raised : (vs : List Tree) (ts : List PlainType) (c : PlainType) → AreIn vs ts → AllAdmitted c ts → AllIn vs c
each_raised [] [] c is h = tt
each_raised (v ∷ vs) (t ∷ ts) c is h = (raised v c t h.0 is.0, each_raised vs ts c is.1 h.1)
each_raised [] (t ∷ ts) c is h = tt
each_raised (v ∷ vs) [] c is h = absurd is

-- what is made of the least supertype of two types
pub lubbed_clean : (P : Ruled → Type 0) (a b : PlainType) (make : PlainType → Ruled) → IsClean (and_lub (least_supertype a b) make) → ((c : PlainType) → admits c a ≡ true → admits c b ≡ true → IsClean (make c) → P (make c)) → P (and_lub (least_supertype a b) make)
lubbed_clean P a b make h p = lub_clean P (least_supertype a b) make h (λ c e k. let l : IsLeastSupertype a b c = ok_least a b c e in p c l.left l.right k)

-- what is made of the least supertype of several types
pub lubs_clean : (P : Ruled → Type 0) (t : PlainType) (ts : List PlainType) (make : PlainType → Ruled) → IsClean (lub_then t ts make) → ((c : PlainType) → admits c t ≡ true → AllAdmitted c ts → IsClean (make c) → P (make c)) → P (lub_then t ts make)
lubs_clean P t [] make h p = p t (admits_same t) tt h
lubs_clean P t (u ∷ us) make h p =
    lubbed_clean P t u (λ c. lub_then c us make) h
    (λ d dt du k. lubs_clean P d us make k (λ c cd cs m. p c (admits_trans c d t cd dt) (admits_trans c d u cd du, cs) m))
