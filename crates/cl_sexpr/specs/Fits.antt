-- Items whose names and literals are within the limits, as those of each text that reads are.
use Rattle.std.specs.Prelude.{◌≡◌, ℕ, ◌<◌, ◌^◌, ◌==◌, ◌||◌, Bool, true, List, [], ◌∷◌, Option, Some, None, FitsSigned}
use Rattle.std.specs.Int.{w128}
use Rattle.std.specs.List.{list_all, All}
use Rattle.std.specs.Str.{all_scalars}
use Rattle.cl_types.specs.Name.{IsName}
use Rattle.cl_c32.specs.Address.{IsAddress}
use Rattle.cl_c32.specs.ContractName.{IsContractName}
use Rattle.cl_c32.specs.declared.principal.Principal.{Principal}
use Rattle.cl_sexpr.specs.Quote.{is_string_byte}
use Rattle.cl_sexpr.specs.Tree.{Tree, LeafAt, ListAt, TupleAt, Leaf, Named, Signed, Unsigned, Bytes, Ascii, Unicode, Standing, Local, Forest, Empty, Then, Pairs, NoPair, Pair}

-- a byte of an ASCII string: one that stands for itself, or one that is written behind a \
abbrev pub is_ascii_byte : ℕ → Bool
is_ascii_byte c = is_string_byte c || c == 0 || c == 9 || c == 10 || c == 13

abbrev pub ContractFits : Option (List ℕ) → Type 0
ContractFits None = Unit {0}
ContractFits (Some name) = IsContractName name

abbrev pub PrincipalFits : Principal → Type 0
PrincipalFits p = IsAddress p.address × ContractFits p.contract

abbrev pub LeafFits : Leaf → Type 0
LeafFits (Named x) = IsName x
LeafFits (Signed z) = FitsSigned w128 z
LeafFits (Unsigned n) = n < 2 ^ 128
LeafFits (Bytes bytes) = All (λ b. b < 256) bytes
LeafFits (Ascii bytes) = All (λ b. b < 256) bytes × (list_all is_ascii_byte bytes ≡ true)
LeafFits (Unicode characters) = all_scalars characters ≡ true
LeafFits (Standing p) = PrincipalFits p
LeafFits (Local x) = IsContractName x

-- there is a pair
abbrev pub HasPair : Pairs → Type 0
HasPair NoPair = ⊥
HasPair (Pair key e ps) = Unit {0}

-- each name and each literal fits, and each tuple has a pair
abbrev mutual
  pub Fits : Tree → Type 0
  Fits (LeafAt leaf at) = LeafFits leaf
  Fits (ListAt es at) = AllFit es
  Fits (TupleAt ps at) = HasPair ps × PairsFit ps

  pub AllFit : Forest → Type 0
  AllFit Empty = Unit {0}
  AllFit (Then e es) = Fits e × AllFit es

  pub PairsFit : Pairs → Type 0
  PairsFit NoPair = Unit {0}
  PairsFit (Pair key e ps) = IsName key × Fits e × PairsFit ps

abbrev pub AreFit : List Tree → Type 0
AreFit [] = Unit {0}
AreFit (e ∷ es) = Fits e × AreFit es
