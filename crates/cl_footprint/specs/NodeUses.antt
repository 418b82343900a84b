-- What a node of a typed tree uses by itself.
use Rattle.std.specs.Prelude.{ℕ, List, [], ◌∷◌, ◌++◌}
use Rattle.cl_c32.specs.declared.principal.Principal.{Principal}
use Rattle.cl_sexpr.specs.Tree.{Tree}
use Rattle.cl_forms.specs.Shapes.{principal_named}
use Rattle.cl_code.specs.declared.op.PartsNative.{PartsNative}
use Rattle.cl_code.specs.declared.op.PartsNative.TheVariants.{StxBalance, SendStx, BurnStx}
use Rattle.cl_code.specs.declared.op.NameNative.{NameNative}
use Rattle.cl_code.specs.declared.op.NameNative.TheVariants.{Get, VarGet, VarSet, MapGet, MapSet, MapInsert, MapDelete, FtBalance, FtSupply, NftOwner, MintFt, BurnFt, SendFt, MintNft, BurnNft, SendNft}
use Rattle.cl_code.specs.declared.op.Applied.{Applied}
use Rattle.cl_code.specs.declared.op.Applied.TheVariants.{Function}
use Rattle.cl_code.specs.declared.op.Op.{Op}
use Rattle.cl_code.specs.declared.op.Op.TheVariants.{OnParts, OnName, Iterate, Call, ContractCall}
use Rattle.cl_code.specs.Expression.{target_leaf}
use Rattle.cl_tables.specs.declared.spot.Spot.TheVariants.{Variable, MapOf, Token, Stx}
use Rattle.cl_touch.specs.Uses.{Use, Reads, Writes, Applies, of_own, crossing, Natives, uses_in}

abbrev pub uses_by_parts : PartsNative → List Use
uses_by_parts StxBalance = Reads Stx ∷ []
uses_by_parts SendStx = Writes Stx ∷ []
uses_by_parts BurnStx = Writes Stx ∷ []
uses_by_parts native = []

abbrev pub uses_by_name : Principal → NameNative → List ℕ → List Use
uses_by_name p Get x = []
uses_by_name p VarGet x = Reads (Variable (of_own p x)) ∷ []
uses_by_name p VarSet x = Writes (Variable (of_own p x)) ∷ []
uses_by_name p MapGet x = Reads (MapOf (of_own p x)) ∷ []
uses_by_name p MapSet x = Writes (MapOf (of_own p x)) ∷ []
uses_by_name p MapInsert x = Writes (MapOf (of_own p x)) ∷ []
uses_by_name p MapDelete x = Writes (MapOf (of_own p x)) ∷ []
uses_by_name p FtBalance x = Reads (Token (of_own p x)) ∷ []
uses_by_name p FtSupply x = Reads (Token (of_own p x)) ∷ []
uses_by_name p NftOwner x = Reads (Token (of_own p x)) ∷ []
uses_by_name p MintFt x = Writes (Token (of_own p x)) ∷ []
uses_by_name p BurnFt x = Writes (Token (of_own p x)) ∷ []
uses_by_name p SendFt x = Writes (Token (of_own p x)) ∷ []
uses_by_name p MintNft x = Writes (Token (of_own p x)) ∷ []
uses_by_name p BurnNft x = Writes (Token (of_own p x)) ∷ []
uses_by_name p SendNft x = Writes (Token (of_own p x)) ∷ []

abbrev pub uses_of_applied : Applied → List Use
uses_of_applied (Function f) = Applies f.name ∷ []
uses_of_applied applied = []

-- what a node uses by itself
abbrev pub uses_of_node : Principal → Op → List Use
uses_of_node p (OnParts native head) = uses_by_parts native
uses_of_node p (OnName native head name) = uses_by_name p native name.name
uses_of_node p (Iterate iteration head applied) = uses_of_applied applied
uses_of_node p (Call f) = Applies f.name ∷ []
uses_of_node p (ContractCall head contract function callee) = crossing (principal_named p (target_leaf contract)) function.name
uses_of_node p op = []

abbrev pub uses_of_each : Natives → Principal → List Tree → List Use
uses_of_each natives p [] = []
uses_of_each natives p (e ∷ es) = uses_in natives p e ++ uses_of_each natives p es
