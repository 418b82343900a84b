-- Natives whose first argument is a name that isn't evaluated: a key, a variable, a map or a token.
use Rattle.std.specs.Prelude.{◌≡◌, ℕ, Bool, List, [], ◌∷◌, map, Option, Some, None, option_map, if◌then◌else◌, Result}
use Rattle.std.specs.List.{list_any}
use Rattle.cl_types.specs.Types.{PlainType, NoType, UintType, BoolType, PrincipalType, OptionalType}
use Rattle.cl_types.specs.declared.fault.Fault.{Fault}
use Rattle.cl_sexpr.specs.declared.rule.Rule.{Rule}
use Rattle.cl_sexpr.specs.declared.rule.Rule.TheVariants.{NoSuchVariable, NoSuchMap, NoSuchToken, NoSuchKey}
use Rattle.cl_sexpr.specs.Tree.{Tree}
use Rattle.cl_forms.specs.Heads.{row_of}
use Rattle.cl_rules.specs.Faults.{ShapeFaults}
use Rattle.cl_rules.specs.NativeTypes.{Ruled, fine, made, one, get_row}
use Rattle.cl_rules.specs.Context.{Context, Names, same, named_in}
use Rattle.cl_rules.specs.Verdicts.{Found, Verdict}
use Rattle.cl_rules.specs.Shapes.{Shape, First, is_no_such, named_faults, named_shape, evaluated, stated, AUint, APrincipal, Admitted}
use Rattle.cl_rules.specs.DataShapes.{var_get, map_get, act_answer}
use Rattle.cl_code.specs.declared.op.NameNative.{NameNative}
use Rattle.cl_code.specs.declared.op.NameNative.TheVariants.{Get, VarGet, VarSet, MapGet, MapSet, MapInsert, MapDelete, FtBalance, FtSupply, NftOwner, MintFt, BurnFt, SendFt, MintNft, BurnNft, SendNft}
use Rattle.cl_code.specs.OpNames.{name_head}
use Rattle.cl_typing.specs.declared.concluding.Checked.{Checked}
use Rattle.cl_typing.specs.declared.concluding.Concluded.{Concluded}
use Rattle.cl_typing.specs.Verdicts.{facts, facts_of, Concludes}
use Rattle.cl_judging.specs.declared.context.Context.{Context as CodeContext}
use Rattle.cl_judging.specs.declared.given.Given.{Given as CodeGiven}
use Rattle.cl_judging.specs.declared.given.Given.TheVariants.{Key as KeyOf, Variable as VariableOf, MapOf as MapOfTypes, Fungible as FungibleOf, NonFungible as NonFungibleOf}

-- what a name gives: itself as a key; a variable's type; the types of a map's keys and values; a token; the type of an asset's id
pub data Given : Type 0 where
  Key : List ℕ → Given
  Variable : PlainType → Given
  MapOf : PlainType → PlainType → Given
  Fungible : Given
  NonFungible : PlainType → Given

abbrev pub seen_given : CodeGiven → Given
seen_given (KeyOf x) = Key x
seen_given (VariableOf t) = Variable t.now
seen_given (MapOfTypes k v) = MapOf k.now v.now
seen_given FungibleOf = Fungible
seen_given (NonFungibleOf t) = NonFungible t.now

-- what the name has to be one of
pub data Sort : Type 0 where
  Keys Variables Maps Fungibles NonFungibles : Sort

abbrev pub sort_of : NameNative → Sort
sort_of Get = Keys
sort_of VarGet = Variables
sort_of VarSet = Variables
sort_of MapGet = Maps
sort_of MapSet = Maps
sort_of MapInsert = Maps
sort_of MapDelete = Maps
sort_of FtBalance = Fungibles
sort_of FtSupply = Fungibles
sort_of MintFt = Fungibles
sort_of BurnFt = Fungibles
sort_of SendFt = Fungibles
sort_of NftOwner = NonFungibles
sort_of MintNft = NonFungibles
sort_of BurnNft = NonFungibles
sort_of SendNft = NonFungibles

abbrev pub map_given : PlainType × PlainType → Given
map_given m = MapOf m.0 m.1

abbrev pub given_of : Sort → Context → List ℕ → Option Given
given_of Keys G x = Some (Key x)
given_of Variables G x = option_map Variable (named_in x G.variables)
given_of Maps G x = option_map map_given (named_in x G.maps)
given_of Fungibles G x = if list_any (same x) G.fungibles then Some Fungible else None
given_of NonFungibles G x = option_map NonFungible (named_in x G.nonfungibles)

-- the same by the code's context
abbrev pub given_in : Sort → CodeContext → List ℕ → Option Given
given_in Keys c x = Some (Key x)
given_in Variables c x = option_map Variable (named_in x c.variables.entries)
given_in Maps c x = option_map map_given (named_in x c.maps.entries)
given_in Fungibles c x = if list_any (same x) c.fungibles.keys then Some Fungible else None
given_in NonFungibles c x = option_map NonFungible (named_in x c.nonfungibles.entries)

-- the faults of a shape, where there is no such thing
abbrev pub missing : Sort → ShapeFaults → Bool → ShapeFaults
missing Keys faults none = faults
missing Variables faults none = record faults { no_such_variable = none }
missing Maps faults none = record faults { no_such_map = none }
missing Fungibles faults none = record faults { no_such_token = none }
missing NonFungibles faults none = record faults { no_such_token = none }

abbrev pub missing_rule : Sort → Rule
missing_rule Keys = NoSuchKey
missing_rule Variables = NoSuchVariable
missing_rule Maps = NoSuchMap
missing_rule Fungibles = NoSuchToken
missing_rule NonFungibles = NoSuchToken

-- what a native rules at what the name gives
abbrev pub name_row : NameNative → Given → List PlainType → Ruled
name_row Get (Key k) ts = one (get_row k) ts
name_row VarGet (Variable t) ts = fine t
name_row VarSet (Variable t) ts = stated (Admitted t ∷ []) (fine BoolType) ts
name_row MapGet (MapOf k v) ts = stated (Admitted k ∷ []) (made (OptionalType v)) ts
name_row MapSet (MapOf k v) ts = stated (Admitted k ∷ Admitted v ∷ []) (fine BoolType) ts
name_row MapInsert (MapOf k v) ts = stated (Admitted k ∷ Admitted v ∷ []) (fine BoolType) ts
name_row MapDelete (MapOf k v) ts = stated (Admitted k ∷ []) (fine BoolType) ts
name_row FtBalance Fungible ts = stated (APrincipal ∷ []) (fine UintType) ts
name_row FtSupply Fungible ts = stated [] (fine UintType) ts
name_row MintFt Fungible ts = stated (AUint ∷ APrincipal ∷ []) (fine act_answer) ts
name_row BurnFt Fungible ts = stated (AUint ∷ APrincipal ∷ []) (fine act_answer) ts
name_row SendFt Fungible ts = stated (AUint ∷ APrincipal ∷ APrincipal ∷ []) (fine act_answer) ts
name_row NftOwner (NonFungible id) ts = stated (Admitted id ∷ []) (fine (OptionalType PrincipalType)) ts
name_row MintNft (NonFungible id) ts = stated (Admitted id ∷ APrincipal ∷ []) (fine act_answer) ts
name_row BurnNft (NonFungible id) ts = stated (Admitted id ∷ APrincipal ∷ []) (fine act_answer) ts
name_row SendNft (NonFungible id) ts = stated (Admitted id ∷ APrincipal ∷ APrincipal ∷ []) (fine act_answer) ts
name_row native given ts = fine NoType

-- the verdict on a native at what the name gives
abbrev pub name_verdict : NameNative → Given → List Found → Verdict
name_verdict VarGet (Variable t) fs = var_get (row_of (name_head VarGet)) t fs
name_verdict MapGet (MapOf k v) fs = map_get (row_of (name_head MapGet)) (k, v) fs
name_verdict native given fs = evaluated (row_of (name_head native)) (name_row native given) fs

-- the shape, at what the first argument is
abbrev pub named_as : NameNative → Names → List Tree → First Given → Shape
named_as native B args first = named_shape (missing (sort_of native) (named_faults (row_of (name_head native)) args first) (is_no_such first)) first (name_verdict native) B args

abbrev pub JudgesNamed : NameNative → Given → List Checked → Result Concluded (Fault Rule) → Type 0
JudgesNamed native given cs result = (fs : List Found) → map facts fs ≡ map facts_of cs → Concludes (name_verdict native given fs) result
