-- The table of shapes.
use Rattle.std.specs.Prelude.{true, List, [], ◌∷◌, length, Option, Some, None}
use Rattle.cl_types.specs.Types.{UintType, PrincipalType, OptionalType}
use Rattle.cl_sexpr.specs.Tree.{Tree, LeafAt, ListAt, TupleAt, Named, Then}
use Rattle.cl_forms.specs.Heads.{Row, native}
use Rattle.cl_forms.specs.declared.head.Head.{Head}
use Rattle.cl_forms.specs.declared.head.Head.TheVariants.{OnValues, OnToken, TupleOf, AsMaxLen, Get, VarGet, VarSet, MapGet, MapSet, MapInsert, MapDelete, FtBalance, FtSupply, StxBalance, NftOwner, Print, If, Let, Begin, And, Or, Asserts, Unwrap, UnwrapErr, Try, Match, AsContract, Map, Filter, Fold, ContractCall}
use Rattle.cl_forms.specs.Shapes.{trees_of, pairs_of}
use Rattle.cl_rules.specs.Faults.{sound_shape}
use Rattle.cl_rules.specs.NativeTypes.{fine, one, two, native_type}
use Rattle.cl_rules.specs.Bills.{Charge}
use Rattle.cl_rules.specs.Context.{Context, Names, Signature, signature_in}
use Rattle.cl_rules.specs.Shapes.{Shape, unlooked, evaluated, native_shape, APrincipal}
use Rattle.cl_rules.specs.ControlShapes.{leaf_shape, last_row, truth_row, asserts_row, unwrap_row, unwrap_err_row, try_row, if_verdict, let_shape, match_shape}
use Rattle.cl_rules.specs.DataShapes.{tuple_shape, pairs_shape, get_shape, max_len_shape, variable_shape, var_get, var_set, map_shape, map_get, map_put, map_delete, fungible_shape, nonfungible_shape, stated_shape, token_shape}
use Rattle.cl_rules.specs.CallShapes.{call_shape, contract_call_shape, using_shape, map_verdict, filter_verdict, fold_verdict}

-- the shape of a native with these arguments
unfoldable pub head_shape : Head → Row → Context → Names → List Tree → Shape
head_shape (OnValues n) row G B es = native_shape row (evaluated row (native_type n)) B es
head_shape (OnToken act) row G B es = token_shape act row G B es
head_shape TupleOf row G B es = pairs_shape row B es
head_shape AsMaxLen row G B es = max_len_shape row B es
head_shape Get row G B es = get_shape row B es
head_shape VarGet row G B es = variable_shape row (var_get row) G B es
head_shape VarSet row G B es = variable_shape row (var_set row) G B es
head_shape MapGet row G B es = map_shape row (map_get row) G B es
head_shape MapSet row G B es = map_shape row (map_put row) G B es
head_shape MapInsert row G B es = map_shape row (map_put row) G B es
head_shape MapDelete row G B es = map_shape row (map_delete row) G B es
head_shape FtBalance row G B es = fungible_shape row (APrincipal ∷ []) UintType G B es
head_shape FtSupply row G B es = fungible_shape row [] UintType G B es
head_shape StxBalance row G B es = stated_shape row (APrincipal ∷ []) UintType B es
head_shape NftOwner row G B es = nonfungible_shape row [] (OptionalType PrincipalType) G B es
head_shape Print row G B es = native_shape row (evaluated row (one fine)) B es
head_shape If row G B es = native_shape row (if_verdict (Charge row.cost (length es))) B es
head_shape Let row G B es = let_shape row G B es
head_shape Begin row G B es = native_shape row (evaluated row last_row) B es
head_shape And row G B es = native_shape row (evaluated row truth_row) B es
head_shape Or row G B es = native_shape row (evaluated row truth_row) B es
head_shape Asserts row G B es = native_shape row (evaluated row (two asserts_row)) B es
head_shape Unwrap row G B es = native_shape row (evaluated row (two unwrap_row)) B es
head_shape UnwrapErr row G B es = native_shape row (evaluated row (two unwrap_err_row)) B es
head_shape Try row G B es = native_shape row (evaluated row (one try_row)) B es
head_shape Match row G B es = match_shape row G B es
head_shape AsContract row G B es = native_shape row (evaluated row (one fine)) B es
head_shape Map row G B es = using_shape row (map_verdict row) G B es
head_shape Filter row G B es = using_shape row (filter_verdict row) G B es
head_shape Fold row G B es = using_shape row (fold_verdict row) G B es
head_shape ContractCall row G B es = contract_call_shape row G B es

-- a native, or else a function of the contract
abbrev pub operator_shape : Option Row → Option Signature → Context → Names → List Tree → Shape
operator_shape (Some row) f G B es = head_shape row.head row G B es
operator_shape None f G B es = call_shape f B es

-- the shape of each expression
unfoldable pub shape : Context → Names → Tree → Shape
shape G B (LeafAt leaf at) = leaf_shape G B leaf
shape G B (TupleAt ps at) = tuple_shape sound_shape B (pairs_of ps)
shape G B (ListAt (Then (LeafAt (Named x) at') es) at) = operator_shape (native G.version x) (signature_in x G.functions) G B (trees_of es)
shape G B (ListAt es at) = unlooked (record sound_shape { empty_form = true })
