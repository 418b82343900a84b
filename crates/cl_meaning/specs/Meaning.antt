-- What an expression means, and what the application of a function means, to a depth.
use Rattle.std.specs.Prelude.{ℕ, zero, suc, List, Option, Some, None}
use Rattle.cl_shapes.specs.declared.name.CostName.{CostName}
use Rattle.cl_sexpr.specs.Tree.{Tree, LeafAt, ListAt, TupleAt, Named, Then, span_of}
use Rattle.cl_values.specs.Tree.{Tree as Val}
use Rattle.cl_forms.specs.declared.head.Head.{Head}
use Rattle.cl_forms.specs.declared.head.Head.TheVariants.{OnValues, OnToken, TupleOf, AsMaxLen, Get, VarGet, VarSet, MapGet, MapSet, MapInsert, MapDelete, FtBalance, FtSupply, StxBalance, NftOwner, Print, If, Let, Begin, And, Or, Asserts, Unwrap, UnwrapErr, Try, Match, AsContract, Map, Filter, Fold, ContractCall}
use Rattle.cl_forms.specs.Heads.{Row}
use Rattle.cl_forms.specs.Shapes.{trees_of, bindings_of, pairs_of}
use Rattle.cl_events.specs.State.{State}
use Rattle.cl_meaning.specs.Answers.{Answer, Deeper, stop, wrong, ending, with_known}
use Rattle.cl_meaning.specs.Deployed.{native_of}
use Rattle.cl_meaning.specs.Scope.{Scope, home, Callee, Take, Enter}
use Rattle.cl_meaning.specs.Names.{leaf_form}
use Rattle.cl_meaning.specs.Control.{if_form, begin_form, let_form, and_form, or_form, asserts_form, unwrap_form, unwrap_err_form, try_form, match_form, as_contract_form}
use Rattle.cl_meaning.specs.Values.{strict_form, tuple_form, get_form, as_max_len_form}
use Rattle.cl_meaning.specs.Data.{var_get_form, var_set_form, map_get_form, map_set_form, map_insert_form, map_delete_form}
use Rattle.cl_meaning.specs.Tokens.{ft_balance_form, ft_supply_form, stx_balance_form, nft_owner_form, token_form, print_form}
use Rattle.cl_meaning.specs.Sequences.{map_form, filter_form, fold_form}
use Rattle.cl_meaning.specs.Calls.{call_form, contract_call_form, application}

-- a native with its arguments; a native on values is charged as its row says
unfoldable pub head_form : Head → CostName → Take → Enter → Scope → List Tree → State → Answer Val
head_form (OnValues n) cost take enter S es s = strict_form n cost take S es s
head_form (OnToken n) cost take enter S es s = token_form n take S es s
head_form TupleOf cost take enter S es s = with_known (bindings_of es) (tuple_form take S) s
head_form AsMaxLen cost take enter S es s = as_max_len_form take S es s
head_form Get cost take enter S es s = get_form take S es s
head_form VarGet cost take enter S es s = var_get_form S es s
head_form VarSet cost take enter S es s = var_set_form take S es s
head_form MapGet cost take enter S es s = map_get_form take S es s
head_form MapSet cost take enter S es s = map_set_form take S es s
head_form MapInsert cost take enter S es s = map_insert_form take S es s
head_form MapDelete cost take enter S es s = map_delete_form take S es s
head_form FtBalance cost take enter S es s = ft_balance_form take S es s
head_form FtSupply cost take enter S es s = ft_supply_form S es s
head_form StxBalance cost take enter S es s = stx_balance_form take S es s
head_form NftOwner cost take enter S es s = nft_owner_form take S es s
head_form Print cost take enter S es s = print_form take S es s
head_form If cost take enter S es s = if_form take S es s
head_form Let cost take enter S es s = let_form take S es s
head_form Begin cost take enter S es s = begin_form take S es s
head_form And cost take enter S es s = and_form take S es s
head_form Or cost take enter S es s = or_form take S es s
head_form Asserts cost take enter S es s = asserts_form take S es s
head_form Unwrap cost take enter S es s = unwrap_form take S es s
head_form UnwrapErr cost take enter S es s = unwrap_err_form take S es s
head_form Try cost take enter S es s = try_form take S es s
head_form Match cost take enter S es s = match_form take S es s
head_form AsContract cost take enter S es s = as_contract_form take S es s
head_form Map cost take enter S es s = map_form take enter S es s
head_form Filter cost take enter S es s = filter_form take enter S es s
head_form Fold cost take enter S es s = fold_form take enter S es s
head_form ContractCall cost take enter S es s = contract_call_form take enter S es s

-- a list that begins with a name: a native, and else a call of a function of the contract
abbrev pub operator : Option Row → List ℕ → Take → Enter → Scope → List Tree → State → Answer Val
operator (Some row) x take enter S es s = head_form row.head row.cost take enter S es s
operator None x take enter S es s = call_form x take enter S es s

-- a node, over what its parts and its applications mean
unfoldable pub node : Take → Enter → Scope → Tree → State → Answer Val
node take enter S (LeafAt leaf at) s = leaf_form S leaf s
node take enter S (TupleAt ps at) s = tuple_form take S (pairs_of ps) s
node take enter S (ListAt (Then (LeafAt (Named x) at') es) at) s = operator (native_of x (home S)) x take enter S (trees_of es) s
node take enter S (ListAt es at) s = wrong s

unfoldable mutual
  -- what an expression means to a depth: its parts and applications are taken one level down
  pub means : ℕ → Scope → Tree → State → Answer Val
  means zero S e s = stop Deeper s
  means (suc depth) S e s = ending (span_of e) (node (means depth) (applied depth) S e s)

  -- what the application of a function or native to values means to a depth
  pub applied : ℕ → Scope → Callee → List Val → State → Answer Val
  applied zero S f vs s = stop Deeper s
  applied (suc depth) S f vs s = application (means depth) S f vs s
