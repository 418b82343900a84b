use Rattle.cl_meaning.specs.Meaning.{head_form}
use Rattle.cl_audit_steps.proofs.StartLaws.{at_head, starts_head}
use Rattle.cl_audit_steps.proofs.start.head_start.Goals as goal

pub returns-in-OnValues : goal.returns-in-OnValues
unfolding head_form
returns-in-OnValues c S = starts_head S c.args.cost c.args.items.now _ _ c.strict_start.result c.in-OnValues.is (c.strict_start.ensures S)

pub returns-in-OnToken : goal.returns-in-OnToken
unfolding head_form
returns-in-OnToken c S = starts_head S c.args.cost c.args.items.now _ _ c.token_start.result c.in-OnToken.is (c.token_start.ensures S)

pub returns-in-TupleOf : goal.returns-in-TupleOf
unfolding head_form
returns-in-TupleOf c S = at_head S c.args.cost c.args.items.now _ _ _ c.in-TupleOf.is (c.tuple_of_start.ensures S)

pub returns-in-AsMaxLen : goal.returns-in-AsMaxLen
unfolding head_form
returns-in-AsMaxLen c S = starts_head S c.args.cost c.args.items.now _ _ c.as_max_len_start.result c.in-AsMaxLen.is (c.as_max_len_start.ensures S)

pub returns-in-Get : goal.returns-in-Get
unfolding head_form
returns-in-Get c S = starts_head S c.args.cost c.args.items.now _ _ c.get_start.result c.in-Get.is (c.get_start.ensures S)

pub returns-in-VarGet : goal.returns-in-VarGet
unfolding head_form
returns-in-VarGet c S = starts_head S c.args.cost c.args.items.now _ _ c.var_get_start.result c.in-VarGet.is (c.var_get_start.ensures S)

pub returns-in-VarSet : goal.returns-in-VarSet
unfolding head_form
returns-in-VarSet c S = starts_head S c.args.cost c.args.items.now _ _ c.var_set_start.result c.in-VarSet.is (c.var_set_start.ensures S)

pub returns-in-MapGet : goal.returns-in-MapGet
unfolding head_form
returns-in-MapGet c S = starts_head S c.args.cost c.args.items.now _ _ c.map_get_start.result c.in-MapGet.is (c.map_get_start.ensures S)

pub returns-in-MapSet : goal.returns-in-MapSet
unfolding head_form
returns-in-MapSet c S = starts_head S c.args.cost c.args.items.now _ _ c.map_set_start.result c.in-MapSet.is (c.map_set_start.ensures S)

pub returns-in-MapInsert : goal.returns-in-MapInsert
unfolding head_form
returns-in-MapInsert c S = starts_head S c.args.cost c.args.items.now _ _ c.map_insert_start.result c.in-MapInsert.is (c.map_insert_start.ensures S)

pub returns-in-MapDelete : goal.returns-in-MapDelete
unfolding head_form
returns-in-MapDelete c S = starts_head S c.args.cost c.args.items.now _ _ c.map_delete_start.result c.in-MapDelete.is (c.map_delete_start.ensures S)

pub returns-in-FtBalance : goal.returns-in-FtBalance
unfolding head_form
returns-in-FtBalance c S = starts_head S c.args.cost c.args.items.now _ _ c.ft_balance_start.result c.in-FtBalance.is (c.ft_balance_start.ensures S)

pub returns-in-FtSupply : goal.returns-in-FtSupply
unfolding head_form
returns-in-FtSupply c S = starts_head S c.args.cost c.args.items.now _ _ c.ft_supply_start.result c.in-FtSupply.is (c.ft_supply_start.ensures S)

pub returns-in-StxBalance : goal.returns-in-StxBalance
unfolding head_form
returns-in-StxBalance c S = starts_head S c.args.cost c.args.items.now _ _ c.stx_balance_start.result c.in-StxBalance.is (c.stx_balance_start.ensures S)

pub returns-in-NftOwner : goal.returns-in-NftOwner
unfolding head_form
returns-in-NftOwner c S = starts_head S c.args.cost c.args.items.now _ _ c.nft_owner_start.result c.in-NftOwner.is (c.nft_owner_start.ensures S)

pub returns-in-Print : goal.returns-in-Print
unfolding head_form
returns-in-Print c S = starts_head S c.args.cost c.args.items.now _ _ c.print_start.result c.in-Print.is (c.print_start.ensures S)

pub returns-in-If : goal.returns-in-If
unfolding head_form
returns-in-If c S = at_head S c.args.cost c.args.items.now _ _ _ c.in-If.is (c.if_start.ensures S)

pub returns-in-Let : goal.returns-in-Let
unfolding head_form
returns-in-Let c S = at_head S c.args.cost c.args.items.now _ _ _ c.in-Let.is (c.let_start.ensures S)

pub returns-in-Begin : goal.returns-in-Begin
unfolding head_form
returns-in-Begin c S = at_head S c.args.cost c.args.items.now _ _ _ c.in-Begin.is (c.begin_start.ensures S)

pub returns-in-And : goal.returns-in-And
unfolding head_form
returns-in-And c S = at_head S c.args.cost c.args.items.now _ _ _ c.in-And.is (c.and_start.ensures S)

pub returns-in-Or : goal.returns-in-Or
unfolding head_form
returns-in-Or c S = at_head S c.args.cost c.args.items.now _ _ _ c.in-Or.is (c.or_start.ensures S)

pub returns-in-Asserts : goal.returns-in-Asserts
unfolding head_form
returns-in-Asserts c S = at_head S c.args.cost c.args.items.now _ _ _ c.in-Asserts.is (c.asserts_start.ensures S)

pub returns-in-Unwrap : goal.returns-in-Unwrap
unfolding head_form
returns-in-Unwrap c S = at_head S c.args.cost c.args.items.now _ _ _ c.in-Unwrap.is (c.unwrap_start.ensures S)

pub returns-in-UnwrapErr : goal.returns-in-UnwrapErr
unfolding head_form
returns-in-UnwrapErr c S = at_head S c.args.cost c.args.items.now _ _ _ c.in-UnwrapErr.is (c.unwrap_err_start.ensures S)

pub returns-in-Try : goal.returns-in-Try
unfolding head_form
returns-in-Try c S = at_head S c.args.cost c.args.items.now _ _ _ c.in-Try.is (c.try_start.ensures S)

pub returns-in-Match : goal.returns-in-Match
unfolding head_form
returns-in-Match c S = at_head S c.args.cost c.args.items.now _ _ _ c.in-Match.is (c.match_start.ensures S)

pub returns-in-AsContract : goal.returns-in-AsContract
unfolding head_form
returns-in-AsContract c S = at_head S c.args.cost c.args.items.now _ _ _ c.in-AsContract.is (c.as_contract_start.ensures S)

pub returns-in-Map : goal.returns-in-Map
unfolding head_form
returns-in-Map c S = starts_head S c.args.cost c.args.items.now _ _ c.map_start.result c.in-Map.is (c.map_start.ensures S)

pub returns-in-Filter : goal.returns-in-Filter
unfolding head_form
returns-in-Filter c S = starts_head S c.args.cost c.args.items.now _ _ c.filter_start.result c.in-Filter.is (c.filter_start.ensures S)

pub returns-in-Fold : goal.returns-in-Fold
unfolding head_form
returns-in-Fold c S = starts_head S c.args.cost c.args.items.now _ _ c.fold_start.result c.in-Fold.is (c.fold_start.ensures S)

pub returns-in-ContractCall : goal.returns-in-ContractCall
unfolding head_form
returns-in-ContractCall c S = starts_head S c.args.cost c.args.items.now _ _ c.contract_call_start.result c.in-ContractCall.is (c.contract_call_start.ensures S)
