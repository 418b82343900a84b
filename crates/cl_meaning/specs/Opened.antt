-- The definitions to open where a meaning is computed.
use Rattle.cl_arith.specs.Roots.{greatest_from, square_root, log2}
use Rattle.cl_shapes.specs.Functions.{halvings, log2 as cost_log2}
use Rattle.cl_tokens.specs.Ledger.{balance, with_balance, minted, sent, burnt}
use Rattle.cl_tokens.specs.Owners.{asset_minted, asset_sent, asset_burnt}
use Rattle.cl_values.specs.Natives.{native_value}
use Rattle.cl_forms.specs.Heads.{native}
use Rattle.cl_forms.specs.Order.{visit, ordered}
use Rattle.cl_events.specs.Acts.{changed, moved, acted, acted_by}
use Rattle.cl_meaning.specs.Answers.{stop, charged, and_then, ending, returning}
use Rattle.cl_meaning.specs.Scope.{parts}
use Rattle.cl_meaning.specs.Names.{standing, name_form, leaf_form}
use Rattle.cl_meaning.specs.Control.{if_form, begin_form, let_in, let_form, and_on, or_on, and_form, or_form, asserts_form, unwrap_form, unwrap_err_form, try_form, match_form, as_contract_form}
use Rattle.cl_meaning.specs.Values.{on_values, strict_form, tuple_form, get_form, as_max_len_form}
use Rattle.cl_meaning.specs.Data.{var_get_form, var_set_form, map_get_form, map_set_form, map_insert_form, map_delete_form}
use Rattle.cl_meaning.specs.Tokens.{ft_balance_form, ft_supply_form, stx_balance_form, nft_owner_form, token_form, print_form}
use Rattle.cl_meaning.specs.Sequences.{each, map_form, sifted, filter_form, folded, fold_form}
use Rattle.cl_meaning.specs.Calls.{call_form, contract_call_form, bound_to, function_form, native_form, application}
use Rattle.cl_meaning.specs.Meaning.{head_form, node, means, applied}
use Rattle.cl_meaning.specs.Limits.{cost, pay, limited}
use Rattle.cl_meaning.specs.Trace.{claims, trace_of}
use Rattle.cl_meaning.specs.Top.{top, call_from}
use Rattle.cl_meaning.specs.Deploying.{defined, all_defined, deployment}

unfoldable pub opened : Unit {0}
unfolding greatest_from square_root log2 halvings cost_log2 balance with_balance minted sent burnt asset_minted asset_sent asset_burnt native_value native visit ordered changed moved acted acted_by stop charged and_then ending returning parts standing name_form leaf_form if_form begin_form let_in let_form and_on or_on and_form or_form asserts_form unwrap_form unwrap_err_form try_form match_form as_contract_form on_values strict_form tuple_form get_form as_max_len_form var_get_form var_set_form map_get_form map_set_form map_insert_form map_delete_form ft_balance_form ft_supply_form stx_balance_form nft_owner_form token_form print_form each map_form sifted filter_form folded fold_form call_form contract_call_form bound_to function_form native_form application head_form node means applied cost pay limited claims trace_of top call_from defined all_defined deployment
opened = tt
