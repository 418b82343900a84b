-- The examples of first breaks hold by computing.
use Rattle.std.proofs.Common.{refl}
use Rattle.cl_rules.specs.Samples.{opened}
use Rattle.cl_rules.specs.BreakExamples.{BreaksByShape, BreaksByTypes, BreaksInMatch, BreaksOfForms, BreaksInOrder, AcceptedExamples}

pub breaks_by_shape : BreaksByShape
unfolding opened
breaks_by_shape = record {
  unknown_atom = refl;
  unknown_operator = refl;
  constant_as_operator = refl;
  keyword_as_operator = refl;
  later_native = refl;
  native_count = refl;
  function_count = refl;
  mapped_count = refl;
  folded_count = refl;
  no_body = refl;
  bound_outside = refl;
  bound_twice = refl;
  both_branches = refl;
  bound_reserved = refl;
  bound_top_level = refl;
  no_variable = refl;
  constant_as_variable = refl;
  no_map = refl;
  no_token = refl;
  other_kind_of_token = refl;
  no_contract = refl;
  own_contract = refl;
  no_contract_and_no_name = refl;
  number_as_function = refl;
  native_not_by_name = refl;
  name_of_nothing_as_function = refl;
  int_as_length = refl;
  name_as_contract = refl;
  empty_list = refl;
  operator_of_a_list = refl;
  operator_of_a_number = refl;
  long_binding = refl;
  binding_without_brackets = refl;
  only_bindings_bind = refl;
  number_as_key = refl;
  number_as_pair = refl;
  number_as_variable = refl;
  key_twice = refl;
  pair_twice = refl;
  function_as_value = refl;
  native_as_value = refl;
  variable_as_value = refl;
}

pub breaks_by_types : BreaksByTypes
unfolding opened
breaks_by_types = record {
  two_kinds_of_numbers = refl;
  argument_not_admitted = refl;
  condition = refl;
  no_tuple = refl;
  item_of_an_empty_list = refl;
  first_parameter = refl;
  second_parameter = refl;
  branches_differ = refl;
  fold_differs = refl;
  first_refusal_decides = refl;
  long_literal_length = refl;
  too_deep = refl;
  tried_without_ok = refl;
  no_entry_type = refl;
  thrown_differ = refl;
  thrown_differ_at_top_level = refl;
  unused_in_let = refl;
  no_key = refl;
}

pub breaks_in_match : BreaksInMatch
unfolding opened
breaks_in_match = record {
  none_branch_first = refl;
  input_is_no_optional = refl;
  input_is_no_response = refl;
  response_in_four = refl;
  number_wanted = refl;
  uint_wanted = refl;
  principal_wanted = refl;
  owner_wanted = refl;
  branches_of_no_type = refl;
  nothing_to_bind = refl;
}

pub breaks_of_forms : BreaksOfForms
unfolding opened
breaks_of_forms = record {
  variable_not_admitted = refl;
  supply_not_admitted = refl;
  return_type_too_large = refl;
  return_types_differ = refl;
  no_type_no_response = refl;
  no_response = refl;
}

pub breaks_in_order : BreaksInOrder
unfolding opened
breaks_in_order = record {
  by_span_end = refl;
  inner_before_outer = refl;
  shape_before_parts = refl;
  named_form_first = refl;
  text_order_else = refl;
  later_behind_get = refl;
}

pub accepted_examples : AcceptedExamples
unfolding opened
accepted_examples = record {
  thrown_at_top_level = refl;
  defaults = refl;
  lists_without_entries = refl;
  tried_ok = refl;
  declared_admits_no_type = refl;
  earlier_behind_get = refl;
  later_form = refl;
}
