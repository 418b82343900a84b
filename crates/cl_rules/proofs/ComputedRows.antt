-- The examples of each row hold by computing.
use Rattle.std.proofs.Common.{refl}
use Rattle.cl_rules.specs.Samples.{opened}
use Rattle.cl_rules.specs.RowExamples.{LiteralRows, NumberRows, HashAndWrapRows, MakeRows, StateRows, ControlRows, BindRows, IterationRows}

pub literal_rows : LiteralRows
unfolding opened
literal_rows = record {
  int_literal = refl;
  uint_literal = refl;
  true_literal = refl;
  none_literal = refl;
  buffer_literal = refl;
  ascii_literal = refl;
  utf8_literal = refl;
  own_contract_literal = refl;
  parameter = refl;
  sender = refl;
  caller = refl;
  height = refl;
}

pub number_rows : NumberRows
unfolding opened
number_rows = record {
  add = refl;
  subtract = refl;
  multiply = refl;
  divide = refl;
  negate = refl;
  add_uints = refl;
  modulo = refl;
  power = refl;
  exclusive_or = refl;
  square_root = refl;
  logarithm = refl;
  to_int = refl;
  to_uint = refl;
  negation = refl;
  less = refl;
  at_most = refl;
  greater = refl;
  at_least = refl;
  equal = refl;
  equal_alone = refl;
  equal_optionals = refl;
}

pub hash_and_wrap_rows : HashAndWrapRows
unfolding opened
hash_and_wrap_rows = record {
  sha256 = refl;
  sha512 = refl;
  sha512_256 = refl;
  make_some = refl;
  make_ok = refl;
  make_err = refl;
  is_some = refl;
  is_none = refl;
  is_ok = refl;
  is_err = refl;
  default_to = refl;
  unwrap_panic = refl;
  unwrap_err_panic = refl;
}

pub make_rows : MakeRows
unfolding opened
make_rows = record {
  make_list = refl;
  empty_list = refl;
  tuple_in_braces = refl;
  tuple_of_pairs = refl;
  merge = refl;
  append = refl;
  concat_lists = refl;
  concat_buffers = refl;
  as_max_len = refl;
  get = refl;
  get_of_optional = refl;
  length_of = refl;
  element_at = refl;
  byte_at = refl;
  character_at = refl;
  index_of = refl;
}

pub state_rows : StateRows
unfolding opened
state_rows = record {
  var_get = refl;
  var_set = refl;
  map_get = refl;
  map_set = refl;
  map_insert = refl;
  map_delete = refl;
  ft_get_balance = refl;
  ft_get_supply = refl;
  stx_get_balance = refl;
  nft_get_owner = refl;
  ft_mint = refl;
  ft_burn = refl;
  ft_transfer = refl;
  nft_mint = refl;
  nft_burn = refl;
  nft_transfer = refl;
  stx_transfer = refl;
  stx_burn = refl;
  print = refl;
}

pub control_rows : ControlRows
unfolding opened
control_rows = record {
  if_else = refl;
  let_in = refl;
  let_two = refl;
  begin = refl;
  and_all = refl;
  or_any = refl;
  match_optional = refl;
  match_response = refl;
  as_contract = refl;
  asserts = refl;
  unwrap = refl;
  unwrap_err = refl;
  try = refl;
}

pub bind_rows : BindRows
unfolding opened
bind_rows = record {
  let_bind = refl;
  match_bind = refl;
  greater_branch = refl;
}

pub iteration_rows : IterationRows
unfolding opened
iteration_rows = record {
  map_iterate = refl;
  map_apply = refl;
  map_connective = refl;
  filter_iterate = refl;
  filter_apply = refl;
  fold_iterate = refl;
  fold_apply = refl;
  map_bytes = refl;
}
