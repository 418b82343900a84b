-- The examples of version 2 hold by computing.
use Rattle.std.proofs.Common.{refl}
use Rattle.cl_rules.specs.Samples.{opened}
use Rattle.cl_rules.specs.LaterExamples.{LaterLines, LaterRows, LaterBreaks, ReservedNames}

pub later_lines : LaterLines
unfolding opened
later_lines = record {
  slice_line = refl;
  slice_of_one = refl;
  consensus_line = refl;
}

pub later_rows : LaterRows
unfolding opened
later_rows = record {
  less = refl;
  less_uints = refl;
  less_buffers = refl;
  at_most = refl;
  greater = refl;
  at_least = refl;
  bit_and = refl;
  bit_and_alone = refl;
  bit_or = refl;
  bit_xor = refl;
  bit_not = refl;
  shift_left = refl;
  shift_right = refl;
  slice = refl;
  replace_at = refl;
  entry_at = refl;
  place_of = refl;
  to_consensus_buff = refl;
  element_at = refl;
  index_of = refl;
  map_less = refl;
  fold_bits = refl;
  map_consensus = refl;
}

pub later_breaks : LaterBreaks
unfolding opened
later_breaks = record {
  less_strings = refl;
  less_strings_of_one = refl;
  less_buffers = refl;
  less_buffers_of_one = refl;
  less_two_kinds = refl;
  less_bools = refl;
  slice_by_ints = refl;
  slice_count = refl;
  replace_longer = refl;
  shift_by_int = refl;
  bits_of_two_kinds = refl;
  no_bits = refl;
  largest = refl;
  too_large = refl;
  slice_by_name = refl;
  bit_and_of_one = refl;
  bit_and_as_atom = refl;
  defined_in_one = refl;
}

pub reserved_names : ReservedNames
unfolding opened
reserved_names = record {
  slice_of_one = refl;
  slice_of_two = refl;
  less_of_one = refl;
  less_of_two = refl;
  element_at_of_two = refl;
  consensus_of_one = refl;
  consensus_of_two = refl;
  trait_of_two = refl;
}
