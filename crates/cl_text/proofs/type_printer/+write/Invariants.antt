use Rattle.std.proofs.Common.{◌≡◌, ◌+◌, ◌*◌, ◌++◌, drop}
use Rattle.cl_types.specs.Types.{weight_of, weights_of, fields}
use Rattle.cl_text.specs.PrintedTypes.{more_fields_text}
use Rattle.cl_text.proofs.type_printer.+write.Given as goal

abbrev pub invariant-write_more-loop-field : goal.invariant-write_more-loop-field
invariant-write_more-loop-field l =
    l.initial.out.items ++ more_fields_text (fields l.row) ≡ l.out.items ++ more_fields_text (fields (drop l.field-index l.row))

abbrev pub decreases-write_type : goal.decreases-write_type
decreases-write_type l = 4 * weight_of l.ty.now

abbrev pub decreases-write_list : goal.decreases-write_list
decreases-write_list l = 4 * weight_of l.entry.now + 1

abbrev pub decreases-write_optional : goal.decreases-write_optional
decreases-write_optional l = 4 * weight_of l.part.now + 1

abbrev pub decreases-write_response : goal.decreases-write_response
decreases-write_response l = 4 * (weight_of l.good.now + weight_of l.bad.now) + 1

abbrev pub decreases-write_tuple : goal.decreases-write_tuple
decreases-write_tuple l = 4 * weights_of (fields l.row.now) + 2

abbrev pub decreases-write_fields : goal.decreases-write_fields
decreases-write_fields l = 4 * weights_of (fields l.row.now) + 1

abbrev pub decreases-write_more : goal.decreases-write_more
decreases-write_more l = 4 * weights_of (fields l.row.now)

abbrev pub decreases-write_field : goal.decreases-write_field
decreases-write_field l = 4 * weight_of l.field.now.1 + 1
