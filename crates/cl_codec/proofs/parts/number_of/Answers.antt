use Rattle.std.proofs.Common.{ℕ, ◌<◌, ◌+◌, ◌*◌, ◌^◌, arith, slice_index_or}
use Rattle.std.specs.Int.{w128}
use Rattle.std.proofs.Math.Facts.{Fits-of_lt, Fits-lt-pow}
use Rattle.cl_codec.proofs.Room.{room}
use Rattle.cl_codec.proofs.parts.number_of.Goals as goal

pub overflow_mul-number : goal.overflow_mul-number
overflow_mul-number c =
    let fits : c.loop-digit.number * 256 + 0 < 2 ^ 128 = room c.loop-digit.number c.loop-digit.digit-index 0 c.loop-digit.invariant.below (omega arith) (omega arith) in
    Fits-of_lt {w = w128} {n = c.loop-digit.number * 256} (omega arith)

pub overflow_add-number : goal.overflow_add-number
overflow_add-number c =
    let digit : ℕ = slice_index_or c.args.digits.now c.loop-digit.digit-index 0 in
    Fits-of_lt {w = w128} {n = c.loop-digit.number * 256 + digit} (room c.loop-digit.number c.loop-digit.digit-index digit c.loop-digit.invariant.below (omega arith) (Fits-lt-pow (c.type_inv.digits c.loop-digit.digit-index)))
