use Rattle.std.proofs.Common.{◌+◌, refl}
use Rattle.cl_sexpr.proofs.Numbers.{int_lexes, uint_lexes}
use Rattle.cl_sexpr.proofs.number.number_at.Goals as goal

pub returns-in_ok-value : goal.returns-in_ok-value
returns-in_ok-value c =
    λ at. uint_lexes at c.in_ok-value.value c.in_ok-value.size (c.in_ok-value.size + 1) c.split_byte-first.result.0 c.args.bytes.now c.split_byte-first.result.1.now c.split_byte-first.ensures c.if-first-eq117.true refl c.in_ok-value.ensures

pub returns-in_ok-value-2 : goal.returns-in_ok-value-2
returns-in_ok-value-2 c = λ at. int_lexes at c.in_ok-value-2.value c.in_ok-value-2.size c.args.bytes.now c.in_ok-value-2.ensures
