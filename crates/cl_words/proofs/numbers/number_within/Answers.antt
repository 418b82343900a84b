use Rattle.std.proofs.Common.{sym, ◌∙◌}
use Rattle.cl_words.proofs.Digits.{all_digits}
use Rattle.cl_words.proofs.numbers.number_within.Goals as goal

pub value_of-requires : goal.value_of-requires
value_of-requires c = all_digits c.as_bytes-digits.result.now (sym c.are_digits.ensures ∙ c.if-not-are_digits.false)
