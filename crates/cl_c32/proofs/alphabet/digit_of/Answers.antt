use Rattle.std.proofs.Common.{arith}
use Rattle.cl_c32.proofs.Characters.{digit_of-read, digit_of-unread}
use Rattle.cl_c32.proofs.alphabet.digit_of.Goals as goal

pub returns-then-digit-lt32 : goal.returns-then-digit-lt32
returns-then-digit-lt32 c = digit_of-read c.args.character (omega arith) c.if-digit-lt32.true

pub returns-else-digit-lt32 : goal.returns-else-digit-lt32
returns-else-digit-lt32 c = digit_of-unread c.args.character (omega arith) c.if-digit-lt32.false
