use Rattle.std.proofs.Common.{◌+◌, true}
use Rattle.cl_sexpr.specs.declared.lexer.Token.TheVariants as given
use Rattle.cl_sexpr.specs.Lexed.{number_leaf}
use Rattle.cl_sexpr.proofs.Numbers.{number_taken}
use Rattle.cl_sexpr.proofs.Steps.{advances_one}
use Rattle.cl_sexpr.proofs.reader.take_number.Goals as goal

pub returns-then-branch-clause-found : goal.returns-then-branch-clause-found
returns-then-branch-clause-found c =
    advances_one c.args.reading.now c.add.new.self c.args.at c.args.bytes.now c.split_at.result.1.now (given.Item (number_leaf c.args.number)) c.args.size c.requires.number c.split_at.ensures.back c.split_at.ensures.back_len
    (number_taken c.args.reading.now c.add.new.self c.args.number c.args.at (c.args.at + c.args.size) true (rw (c.if-branch.true, c.item.ensures) at c.in_ok-add.ensures))
