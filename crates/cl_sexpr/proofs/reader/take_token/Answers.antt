use Rattle.cl_sexpr.proofs.Steps.{advances_one}
use Rattle.cl_sexpr.proofs.reader.take_token.Goals as goal

pub returns-then-branch-clause-found : goal.returns-then-branch-clause-found
returns-then-branch-clause-found c =
    advances_one c.args.reading.now c.take.new.reading c.args.at c.args.bytes.now c.split_at.result.1.now c.in-Ok.given c.in-Ok.size c.in-Ok.ensures.found c.split_at.ensures.back c.split_at.ensures.back_len (rw c.if-branch.true at c.in_ok-take-in-Ok.ensures)
