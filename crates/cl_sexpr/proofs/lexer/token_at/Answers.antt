use Rattle.cl_sexpr.proofs.Steps.{unmarked}
use Rattle.cl_sexpr.proofs.lexer.token_at.Goals as goal

pub longer_at-requires-clause-unmarked : goal.longer_at-requires-clause-unmarked
longer_at-requires-clause-unmarked c = unmarked c.args.bytes.now c.split_byte-first.result.0 c.split_byte-first.result.1.now c.split_byte-first.ensures c.in-None.ensures
