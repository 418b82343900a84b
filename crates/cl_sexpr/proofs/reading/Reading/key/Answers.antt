use Rattle.cl_sexpr.specs.Token.{Key}
use Rattle.cl_sexpr.proofs.Levels.{last_reads}
use Rattle.cl_sexpr.proofs.reading.Reading.key.Goals as goal

pub returns-in-Some : goal.returns-in-Some
returns-in-Some c =
    last_reads c.args.self.now c.in-Some.level.now c.key.new.self (Key c.args.name) c.key.result c.in-Some.ensures.item.3.0 c.in-Some.ensures.value c.key.ensures
