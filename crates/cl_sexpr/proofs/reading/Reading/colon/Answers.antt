use Rattle.cl_sexpr.specs.Token.{Colon}
use Rattle.cl_sexpr.proofs.Levels.{last_reads}
use Rattle.cl_sexpr.proofs.reading.Reading.colon.Goals as goal

pub returns-in-Some : goal.returns-in-Some
returns-in-Some c =
    last_reads c.args.self.now c.in-Some.level.now c.colon.new.self Colon c.colon.result c.in-Some.ensures.item.3.0 c.in-Some.ensures.value c.colon.ensures
