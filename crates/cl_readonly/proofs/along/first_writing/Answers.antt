use Rattle.std.proofs.Common.{sym, ◌∙◌}
use Rattle.cl_readonly.proofs.Wrong.{none_writes, found_writes}
use Rattle.cl_readonly.proofs.along.first_writing.Goals as goal

pub returns-clause-none : goal.returns-clause-none
returns-clause-none c none known E knows stands =
    none_writes known c.args.parts.now c.in_ok-writing.writing.keys c.requires.names (c.in_ok-writing.ensures known E knows stands) (sym none ∙ c.first_wrong.ensures)

pub returns-clause-first : goal.returns-clause-first
returns-clause-first c = found_writes c.args.deployed.now c.args.parts.now c.in_ok-writing.writing.keys c.requires.names c.first_wrong.result c.first_wrong.ensures (λ known E knows stands. c.in_ok-writing.ensures known E knows stands)
