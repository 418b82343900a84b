use Rattle.cl_judging.proofs.Breaks.{is_judged, is_broken, is_typed, is_first}
use Rattle.cl_judging.proofs.judging.judge.Goals as goal

pub returns-in-Ok-clause-plain : goal.returns-in-Ok-clause-plain
returns-in-Ok-clause-plain c = is_judged c.args.ctx.now c.args.names.now.entries c.args.e.now c.in-Ok.checked c.in-Ok.ensures.text c.in-Ok.ensures.found

pub returns-in-Ok-clause-typed : goal.returns-in-Ok-clause-typed
returns-in-Ok-clause-typed c = is_typed c.args.ctx.now c.args.names.now.entries c.args.e.now c.in-Ok.checked c.the_plain_program_is_right.ensures.typed c.in-Ok.ensures.found

pub returns-in-Err-clause-plain : goal.returns-in-Err-clause-plain
returns-in-Err-clause-plain c = is_broken c.args.ctx.now c.args.names.now.entries c.args.e.now c.in-Err.fault c.in-Err.ensures.found

pub returns-in-Err-clause-first : goal.returns-in-Err-clause-first
returns-in-Err-clause-first c = is_first c.args.ctx.now c.args.names.now.entries c.args.e.now c.in-Err.fault c.the_plain_program_is_right.ensures.stops c.a_walk_stops_at_the_first_break.ensures.expressions c.in-Err.ensures.found
