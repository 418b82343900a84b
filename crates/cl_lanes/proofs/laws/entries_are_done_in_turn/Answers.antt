use Rattle.cl_lanes.proofs.TurnLaws.{calls_done_in_turn, barriers_done_in_turn}
use Rattle.cl_lanes.proofs.laws.entries_are_done_in_turn.Goals as goal

pub returns-clause-calls : goal.returns-clause-calls
returns-clause-calls c = calls_done_in_turn

pub returns-clause-barriers : goal.returns-clause-barriers
returns-clause-barriers c = barriers_done_in_turn
