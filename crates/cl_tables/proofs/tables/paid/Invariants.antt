use Rattle.std.proofs.Common.{◌≡◌, ◌≤◌, drop, length}
use Rattle.cl_events.specs.State.{holdings}
use Rattle.cl_tables.specs.Spelled.{AreHeld}
use Rattle.cl_tables.proofs.tables.paid.Given as goal

abbrev pub invariant-loop-i : goal.invariant-loop-i
invariant-loop-i l = record { within : l.i ≤ length l.holders; paid : l.stx.ledger ≡ holdings (drop l.i l.holders); held : AreHeld l.stx.ledger }

abbrev pub decreases-loop-i : goal.decreases-loop-i
decreases-loop-i l = l.i
