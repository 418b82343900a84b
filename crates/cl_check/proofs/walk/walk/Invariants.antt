use Rattle.cl_check.proofs.WalkedForms.{HasWalked}
use Rattle.cl_check.proofs.walk.walk.Given as goal

abbrev pub invariant-loop-place : goal.invariant-loop-place
invariant-loop-place l = HasWalked l.initial.ctx l.forms l.order l.place-index l.definitions.items l.ctx
