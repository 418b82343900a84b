use Rattle.std.proofs.Common.{◌≡◌, [], map, drop}
use Rattle.cl_forms.proofs.Twice.{repeats}
use Rattle.cl_operands.proofs.keyed.repeats.Given as goal

abbrev pub invariant-loop-entry : goal.invariant-loop-entry
invariant-loop-entry l = repeats l.seen.keys (map (λ e. e.0) (drop l.entry-index l.entries)) ≡ repeats [] (map (λ e. e.0) l.entries)
