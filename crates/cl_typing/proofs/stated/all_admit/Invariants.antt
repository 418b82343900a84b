use Rattle.std.proofs.Common.{◌≡◌, map, drop, length}
use Rattle.cl_rules.specs.Shapes.{are_wanted, Admitted}
use Rattle.cl_typing.proofs.stated.all_admit.Given as goal

abbrev pub invariant-loop-i : goal.invariant-loop-i
invariant-loop-i l = (length l.params ≡ length l.types) × (are_wanted (map (λ p. Admitted p.1) (drop l.i l.params)) (map (λ t. t.now) (drop l.i l.types)) ≡ are_wanted (map (λ p. Admitted p.1) l.params) (map (λ t. t.now) l.types))
