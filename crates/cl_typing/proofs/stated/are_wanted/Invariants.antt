use Rattle.std.proofs.Common.{◌≡◌, map, drop, length}
use Rattle.cl_rules.specs.Shapes.{are_wanted}
use Rattle.cl_typing.specs.Stated.{wanted_of}
use Rattle.cl_typing.proofs.stated.are_wanted.Given as goal

abbrev pub invariant-loop-i : goal.invariant-loop-i
invariant-loop-i l = (length l.wanted ≡ length l.types) × (are_wanted (map wanted_of (drop l.i l.wanted)) (map (λ t. t.now) (drop l.i l.types)) ≡ are_wanted (map wanted_of l.wanted) (map (λ t. t.now) l.types))
