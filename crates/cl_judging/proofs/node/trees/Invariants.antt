use Rattle.std.proofs.Common.{◌≡◌, ◌≤◌, ◌+◌, ◌++◌, length, vec_len, vec_capacity}
use Rattle.cl_judging.specs.Walking.{codes_of}
use Rattle.cl_judging.proofs.node.trees.Given as goal

abbrev pub invariant-loop-part : goal.invariant-loop-part
invariant-loop-part l =
    (l.codes.items ++ codes_of l.part-iterator.rest.items ≡ codes_of l.fn.parts.items)
    × (vec_len l.codes + length l.part-iterator.rest.items ≤ vec_capacity l.codes)
