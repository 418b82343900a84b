use Rattle.std.proofs.Common.{◌≡◌, ◌++◌, take}
use Rattle.std.specs.List.{flat_map}
use Rattle.cl_exports.specs.Verdicts.{function_numbers}
use Rattle.cl_exports.proofs.verdict.push_functions.Given as goal

abbrev pub invariant-loop-function : goal.invariant-loop-function
invariant-loop-function l = l.numbers.items ≡ l.initial.numbers.items ++ flat_map function_numbers (take l.function-index l.functions)
