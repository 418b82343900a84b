use Rattle.std.proofs.Common.{◌≡◌, take}
use Rattle.std.specs.List.{flat_map}
use Rattle.cl_exports.specs.Verdicts.{function_line}
use Rattle.cl_exports.proofs.verdict.text_of_functions.Given as goal

abbrev pub invariant-loop-function : goal.invariant-loop-function
invariant-loop-function l = l.text.items ≡ flat_map function_line (take l.function-index l.functions)
