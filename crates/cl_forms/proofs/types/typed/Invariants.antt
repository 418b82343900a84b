use Rattle.std.proofs.Common.{◌≡◌, ◌++◌, drop, option_map}
use Rattle.cl_forms.specs.Items.{typed}
use Rattle.cl_forms.proofs.types.typed.Given as goal

abbrev pub invariant-loop-param : goal.invariant-loop-param
invariant-loop-param l = option_map (λ more. l.list.items ++ more) (typed (drop l.param-index l.params)) ≡ typed l.params
