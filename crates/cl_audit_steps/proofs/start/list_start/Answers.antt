use Rattle.std.proofs.Common.{◌∙◌}
use Rattle.cl_audit_steps.specs.Seen.{seen}
use Rattle.cl_audit_steps.proofs.FormLaws.{not_begun, starts_eq}
use Rattle.cl_audit_steps.proofs.StartLaws.{not_listed, native_listed, call_listed}
use Rattle.cl_audit_steps.proofs.start.list_start.Goals as goal

pub returns-in_default : goal.returns-in_default
returns-in_default c outer take enter s = not_begun _ _ take enter (seen c.args.scope.now outer) s (not_listed c.args.items.now take enter (seen c.args.scope.now outer) s c.in_default.ensures) c.wrong.ensures

pub returns-in-Some-native : goal.returns-in-Some-native
returns-in-Some-native c outer = starts_eq (seen c.args.scope.now outer) _ _ _ (λ take enter s. native_listed c.args.items.now _ _ _ take enter (seen c.args.scope.now outer) s c.in-Some.ensures c.in-Some-native.ensures) (c.head_start.ensures (seen c.args.scope.now outer))

pub returns-in-None : goal.returns-in-None
returns-in-None c outer take enter s = call_listed c.args.items.now _ _ take enter (seen c.args.scope.now outer) s c.in-Some.ensures c.in-None.ensures ∙ c.call_start.ensures (seen c.args.scope.now outer) take enter s
