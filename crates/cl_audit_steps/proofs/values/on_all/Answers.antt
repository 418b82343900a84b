use Rattle.std.proofs.Common.{ap, ◌∙◌}
use Rattle.cl_audit_steps.specs.Seen.{seen}
use Rattle.cl_audit_steps.specs.Steps.{on_all}
use Rattle.cl_audit_steps.proofs.ValueLaws.{ends_eq}
use Rattle.cl_audit_steps.proofs.values.on_all.Goals as goal

pub returns-in-Last : goal.returns-in-Last
returns-in-Last c outer = ends_eq (seen c.args.scope.now outer) _ _ _ (λ take enter s. ap (λ k. on_all enter (seen c.args.scope.now outer) k c.args.values.items s) c.in-Last.is) (c.on_last.ensures (seen c.args.scope.now outer))

pub returns-in-Native : goal.returns-in-Native
returns-in-Native c outer = ends_eq (seen c.args.scope.now outer) _ _ _ (λ take enter s. ap (λ k. on_all enter (seen c.args.scope.now outer) k c.args.values.items s) c.in-Native.is) (c.on_native.ensures (seen c.args.scope.now outer))

pub returns-in-Call : goal.returns-in-Call
returns-in-Call c outer take enter s = ap (λ k. on_all enter (seen c.args.scope.now outer) k c.args.values.items s) c.in-Call.is ∙ c.on_call.ensures outer take enter s

pub returns-in-Across : goal.returns-in-Across
returns-in-Across c outer = ends_eq (seen c.args.scope.now outer) _ _ _ (λ take enter s. ap (λ k. on_all enter (seen c.args.scope.now outer) k c.args.values.items s) c.in-Across.is) (c.on_across.ensures outer)

pub returns-in-Map : goal.returns-in-Map
returns-in-Map c outer = ends_eq (seen c.args.scope.now outer) _ _ _ (λ take enter s. ap (λ k. on_all enter (seen c.args.scope.now outer) k c.args.values.items s) c.in-Map.is) (c.on_map.ensures outer)

pub returns-in-Fold : goal.returns-in-Fold
returns-in-Fold c outer = ends_eq (seen c.args.scope.now outer) _ _ _ (λ take enter s. ap (λ k. on_all enter (seen c.args.scope.now outer) k c.args.values.items s) c.in-Fold.is) (c.on_fold.ensures outer)
