use Rattle.std.proofs.Common.{ap, ◌∙◌}
use Rattle.cl_audit_steps.specs.Seen.{seen}
use Rattle.cl_audit_steps.specs.Steps.{on_one}
use Rattle.cl_audit_steps.proofs.ValueLaws.{ends_as, ends_eq}
use Rattle.cl_audit_steps.proofs.values.on_one.Goals as goal

pub returns-in-Choose : goal.returns-in-Choose
returns-in-Choose c outer take enter s = ap (λ k. on_one take enter (seen c.args.scope.now outer) k c.args.value s) c.in-Choose.is ∙ ends_as _ _ _ (seen c.args.scope.now outer) take enter s (c.choose.ensures (seen c.args.scope.now outer) take enter s) c.uncharged_end.ensures

pub returns-in-Assert : goal.returns-in-Assert
returns-in-Assert c outer take enter s = ap (λ k. on_one take enter (seen c.args.scope.now outer) k c.args.value s) c.in-Assert.is ∙ ends_as _ _ _ (seen c.args.scope.now outer) take enter s (c.assert.ensures (seen c.args.scope.now outer) take enter s) c.uncharged_end-in-Assert.ensures

pub returns-in-Unwrap : goal.returns-in-Unwrap
returns-in-Unwrap c outer take enter s = ap (λ k. on_one take enter (seen c.args.scope.now outer) k c.args.value s) c.in-Unwrap.is ∙ ends_as _ _ _ (seen c.args.scope.now outer) take enter s (c.unwrap.ensures (seen c.args.scope.now outer) take enter s) c.uncharged_end-in-Unwrap.ensures

pub returns-in-UnwrapErr : goal.returns-in-UnwrapErr
returns-in-UnwrapErr c outer take enter s = ap (λ k. on_one take enter (seen c.args.scope.now outer) k c.args.value s) c.in-UnwrapErr.is ∙ ends_as _ _ _ (seen c.args.scope.now outer) take enter s (c.unwrap_err.ensures (seen c.args.scope.now outer) take enter s) c.uncharged_end-in-UnwrapErr.ensures

pub returns-in-Try : goal.returns-in-Try
returns-in-Try c outer take enter s = ap (λ k. on_one take enter (seen c.args.scope.now outer) k c.args.value s) c.in-Try.is ∙ ends_as _ _ _ (seen c.args.scope.now outer) take enter s (c.unwrap_or_throw.ensures (seen c.args.scope.now outer) take enter s) c.uncharged_end-in-Try.ensures

pub returns-in-Optional : goal.returns-in-Optional
returns-in-Optional c outer take enter s = ap (λ k. on_one take enter (seen c.args.scope.now outer) k c.args.value s) c.in-Optional.is ∙ c.match_optional.ensures (seen c.args.scope.now outer) take enter s

pub returns-in-Response : goal.returns-in-Response
returns-in-Response c outer take enter s = ap (λ k. on_one take enter (seen c.args.scope.now outer) k c.args.value s) c.in-Response.is ∙ c.match_response.ensures (seen c.args.scope.now outer) take enter s

pub returns-in-Get : goal.returns-in-Get
returns-in-Get c outer = ends_eq (seen c.args.scope.now outer) _ _ _ (λ take enter s. ap (λ k. on_one take enter (seen c.args.scope.now outer) k c.args.value s) c.in-Get.is) (c.part_taken.ensures (seen c.args.scope.now outer))

pub returns-in-AsMaxLen : goal.returns-in-AsMaxLen
returns-in-AsMaxLen c outer = ends_eq (seen c.args.scope.now outer) _ _ _ (λ take enter s. ap (λ k. on_one take enter (seen c.args.scope.now outer) k c.args.value s) c.in-AsMaxLen.is) (c.as_max_len.ensures (seen c.args.scope.now outer))

pub returns-in-Filter : goal.returns-in-Filter
returns-in-Filter c outer take enter s = ap (λ k. on_one take enter (seen c.args.scope.now outer) k c.args.value s) c.in-Filter.is ∙ c.on_filter.ensures outer take enter s
