use Rattle.std.proofs.Common.{◌≡◌, ℕ, List, ap, subst, ◌∙◌, map}
use Rattle.cl_types.specs.Types.{PlainType}
use Rattle.cl_rules.specs.NativeTypes.{of_kind}
use Rattle.cl_rules.specs.CallShapes.{all_admit}
use Rattle.cl_typing.specs.Verdicts.{Rules, types_at}
use Rattle.cl_judging.proofs.FunctionCalls.{call_concluded}
use Rattle.cl_judging.proofs.calls.on_call.Goals as goal

pub returns : goal.returns
returns c bound fs same =
    let types : map (λ t. t.now) c.deref-2.result.now ≡ types_at c.args.parts.now = ap (map (λ t. t.now)) c.deref-2.ensures.value ∙ c.in_ok-types.ensures in
    call_concluded c.args.f.now c.args.parts.now c.call_type-ruled.result c.conclude.result
    (subst (λ (ts : List PlainType). Rules (of_kind (all_admit (map (λ (p : List ℕ × PlainType). p.1) c.args.f.now.params.items) ts) c.args.f.now.returns) c.call_type-ruled.result) types
    (subst (λ (ps : List (List ℕ × PlainType)). Rules (of_kind (all_admit (map (λ (p : List ℕ × PlainType). p.1) ps) (map (λ t. t.now) c.deref-2.result.now)) c.args.f.now.returns) c.call_type-ruled.result) c.deref.ensures.value c.call_type-ruled.ensures))
    c.conclude.ensures bound fs same
