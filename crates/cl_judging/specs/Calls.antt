-- Calls of functions of the contract.
use Rattle.std.specs.Prelude.{◌≡◌, ℕ, ◌+◌, List, map, Result}
use Rattle.cl_types.specs.Types.{PlainType}
use Rattle.cl_types.specs.declared.fault.Fault.{Fault}
use Rattle.cl_sexpr.specs.declared.sexpr.Span.{Span}
use Rattle.cl_sexpr.specs.declared.rule.Rule.{Rule}
use Rattle.cl_sexpr.specs.declared.rule.Break.{Break}
use Rattle.cl_sexpr.specs.Tree.{Tree, forest, forest_depth}
use Rattle.cl_rules.specs.NativeTypes.{of_kind}
use Rattle.cl_rules.specs.Bills.{Bill}
use Rattle.cl_rules.specs.Context.{Names, signature_in}
use Rattle.cl_rules.specs.Verdicts.{Found, types_of, concluded}
use Rattle.cl_rules.specs.CallShapes.{all_admit, call_shape}
use Rattle.cl_judging.specs.declared.context.Signature.{Signature as CodeSignature}
use Rattle.cl_judging.specs.declared.context.Context.{Context as CodeContext}
use Rattle.cl_typing.specs.declared.concluding.Checked.{Checked}
use Rattle.cl_typing.specs.declared.concluding.Concluded.{Concluded}
use Rattle.cl_code.specs.declared.definition.Function.{Function}
use Rattle.cl_contracts.specs.Known.{Shown, shown as shown_function}
use Rattle.cl_judging.specs.Seen.{shown}
use Rattle.cl_typing.specs.Verdicts.{facts, facts_of, Concludes}
use Rattle.cl_judging.specs.Walking.{ChecksAs}

-- a verdict on a call of a function that is shown so, whatever its bound
abbrev pub ConcludesCall : Shown → Bill → List Found → Result Concluded (Fault Rule) → Type 0
ConcludesCall s bound fs result = Concludes (concluded (of_kind (all_admit (map (λ (p : List ℕ × PlainType). p.1) s.params) (types_of fs)) s.returns) s.height bound fs) result

abbrev pub JudgesCall : CodeSignature → List Checked → Result Concluded (Fault Rule) → Type 0
JudgesCall f cs result = (bound : Bill) (fs : List Found) → map facts fs ≡ map facts_of cs → ConcludesCall (shown f) bound fs result

abbrev pub ChecksCall : CodeContext → List ℕ → Names → List Tree → Span → Result Checked (Fault Break) → Type 0
ChecksCall c x B args at result = ChecksAs c (λ G. call_shape (signature_in x G.functions) B args) at (forest_depth (forest args) + 1) result

-- the same of a function of another contract
abbrev pub JudgesCallee : Function → List Checked → Result Concluded (Fault Rule) → Type 0
JudgesCallee f cs result = (bound : Bill) (fs : List Found) → map facts fs ≡ map facts_of cs → ConcludesCall (shown_function f) bound fs result
