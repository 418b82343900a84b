-- Verdicts on the types of the parts.
use Rattle.std.proofs.Common.{◌≡◌, ℕ, List, [], ◌∷◌, map, Option, Result, refl, ap, sym, subst, ◌∙◌}
use Rattle.cl_types.specs.Types.{PlainType}
use Rattle.cl_types.specs.declared.fault.Fault.{Fault}
use Rattle.cl_sexpr.specs.declared.rule.Rule.{Rule}
use Rattle.cl_rules.specs.NativeTypes.{Ruled}
use Rattle.cl_rules.specs.Verdicts.{Found, types_of}
use Rattle.cl_code.specs.Typed.{type_of}
use Rattle.cl_typing.specs.declared.concluding.Checked.{Checked}
use Rattle.cl_typing.specs.declared.concluding.Concluded.{Concluded}
use Rattle.cl_typing.specs.Verdicts.{Facts, facts, facts_of, types_at, RulesWith, ConcludesAs, ConcludesRow}

pub types_seen : (fs : List Found) (cs : List Checked) → map facts fs ≡ map facts_of cs → types_of fs ≡ types_at cs
types_seen [] [] h = refl
types_seen [] (c ∷ cs) h = absurd cc
types_seen (f ∷ fs) [] h = absurd cc
types_seen (f ∷ fs) (c ∷ cs) h =
    let first : facts f ≡ facts_of c = cc in
    let rest : map facts fs ≡ map facts_of cs = cc in
    ap (λ (y : Facts). y.type ∷ types_of fs) first ∙ ap (λ (ts : List PlainType). type_of c.code ∷ ts) (types_seen fs cs rest)

-- where a row is ruled at these types, which are those of the parts, and is concluded of them, the verdict is that of the row
pub row_concluded : (row : List PlainType → Ruled) (own : Option PlainType) (applied : ℕ) (cs : List Checked) (ts : List PlainType) (ruled : Result PlainType (Fault Rule)) (result : Result Concluded (Fault Rule)) → ts ≡ types_at cs → RulesWith own (row ts) ruled → ConcludesAs ruled own applied cs result → ConcludesRow row applied cs result
row_concluded row own applied cs ts ruled result is h k bound fs same =
    k (row (types_of fs)) bound fs (subst (λ (us : List PlainType). RulesWith own (row us) ruled) (is ∙ sym (types_seen fs cs same)) h) same
