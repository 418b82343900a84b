-- Verdicts on natives.
use Rattle.std.proofs.Common.{◌≡◌, ℕ, zero, suc, drop, take, List, [], ◌∷◌, map, Option, None, Result, refl, sym, subst}
use Rattle.cl_types.specs.Types.{PlainType}
use Rattle.cl_types.specs.declared.fault.Fault.{Fault}
use Rattle.cl_sexpr.specs.declared.rule.Rule.{Rule}
use Rattle.cl_forms.specs.Heads.{Row}
use Rattle.cl_rules.specs.NativeTypes.{Ruled}
use Rattle.cl_rules.specs.Bills.{Charge, Both}
use Rattle.cl_rules.specs.Verdicts.{Found, types_of, sum_of, number_at}
use Rattle.cl_rules.specs.Shapes.{evaluated}
use Rattle.cl_typing.specs.declared.concluding.Checked.{Checked}
use Rattle.cl_typing.specs.declared.concluding.Concluded.{Concluded}
use Rattle.cl_values.specs.declared.native.Native.{Native}
use Rattle.cl_rules.specs.NativeTypes.{native_type}
use Rattle.cl_typing.specs.Verdicts.{facts, facts_of, types_at, RulesWith, Rules, Concludes, ConcludesAs, ConcludesRow}
use Rattle.cl_typing.proofs.VerdictLaws.{types_seen}
use Rattle.cl_judging.specs.declared.node.Evaluated.TheVariants.{Values}
use Rattle.cl_judging.specs.Walking.{Judges}
use Rattle.cl_rules.specs.ControlShapes.{last_row, binds}
use Rattle.cl_judging.specs.LetWalk.{JudgesLet}

-- a native on values
pub native_judged : (native : Native) (cs : List Checked) (result : Result Concluded (Fault Rule)) → ConcludesRow (native_type native) 0 cs result → Judges (Values native) cs result
native_judged native cs result h row count fs same = h (Both (Charge row.cost (number_at row.cost (types_of fs))) (sum_of fs)) fs same

-- where a row is ruled at the types of the parts, a native with this row is judged
pub evaluated_by : (row : List PlainType → Ruled) (own : Option PlainType) (cs : List Checked) (ruled : Result PlainType (Fault Rule)) (result : Result Concluded (Fault Rule)) → RulesWith own (row (types_at cs)) ruled → ConcludesAs ruled own 0 cs result → (r : Row) (fs : List Found) → map facts fs ≡ map facts_of cs → Concludes (evaluated r row fs) result
evaluated_by row own cs ruled result h k r fs same =
    k (row (types_of fs)) (Both (Charge r.cost (number_at r.cost (types_of fs))) (sum_of fs)) fs (subst (λ (ts : List PlainType). RulesWith own (row ts) ruled) (sym (types_seen fs cs same)) h) same

facts_drop : (n : ℕ) (fs : List Found) (cs : List Checked) → map facts fs ≡ map facts_of cs → map facts (drop n fs) ≡ map facts_of (drop n cs)
facts_drop zero fs cs h = h
facts_drop (suc n) [] [] h = refl
facts_drop (suc n) [] (c ∷ cs) h = absurd cc
facts_drop (suc n) (f ∷ fs) [] h = absurd cc
facts_drop (suc n) (f ∷ fs) (c ∷ cs) h = facts_drop n fs cs cc

pub let_judged : (n : ℕ) (cs : List Checked) (ruled : Result PlainType (Fault Rule)) (result : Result Concluded (Fault Rule)) → Rules (last_row (types_at (drop n cs))) ruled → ConcludesAs ruled None 0 cs result → JudgesLet n cs result
let_judged n cs ruled result h k own fs same =
    k (last_row (types_of (drop n fs))) (Both (Both own (binds (types_of (take n fs)))) (sum_of fs)) fs (subst (λ (ts : List PlainType). Rules (last_row ts) ruled) (sym (types_seen (drop n fs) (drop n cs) (facts_drop n fs cs same))) h) same
