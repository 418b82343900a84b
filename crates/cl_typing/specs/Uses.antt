-- What is given by name to be applied, as the code has it.
use Rattle.std.specs.Prelude.{◌≡◌, List, map, Result}
use Rattle.cl_types.specs.Types.{PlainType}
use Rattle.cl_types.specs.declared.fault.Fault.{Fault}
use Rattle.cl_sexpr.specs.declared.rule.Rule.{Rule}
use Rattle.cl_forms.specs.Heads.{Row}
use Rattle.cl_forms.specs.declared.head.Head.TheVariants as heads
use Rattle.cl_rules.specs.NativeTypes.{Ruled}
use Rattle.cl_rules.specs.Verdicts.{Found, Verdict}
use Rattle.cl_rules.specs.CallShapes.{Usable, AFunction, ANative}
use Rattle.cl_typing.specs.declared.concluding.Checked.{Checked}
use Rattle.cl_typing.specs.declared.concluding.Concluded.{Concluded}
use Rattle.cl_typing.specs.declared.uses.Usable.{Usable as CodeUsable}
use Rattle.cl_typing.specs.declared.uses.Usable.TheVariants.{Function, OnValues, And, Or}
use Rattle.cl_typing.specs.Verdicts.{facts, facts_of, Rules, Concludes}

-- the same function, whatever its name, its access and its bound; or the same native
abbrev pub IsUsed : CodeUsable → Usable → Type 0
IsUsed (Function params returns height) (AFunction f) = (f.params ≡ params.now) × (f.returns ≡ returns.now) × (f.height ≡ height)
IsUsed (OnValues n) (ANative row) = row.head ≡ heads.OnValues n
IsUsed And (ANative row) = row.head ≡ heads.And
IsUsed Or (ANative row) = row.head ≡ heads.Or
IsUsed used u = ⊥

-- what a row rules of what is applied
abbrev pub RulesUse : (Usable → Ruled) → CodeUsable → Result PlainType (Fault Rule) → Type 0
RulesUse row used result = (u : Usable) → IsUsed used u → Rules (row u) result

-- the verdict on an iteration, whatever its charge and the bounds
abbrev pub Iterates : (Row → Usable → List Found → Verdict) → CodeUsable → List Checked → Result Concluded (Fault Rule) → Type 0
Iterates verdict used parts result = (u : Usable) → IsUsed used u → (row : Row) (fs : List Found) → map facts fs ≡ map facts_of parts → Concludes (verdict row u fs) result
