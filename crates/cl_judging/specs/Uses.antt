-- What is given by name to map, filter and fold.
use Rattle.std.specs.Prelude.{◌≡◌, ℕ, nat_eq, Bool, List, ◌∷◌, length, Option, Some, None, if◌then◌else◌}
use Rattle.cl_types.specs.Types.{PlainType}
use Rattle.cl_sexpr.specs.declared.sexpr.Span.{Span}
use Rattle.cl_sexpr.specs.Tree.{Tree}
use Rattle.cl_forms.specs.declared.head.Head.{Head}
use Rattle.cl_forms.specs.declared.head.Head.TheVariants.{OnValues, And, Or}
use Rattle.cl_forms.specs.Heads.{Row, row_of, takes}
use Rattle.cl_rules.specs.Context.{Context}
use Rattle.cl_rules.specs.Verdicts.{Found, Verdict}
use Rattle.cl_rules.specs.Shapes.{There, NoSuch}
use Rattle.cl_rules.specs.CallShapes.{Usable, used, takes_values, map_verdict, filter_verdict, fold_verdict}
use Rattle.cl_code.specs.declared.op.Applied.TheVariants.{OnValues as OnValuesBy, And as AndBy, Or as OrBy}
use Rattle.cl_code.specs.declared.op.Iteration.{Iteration}
use Rattle.cl_code.specs.declared.op.Iteration.TheVariants.{Map, Filter, Fold}
use Rattle.cl_typing.specs.declared.uses.Usable.{Usable as CodeUsable}
use Rattle.cl_typing.specs.declared.uses.Usable.TheVariants.{Function, OnValues as OnValuesUse, And as AndUse, Or as OrUse}
pub use Rattle.cl_typing.specs.Uses.{IsUsed, Iterates}
use Rattle.cl_judging.specs.declared.context.Context.{Context as CodeContext}
use Rattle.cl_judging.specs.declared.uses.Use.{Use}
use Rattle.cl_judging.specs.Seen.{Shows}

abbrev pub iteration_verdict : Iteration → Row → Usable → List Found → Verdict
iteration_verdict Map = map_verdict
iteration_verdict Filter = filter_verdict
iteration_verdict Fold = fold_verdict

-- a native, if it can be given by name
abbrev pub native_use : Head → Span → Option Use
native_use (OnValues native) at = if (row_of (OnValues native)).by_name then Some (record { applied = OnValuesBy native at; usable = OnValuesUse native }) else None
native_use And at = Some (record { applied = AndBy at; usable = AndUse })
native_use Or at = Some (record { applied = OrBy at; usable = OrUse })
native_use head at = None

-- the parameters, the type and the height of a function that is applied
abbrev pub function_shown : CodeUsable → Option (List (List ℕ × PlainType) × PlainType × ℕ)
function_shown (Function params returns height) = Some (params.now, returns.now, height)
function_shown native = None

-- whether what is applied takes so many values
abbrev pub takes_used : CodeUsable → ℕ → Bool
takes_used (Function params returns height) count = nat_eq count (length params.now)
takes_used (OnValuesUse native) count = takes (row_of (OnValues native)).arity count
takes_used AndUse count = takes (row_of And).arity count
takes_used OrUse count = takes (row_of Or).arity count

-- an item gives this to be applied, in each context that is shown
abbrev pub Applies : CodeContext → Tree → CodeUsable → Type 0
Applies c e usable = (G : Context) → Shows c G →
    (u : Usable) × ((es : List Tree) → used G (e ∷ es) ≡ There u) × IsUsed usable u × ((count : ℕ) → takes_values u count ≡ takes_used usable count)

-- an item gives nothing to be applied
abbrev pub AppliesNothing : CodeContext → Tree → Type 0
AppliesNothing c e = (G : Context) → Shows c G → (es : List Tree) → used G (e ∷ es) ≡ NoSuch
