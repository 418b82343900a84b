-- The shape of an expression: what it breaks by itself, which of its parts are looked at, each with the names that are bound
-- there, and the verdict at what is found of them.
use Rattle.std.specs.Prelude.{ℕ, not, Bool, true, false, List, [], ◌∷◌, drop, length, Option, Some, None}
use Rattle.cl_types.specs.Types.{PlainType, NoType, size_of, admits}
use Rattle.cl_shapes.specs.declared.name.CostName.{CostName}
use Rattle.cl_sexpr.specs.Tree.{Tree, LeafAt, Named}
use Rattle.cl_forms.specs.Heads.{Row, takes}
use Rattle.cl_rules.specs.Faults.{ShapeFaults, sound_shape}
use Rattle.cl_types.specs.TypeKinds.{is_uint, is_principal}
use Rattle.cl_rules.specs.NativeTypes.{Ruled, fine, if_kind}
use Rattle.cl_rules.specs.Bills.{Free, Charge}
use Rattle.cl_rules.specs.Context.{Names}
use Rattle.cl_rules.specs.Verdicts.{Found, Verdict, types_of, number_at, summed}

-- The parts that are looked at, from the left, each with the names that are bound there. The names at later parts need
-- nothing of a part, or they need what is found of it.
pub data Plan : Type 0 where
  Ends : Plan
  Part : Names → Tree → Plan → Plan
  Gives : Names → Tree → (Found → Plan) → Plan

pub record Shape : Type 0 where
  pub faults : ShapeFaults
  pub plan : Plan
  pub verdict : List Found → Verdict

-- all these parts, with the same names
abbrev pub parts : Names → List Tree → Plan
parts B [] = Ends
parts B (e ∷ es) = Part B e (parts B es)

-- the verdict where nothing is asked of it
abbrev pub no_verdict : List Found → Verdict
no_verdict fs = summed (fine NoType) Free fs

-- a shape with these faults, of which no part is looked at
abbrev pub unlooked : ShapeFaults → Shape
unlooked faults = record { faults = faults; plan = Ends; verdict = no_verdict }

-- an expression without parts, which is charged by the size of its type
abbrev pub value_shape : CostName → Ruled → Shape
value_shape name ruled = record { faults = sound_shape; plan = Ends; verdict = λ fs. summed ruled (Charge name (size_of ruled.type)) fs }

-- ---- natives all of whose arguments are evaluated

-- the number of arguments isn't the row's
abbrev pub is_miscounted : Row → List Tree → Bool
is_miscounted row es = not (takes row.arity (length es))

-- the ruling at the types of the arguments, and the row's charge
abbrev pub evaluated : Row → (List PlainType → Ruled) → List Found → Verdict
evaluated row ruled fs = summed (ruled (types_of fs)) (Charge row.cost (number_at row.cost (types_of fs))) fs

abbrev pub native_shape : Row → (List Found → Verdict) → Names → List Tree → Shape
native_shape row verdict B es = record { faults = record sound_shape { argument_count = is_miscounted row es }; plan = parts B es; verdict = verdict }

-- ---- arguments of stated types

-- what a row wants of an argument: a uint, a principal, or what a declared type admits
pub data Wanted : Type 0 where
  AUint APrincipal : Wanted
  Admitted : PlainType → Wanted

abbrev pub is_wanted : Wanted → PlainType → Bool
is_wanted AUint t = is_uint t
is_wanted APrincipal t = is_principal t
is_wanted (Admitted u) t = admits u t

-- each argument is what is wanted in its place
abbrev pub are_wanted : List Wanted → List PlainType → Bool
are_wanted [] [] = true
are_wanted (w ∷ ws) (t ∷ ts) = elim (is_wanted w t) [ true ↦ are_wanted ws ts | false ↦ false ]
are_wanted ws ts = false

abbrev pub stated : List Wanted → Ruled → List PlainType → Ruled
stated ws answer ts = if_kind (are_wanted ws ts) answer

-- ---- a name that stands first and isn't evaluated

-- what the first argument is: there is none; it is no name; a name of no such thing; a name of this
pub data First (A : Type 0) : Type 0 where
  Absent NoName NoSuch : First A
  There : A → First A

abbrev pub there_or_not : {A : Type 0} → Option A → First A
there_or_not None = NoSuch
there_or_not (Some a) = There a

abbrev pub first_named : {A : Type 0} → (List ℕ → Option A) → List Tree → First A
first_named find [] = Absent
first_named find (LeafAt (Named x) at ∷ es) = there_or_not (find x)
first_named find (e ∷ es) = NoName

abbrev pub is_no_name : {A : Type 0} → First A → Bool
is_no_name NoName = true
is_no_name first = false

abbrev pub is_no_such : {A : Type 0} → First A → Bool
is_no_such NoSuch = true
is_no_such first = false

abbrev pub at_first : {A : Type 0} → First A → (A → List Found → Verdict) → List Found → Verdict
at_first (There a) verdict fs = verdict a fs
at_first first verdict fs = no_verdict fs

-- the number of arguments isn't the row's, or the first is no name
abbrev pub named_faults : {A : Type 0} → Row → List Tree → First A → ShapeFaults
named_faults row es first = record sound_shape { argument_count = is_miscounted row es; bad_binding = is_no_name first }

-- the other arguments are evaluated
abbrev pub named_shape : {A : Type 0} → ShapeFaults → First A → (A → List Found → Verdict) → Names → List Tree → Shape
named_shape faults first verdict B es = record { faults = faults; plan = parts B (drop 1 es); verdict = at_first first verdict }
