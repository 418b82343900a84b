-- Natives on values alone, tuples, parts of tuples, and sequences within a length. Each is charged after its arguments.
use Rattle.std.specs.Prelude.{ℕ, List, [], ◌∷◌, length, map, zip}
use Rattle.cl_shapes.specs.declared.name.CostName.{CostName}
use Rattle.cl_shapes.specs.declared.name.CostName.TheVariants.{Arith, Control, Make, Take as TakeCost}
use Rattle.cl_sexpr.specs.Tree.{Tree, LeafAt, Named, Unsigned}
use Rattle.cl_values.specs.declared.native.Native.{Native}
use Rattle.cl_values.specs.Tree.{Tree as Val, TupleV}
use Rattle.cl_values.specs.Wire.{size_of}
use Rattle.cl_values.specs.Computed.{Gives}
use Rattle.cl_values.specs.Sequences.{within_length}
use Rattle.cl_values.specs.Tuples.{sorted_entries, part_at}
use Rattle.cl_values.specs.Natives.{native_value}
use Rattle.cl_events.specs.State.{State}
use Rattle.cl_meaning.specs.Answers.{Answer, stop, wrong, charged, and_then, outcome_of}
use Rattle.cl_meaning.specs.Scope.{Scope, Take, parts, sizes}

-- what a native on values is charged at: arithmetic and control by the number of its arguments, all else by the sum of their sizes
abbrev pub number_of : CostName → List Val → ℕ
number_of Arith vs = length vs
number_of Control vs = length vs
number_of cost vs = sizes vs

-- a native on these values, charged as its row says
unfoldable pub on_values : Native → CostName → List Val → State → Answer Val
on_values native cost vs s = charged cost (number_of cost vs) (stop (outcome_of (native_value native vs)) s)

-- all arguments are taken
unfoldable pub strict_form : Native → CostName → Take → Scope → List Tree → State → Answer Val
strict_form native cost take S es s = and_then (parts take S es s) (on_values native cost)

-- the pairs' values are taken in the order of the text
unfoldable pub tuple_form : Take → Scope → List (List ℕ × Tree) → State → Answer Val
tuple_form take S [] s = wrong s
tuple_form take S (p ∷ ps) s =
    and_then (parts take S (map (λ q. q.1) (p ∷ ps)) s) (λ vs t. charged Make (sizes vs) (stop (outcome_of (Gives (TupleV (sorted_entries (zip (map (λ q. q.0) (p ∷ ps)) vs))))) t))

unfoldable pub get_form : Take → Scope → List Tree → State → Answer Val
get_form take S (LeafAt (Named key) at ∷ e ∷ []) s = and_then (take S e s) (λ v t. charged TakeCost (size_of v) (stop (outcome_of (part_at key v)) t))
get_form take S es s = wrong s

unfoldable pub as_max_len_form : Take → Scope → List Tree → State → Answer Val
as_max_len_form take S (e ∷ LeafAt (Unsigned most) at ∷ []) s = and_then (take S e s) (λ v t. charged Make (size_of v) (stop (outcome_of (within_length most v)) t))
as_max_len_form take S es s = wrong s
