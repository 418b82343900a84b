-- map, filter and fold: charged after their arguments and before the applications, which come in the order of the entries.
use Rattle.std.specs.Prelude.{ℕ, true, false, List, [], ◌∷◌, Option, Some, None, option_map}
use Rattle.cl_shapes.specs.declared.name.CostName.TheVariants.{Iterate}
use Rattle.cl_sexpr.specs.declared.sexpr.Span.{Span}
use Rattle.cl_sexpr.specs.Tree.{Tree, LeafAt, Named}
use Rattle.cl_values.specs.Tree.{Tree as Val, BoolV, ListV, items_of}
use Rattle.cl_values.specs.Wire.{size_of}
use Rattle.cl_values.specs.Sequences.{entries_of, like}
use Rattle.cl_forms.specs.Heads.{Row, given_by_name}
use Rattle.cl_events.specs.State.{State}
use Rattle.cl_values.specs.Computed.{Gives}
use Rattle.cl_meaning.specs.Answers.{Answer, stop, give, wrong, charged, and_then, with_known, outcome_of}
use Rattle.cl_meaning.specs.Deployed.{Function, native_of, function_of}
use Rattle.cl_meaning.specs.Scope.{Scope, home, Callee, OwnFunction, ByName, Take, Enter, parts, sizes}

-- ---- what a name applies

abbrev pub own : Option Function → Option Callee
own f = option_map OwnFunction f

abbrev pub by_row : Span → Option Row → Option Function → Option Callee
by_row at row f = given_by_name (λ r. ByName r at) OwnFunction row f

-- a native that can be given by name, or a function of the contract
abbrev pub callee_of : Scope → List ℕ → Span → Option Callee
callee_of S x at = by_row at (native_of x (home S)) (function_of x (home S))

-- ---- entries side by side

abbrev pub and_head : Val → Option (List Val) → Option (List Val)
and_head v None = None
and_head v (Some vs) = Some (v ∷ vs)

-- the first entry of each row, where none is empty
abbrev pub heads : List (List Val) → Option (List Val)
heads [] = Some []
heads ([] ∷ rows) = None
heads ((x ∷ xs) ∷ rows) = and_head x (heads rows)

-- each row without its first entry
abbrev pub tails : List (List Val) → List (List Val)
tails [] = []
tails ([] ∷ rows) = [] ∷ tails rows
tails ((x ∷ xs) ∷ rows) = xs ∷ tails rows

abbrev pub and_more : Val → Option (List Val) → List (List Val) → List (List Val)
and_more x None more = []
and_more x (Some vs) more = (x ∷ vs) ∷ more

-- a row and others, place by place, up to the end of the shortest
abbrev pub side_by_side : List Val → List (List Val) → List (List Val)
side_by_side [] others = []
side_by_side (x ∷ xs) others = and_more x (heads others) (side_by_side xs (tails others))

abbrev pub and_entries : Option (List Val) → Option (List (List Val)) → Option (List (List Val))
and_entries (Some xs) (Some rows) = Some (xs ∷ rows)
and_entries xs rows = None

-- the entries of sequences
abbrev pub all_entries : List Val → Option (List (List Val))
all_entries [] = Some []
all_entries (v ∷ vs) = and_entries (entries_of v) (all_entries vs)

abbrev pub rows_of : Option (List (List Val)) → Option (List (List Val))
rows_of None = None
rows_of (Some []) = None
rows_of (Some (xs ∷ rows)) = Some (side_by_side xs rows)

-- ---- the natives

-- the results of the applications to rows of values, in order
unfoldable pub each : Enter → Scope → Callee → List (List Val) → State → Answer (List Val)
each enter S f [] s = give [] s
each enter S f (r ∷ rs) s = and_then (enter S f r s) (λ v t. and_then (each enter S f rs t) (λ vs u. give (v ∷ vs) u))

-- a list of the results
abbrev pub mapped : Enter → Scope → List Val → Callee → State → Answer Val
mapped enter S vs f s = with_known (rows_of (all_entries vs)) (λ rs t. and_then (each enter S f rs t) (λ ws. stop (outcome_of (Gives (ListV (items_of ws)))))) s

unfoldable pub map_form : Take → Enter → Scope → List Tree → State → Answer Val
map_form take enter S (LeafAt (Named f) at ∷ es) s =
    and_then (parts take S es s) (λ vs t. charged Iterate (sizes vs) (with_known (callee_of S f at) (mapped enter S vs) t))
map_form take enter S es s = wrong s

-- an entry is kept where the function gave true
abbrev pub kept_if : Val → Val → List Val → State → Answer (List Val)
kept_if (BoolV true) x xs s = give (x ∷ xs) s
kept_if (BoolV false) x xs s = give xs s
kept_if v x xs s = wrong s

-- the entries at which the function gives true
unfoldable pub sifted : Enter → Scope → Callee → List Val → State → Answer (List Val)
sifted enter S f [] s = give [] s
sifted enter S f (x ∷ xs) s = and_then (enter S f (x ∷ []) s) (λ v t. and_then (sifted enter S f xs t) (λ ys. kept_if v x ys))

-- a sequence of the same kind
abbrev pub filtered : Enter → Scope → Val → Callee → State → Answer Val
filtered enter S v f s = with_known (entries_of v) (λ xs t. and_then (sifted enter S f xs t) (λ ys. stop (outcome_of (Gives (like v ys))))) s

unfoldable pub filter_form : Take → Enter → Scope → List Tree → State → Answer Val
filter_form take enter S (LeafAt (Named f) at ∷ e ∷ []) s =
    and_then (take S e s) (λ v t. charged Iterate (size_of v) (with_known (callee_of S f at) (filtered enter S v) t))
filter_form take enter S es s = wrong s

-- the function takes an entry and the result so far
unfoldable pub folded : Enter → Scope → Callee → List Val → Val → State → Answer Val
folded enter S f [] result s = give result s
folded enter S f (x ∷ xs) result s = and_then (enter S f (x ∷ result ∷ []) s) (folded enter S f xs)

abbrev pub fold_of : Enter → Scope → Val → Val → Callee → State → Answer Val
fold_of enter S v start f s = with_known (entries_of v) (λ xs. folded enter S f xs start) s

unfoldable pub fold_form : Take → Enter → Scope → List Tree → State → Answer Val
fold_form take enter S (LeafAt (Named f) at ∷ e ∷ i ∷ []) s =
    and_then (take S e s) (λ v t. and_then (take S i t) (λ w u. charged Iterate (sizes (v ∷ w ∷ [])) (with_known (callee_of S f at) (fold_of enter S v w) u)))
fold_form take enter S es s = wrong s
