-- What filter keeps, by the results of its function at the entries.
use Rattle.std.specs.Prelude.{Bool, true, false, List, [], ◌∷◌, Option, Some, None, option_map}
use Rattle.cl_values.specs.Tree.{Tree as Val, BoolV}
use Rattle.cl_values.specs.Computed.{Computed, Gives, Undefined}
use Rattle.cl_values.specs.Sequences.{entries_of, like, on_entries}

-- the results as truth values
abbrev pub flags_of : List Val → Option (List Bool)
flags_of [] = Some []
flags_of (BoolV b ∷ vs) = option_map (λ bs. b ∷ bs) (flags_of vs)
flags_of (v ∷ vs) = None

-- what stands where the flag is true
abbrev pub chosen : {A : Type 0} → List A → List Bool → List A
chosen [] bs = []
chosen (x ∷ xs) [] = []
chosen (x ∷ xs) (true ∷ bs) = x ∷ chosen xs bs
chosen (x ∷ xs) (false ∷ bs) = chosen xs bs

-- a sequence of the same kind
abbrev pub sieved : Val → List Bool → Computed
sieved v bs = on_entries (λ xs. Gives (like v (chosen xs bs))) (entries_of v)

-- what is kept by the results; undefined where a result is no truth value
abbrev pub sieved_if : Val → Option (List Bool) → Computed
sieved_if v None = Undefined
sieved_if v (Some bs) = sieved v bs

abbrev pub sieved_by : Val → List Val → Computed
sieved_by v results = sieved_if v (flags_of results)
