-- The functions of the names one by one, and the first dimension without a shape.
use Rattle.std.proofs.Common.{◌≡◌, ℕ, ◌+◌, ◌<◌, ◌≤◌, Bool, false, List, [], ◌∷◌, ◌++◌, length, get_or, set, take, drop, find, Result, Ok, Err, refl, sym, ap, ◌∙◌, arith, add-one, append_assoc, drop-cons}
use Rattle.std.proofs.lemmas.List.{append-nil, take_more_set, take_all, drop_all}
use Rattle.serde_json.specs.Data.{Data}
use Rattle.cl_shapes.specs.declared.function.CostFn.{CostFn}
use Rattle.cl_shapes.specs.declared.name.CostName.{CostName}
use Rattle.cl_costs.specs.CostFile.{function_at, functions_at, and_more}
use Rattle.cl_costs.specs.declared.refusal.CostRefusal.{CostRefusal}

pub find_next : {A : Type 0} (p : A → Bool) (xs : List A) (i : ℕ) (x : A) → i < length xs → false ≡ p (get_or xs i x) → find p (drop (i + 1) xs) ≡ find p (drop i xs)
find_next p xs i x below fails = rw (add-one, drop-cons xs i x, ← fails) refl

-- the functions that were read, and those still to be read
abbrev pub after : List CostFn → Result (List CostFn) CostRefusal → Result (List CostFn) CostRefusal
after done (Ok rest) = Ok (done ++ rest)
after done (Err refusal) = Err refusal

one_more : (done : List CostFn) (f : CostFn) (rest : Result (List CostFn) CostRefusal) → after (done ++ f ∷ []) rest ≡ after done (and_more (Ok f) rest)
one_more done f (Ok rest) = ap Ok (append_assoc done (f ∷ []) rest)
one_more done f (Err refusal) = refl

from_next : (d : Data) (names : List CostName) (i : ℕ) (name : CostName) → i < length names
    → functions_at (drop i names) d ≡ and_more (function_at (get_or names i name) d) (functions_at (drop (i + 1) names) d)
unfolding functions_at
from_next d names i name below = rw (add-one, drop-cons names i name) refl

pub reads_next : (d : Data) (names : List CostName) (done : List CostFn) (i : ℕ) (name : CostName) (f : CostFn) (all : Result (List CostFn) CostRefusal)
    → i < length names → length done ≡ length names → function_at (get_or names i name) d ≡ Ok f
    → after (take i done) (functions_at (drop i names) d) ≡ all → after (take (i + 1) (set done i f)) (functions_at (drop (i + 1) names) d) ≡ all
reads_next d names done i name f all below size found so_far =
    let within : i < length done = omega arith in
    let more : functions_at (drop i names) d ≡ and_more (Ok f) (functions_at (drop (i + 1) names) d) =
    from_next d names i name below ∙ ap (λ r. and_more r (functions_at (drop (i + 1) names) d)) found in
    ap (λ xs. after xs (functions_at (drop (i + 1) names) d)) (take_more_set done i f within)
    ∙ one_more (take i done) f (functions_at (drop (i + 1) names) d) ∙ ap (after (take i done)) (sym more) ∙ so_far

pub stops_at : (d : Data) (names : List CostName) (done : List CostFn) (i : ℕ) (name : CostName) (all : Result (List CostFn) CostRefusal)
    → i < length names → after (take i done) (functions_at (drop i names) d) ≡ all → (r : CostRefusal) → function_at (get_or names i name) d ≡ Err r → all ≡ Err r
stops_at d names done i name all below so_far r refused =
    sym so_far ∙ ap (after (take i done)) (from_next d names i name below ∙ ap (λ x. and_more x (functions_at (drop (i + 1) names) d)) refused)

none_left : (d : Data) (done : List CostFn) → after done (functions_at [] d) ≡ Ok done
unfolding functions_at
none_left d done = ap Ok (append-nil done)

pub reads_all : (d : Data) (names : List CostName) (done : List CostFn) (i : ℕ) (all : Result (List CostFn) CostRefusal)
    → length names ≤ i → length done ≡ length names → after (take i done) (functions_at (drop i names) d) ≡ all → all ≡ Ok done
reads_all d names done i all past size so_far =
    sym so_far ∙ ap (λ xs. after xs (functions_at (drop i names) d)) (take_all i done (omega arith))
    ∙ ap (λ rest. after done (functions_at rest d)) (drop_all i names past) ∙ none_left d done
