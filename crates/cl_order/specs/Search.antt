-- How far a search for the order has come.
use Rattle.std.specs.Prelude.{◌≡◌, ℕ, zero, suc, ◌+◌, ◌<◌, ◌≤◌, List, [], ◌∷◌, ◌++◌, length, map, drop, nat_eq, slice_index_or, slice_get, if◌then◌else◌, true, Ok}
use Rattle.std.specs.List.{IsDistinct}
use Rattle.cl_forms.specs.Forms.{Form}
use Rattle.cl_forms.specs.Names.{named_by}
use Rattle.cl_forms.specs.Order.{is_in, Visited, and_then, visit_each, visit}
use Rattle.cl_order.specs.declared.search.State.{State}
use Rattle.cl_order.specs.declared.search.State.TheVariants.{New, OnPath, Done}
use Rattle.cl_order.specs.declared.search.Frame.{Frame}
use Rattle.cl_order.specs.declared.search.Search.{Search}

-- ---- the state

-- the places of the forms on a path
abbrev pub places_on : List Frame → List ℕ
places_on path = map (λ f. f.place) path

-- the forms on a path, each with the places that it names and that are left to visit
abbrev pub left_on : List Frame → List (ℕ × List ℕ)
left_on path = map (λ f. (f.place, drop f.visited f.named.items)) path

-- the state of the form at a place
abbrev pub state_at : List ℕ → List ℕ → ℕ → State
state_at path done n = if is_in n done then Done else (if is_in n path then OnPath else New)

-- each form on a path has the places that it names
abbrev pub HaveNamed : List Form → List Frame → Type 0
HaveNamed forms [] = Unit {0}
HaveNamed forms (f ∷ fs) = (f.named.items ≡ named_by forms (slice_get forms f.place)) × HaveNamed forms fs

-- the path has each form once, and the states say what is done and what is on the path
pub record IsSearch (forms : List Form) (s : Search) : Type 0 where
  pub size : length s.states.items ≡ length forms
  pub states : (n : ℕ) (d : State) → n < length forms → slice_index_or s.states.items n d ≡ state_at (places_on s.path.items) s.done.items n
  pub once : IsDistinct nat_eq (places_on s.path.items)
  pub within : (n : ℕ) → is_in n (places_on s.path.items) ≡ true → n < length forms
  pub named : HaveNamed forms s.path.items

-- ---- what is left to do

-- What is given by a search that has come this far: first the rest at the path's end is visited, and then what is left at
-- each form of the path, the last first, which is done thereafter.
unfoldable pub goes_on : ℕ → List Form → List ℕ → List (ℕ × List ℕ) → List ℕ → List ℕ → Visited
goes_on steps forms path [] rest done = visit_each (visit steps forms path) rest done
goes_on zero forms path (f ∷ fs) rest done = Ok done
goes_on (suc steps) forms path (f ∷ fs) rest done =
    and_then (goes_on steps forms (path ++ f.0 ∷ []) fs rest done)
    (λ some. and_then (visit_each (visit steps forms (path ++ f.0 ∷ [])) f.1 some) (λ all. Ok (all ++ f.0 ∷ [])))

-- what a search gives, with a rest at its path's end
unfoldable pub answer : List Form → Search → List ℕ → Visited
answer forms s rest = goes_on (length forms + 1) forms [] (left_on s.path.items) rest s.done.items

-- a weight that counts for a new form
abbrev pub weight : State → ℕ → ℕ
weight New n = n
weight OnPath n = 0
weight Done n = 0

-- A number that falls at each step: each new form counts for itself and for all that it names, and each form on the path for
-- itself and for what is left.
abbrev pub work_new : List Form → ℕ → List State → ℕ
work_new forms n [] = 0
work_new forms n (state ∷ states) = weight state (length (named_by forms (slice_get forms n)) + 2) + work_new forms (n + 1) states

abbrev pub work_on : List (ℕ × List ℕ) → ℕ
work_on [] = 0
work_on (f ∷ fs) = length f.1 + 1 + work_on fs

unfoldable pub work : List Form → Search → ℕ
work forms s = work_new forms 0 s.states.items + work_on (left_on s.path.items)

-- a visit of a place is begun: what the rest of the search gives is the same, and not more is left to do
pub record Begins (forms : List Form) (old : Search) (place : ℕ) (new : Search) : Type 0 where
  pub sound : IsSearch forms new
  pub same : answer forms old (place ∷ []) ≡ answer forms new []
  pub less : work forms new ≤ work forms old

-- one step
pub record Steps (forms : List Form) (old new : Search) : Type 0 where
  pub sound : IsSearch forms new
  pub same : answer forms old [] ≡ answer forms new []
  pub less : work forms new < work forms old

-- a visit
pub record Visits (forms : List Form) (old : Search) (place : ℕ) (new : Search) : Type 0 where
  pub sound : IsSearch forms new
  pub ended : new.path.items ≡ []
  pub is : visit (length forms + 1) forms [] place old.done.items ≡ Ok new.done.items
