-- The order of definitions: each form after all that it names, depth first in the order of the text; or a cycle.
use Rattle.std.specs.Prelude.{◌≡◌, ℕ, zero, suc, ◌+◌, ◌<◌, Bool, true, List, [], ◌∷◌, ◌++◌, length, map, filter_map, if◌then◌else◌, nat_eq, slice_get, Some, Result, Ok, Err}
use Rattle.std.specs.List.{list_any, IsDistinct}
use Rattle.cl_forms.specs.Forms.{Form}
use Rattle.cl_forms.specs.Names.{Names, name_at, named_by}

-- whether a number is among numbers
abbrev pub is_in : ℕ → List ℕ → Bool
is_in n ns = list_any (nat_eq n) ns

-- ---- the properties

-- An order of the forms' places is good: each form's place is in it once, and each form comes after all that it names.
pub record IsGoodOrder (forms : List Form) (order : List ℕ) : Type 0 where
  pub within : (n : ℕ) → is_in n order ≡ true → n < length forms
  pub complete : (n : ℕ) → n < length forms → is_in n order ≡ true
  pub once : IsDistinct nat_eq order
  pub after : (front : List ℕ) (n : ℕ) (back : List ℕ) → order ≡ front ++ n ∷ back → (m : ℕ) → Names forms n m → is_in m front ≡ true

-- from the form at a place, each form names the next, and the last names the form at another place
abbrev pub AreLinked : List Form → ℕ → List ℕ → ℕ → Type 0
AreLinked forms n [] end = Names forms n end
AreLinked forms n (m ∷ ms) end = Names forms n m × AreLinked forms m ms end

-- the forms at these places name each other in a ring, one alone included
abbrev pub IsRing : List Form → List ℕ → Type 0
IsRing forms [] = ⊥
IsRing forms (n ∷ ns) = AreLinked forms n ns n

-- names are a cycle: each of their forms names the next, and the last names the first
pub record IsCycle (forms : List Form) (cycle : List (List ℕ)) : Type 0 where
  pub places : List ℕ
  pub named : map (name_at forms) places ≡ map Some cycle
  pub ring : IsRing forms places

-- ---- the order that is used

-- the places of the forms that are done, in their order; or those of the cycle that was met
abbrev pub Visited : Type 0
Visited = Result (List ℕ) (List ℕ)

abbrev pub and_then : Visited → (List ℕ → Visited) → Visited
and_then (Ok done) go_on = go_on done
and_then (Err cycle) go_on = Err cycle

-- one after another is visited, with what is done so far
abbrev pub visit_each : (ℕ → List ℕ → Visited) → List ℕ → List ℕ → Visited
visit_each visit [] done = Ok done
visit_each visit (n ∷ ns) done = and_then (visit n done) (visit_each visit ns)

-- the part of a path from a place on
abbrev pub part_from : ℕ → List ℕ → List ℕ
part_from n [] = []
part_from n (m ∷ path) = if nat_eq n m then m ∷ path else part_from n path

-- To visit a form with a path: nothing, if it is done; a cycle, the part of the path from the form on, if it is in the path;
-- else the forms that it names are visited in the order of the text, with the form at the path's end, and then it is done.
-- A path is no longer than there are forms, so a number of steps above theirs is enough.
unfoldable pub visit : ℕ → List Form → List ℕ → ℕ → List ℕ → Visited
visit zero forms path n done = Ok done
visit (suc steps) forms path n done =
    if is_in n done then Ok done
    else (if is_in n path then Err (part_from n path)
    else and_then (visit_each (visit steps forms (path ++ n ∷ [])) (named_by forms (slice_get forms n)) done) (λ all. Ok (all ++ n ∷ [])))

-- the places of a row, from a place on
abbrev pub places_of : ℕ → List Form → List ℕ
places_of n [] = []
places_of n (f ∷ fs) = n ∷ places_of (n + 1) fs

-- the order of the forms' places, or the places of the first cycle: all forms are visited in the order of the text
unfoldable pub ordered : List Form → Visited
ordered forms = visit_each (visit (length forms + 1) forms []) (places_of 0 forms) []

-- the names of the forms at these places
abbrev pub names_at : List Form → List ℕ → List (List ℕ)
names_at forms ns = filter_map (name_at forms) ns

-- the forms at these places
abbrev pub forms_at : List Form → List ℕ → List Form
forms_at forms places = filter_map (slice_get forms) places
