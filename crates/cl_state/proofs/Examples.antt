-- The definitions compute: what stands in the top state after acts on layers, variables, entries of maps and events.
use Rattle.std.proofs.Common.{refl}
use Rattle.std.specs.Prelude.{◌≡◌, ℕ, List, [], ◌∷◌, map, length, replicate, codes, Option, None, Some, pos}
use Rattle.cl_c32.specs.declared.principal.Principal.{Principal}
use Rattle.cl_values.specs.Tree.{Tree, IntV}
use Rattle.cl_maps.specs.Maps.{get, put, without}
use Rattle.cl_events.specs.declared.event.EventKind.{EventKind}
use Rattle.cl_events.specs.declared.event.EventKind.TheVariants.{Print}
use Rattle.cl_events.specs.State.{place, spot, with_variables, with_entries, with_event, genesis}
use Rattle.cl_state.specs.Stack.{Stack, base_alone, pushed, dropped, kept, committed, with_top}

abbrev contract : List ℕ → Principal
contract name = record { address = record { version = 22; hash = replicate 20 7 }; contract = Some name }

abbrev main : Principal
main = contract (codes "main")

abbrev a : List ℕ
a = codes "a"

abbrev b : List ℕ
b = codes "b"

abbrev int : ℕ → Tree
int n = IntV (pos n)

abbrev first_state : Stack
first_state = base_alone (genesis [])

abbrev Act : Type 0
Act = Stack → Stack

abbrev put_variable : Principal → List ℕ → ℕ → Act
put_variable of name n s = with_top s (with_variables (put (place of name) (int n) s.top.variables) s.top)

abbrev put_entry : List ℕ → ℕ → ℕ → Act
put_entry name key n s = with_top s (with_entries (put (spot main name (int key)) (int n) s.top.entries) s.top)

abbrev remove_entry : List ℕ → ℕ → Act
remove_entry name key s = with_top s (with_entries (without (spot main name (int key)) s.top.entries) s.top)

abbrev print : ℕ → Act
print n s = with_top s (with_event main (Print (int n)) s.top)

-- what is seen after each act, one after another
abbrev run : {T : Type 0} → (Stack → T) → Stack → List (Act × T) → List T
run see s [] = []
run see s (step ∷ steps) = see (step.0 s) ∷ run see (step.0 s) steps

abbrev wanted : {T : Type 0} → List (Act × T) → List T
wanted steps = map (λ step. step.1) steps

-- the number of layers, and what two variables of the contract hold
abbrev Variables : Type 0
Variables = ℕ × Option Tree × Option Tree

abbrev variables : Stack → Variables
variables s = (length s.below, get (place main a) s.top.variables, get (place main b) s.top.variables)

abbrev on_three_layers : List (Act × Variables)
on_three_layers =
    (put_variable main a 1, (0, Some (int 1), None))
    ∷ (pushed, (1, Some (int 1), None))
    ∷ (put_variable main a 2, (1, Some (int 2), None))
    ∷ (put_variable main b 3, (1, Some (int 2), Some (int 3)))
    ∷ (pushed, (2, Some (int 2), Some (int 3)))
    ∷ (put_variable main a 4, (2, Some (int 4), Some (int 3)))
    ∷ (pushed, (3, Some (int 4), Some (int 3)))
    ∷ (put_variable main b 5, (3, Some (int 4), Some (int 5)))
    ∷ (dropped, (2, Some (int 4), Some (int 3)))
    ∷ (pushed, (3, Some (int 4), Some (int 3)))
    ∷ (put_variable main b 6, (3, Some (int 4), Some (int 6)))
    ∷ (kept, (2, Some (int 4), Some (int 6)))
    ∷ (dropped, (1, Some (int 2), Some (int 3)))
    ∷ (pushed, (2, Some (int 2), Some (int 3)))
    ∷ (put_variable main b 7, (2, Some (int 2), Some (int 7)))
    ∷ (kept, (1, Some (int 2), Some (int 7)))
    ∷ (committed, (0, Some (int 2), Some (int 7)))
    ∷ []

three_layers : run variables first_state on_three_layers ≡ wanted on_three_layers
three_layers = refl

-- places whose contracts and names run together hold values of their own
abbrev places : List (List ℕ)
places = place main a ∷ place main (codes "ab") ∷ place (contract (codes "maina")) b ∷ place (contract (codes "other")) a ∷ []

abbrev held : Stack → List (Option Tree)
held s = map (λ key. get key s.top.variables) places

variables_of_places : held (put_variable (contract (codes "other")) a 4 (put_variable (contract (codes "maina")) b 3 (put_variable main (codes "ab") 2 (put_variable main a 1 first_state)))) ≡ Some (int 1) ∷ Some (int 2) ∷ Some (int 3) ∷ Some (int 4) ∷ []
variables_of_places = refl

-- what stands under the keys 1 and 2 of the first map, under 1 of the second, and in the variable of the first one's name
abbrev Entries : Type 0
Entries = Option Tree × Option Tree × Option Tree × Option Tree

abbrev entries : Stack → Entries
entries s = (get (spot main a (int 1)) s.top.entries, get (spot main a (int 2)) s.top.entries, get (spot main b (int 1)) s.top.entries, get (place main a) s.top.variables)

abbrev on_two_maps : List (Act × Entries)
on_two_maps =
    (remove_entry a 1, (None, None, None, None))
    ∷ (put_entry a 1 10, (Some (int 10), None, None, None))
    ∷ (put_entry a 2 20, (Some (int 10), Some (int 20), None, None))
    ∷ (put_entry b 1 30, (Some (int 10), Some (int 20), Some (int 30), None))
    ∷ (pushed, (Some (int 10), Some (int 20), Some (int 30), None))
    ∷ (put_entry a 1 11, (Some (int 11), Some (int 20), Some (int 30), None))
    ∷ (remove_entry a 2, (Some (int 11), None, Some (int 30), None))
    ∷ (dropped, (Some (int 10), Some (int 20), Some (int 30), None))
    ∷ []

entries_of_maps : run entries first_state on_two_maps ≡ wanted on_two_maps
entries_of_maps = refl

abbrev events : Stack → List EventKind
events s = map (λ e. e.kind) s.top.events

abbrev printed : List ℕ → List EventKind
printed numbers = map (λ n. Print (int n)) numbers

abbrev on_events : List (Act × List EventKind)
on_events =
    (pushed, [])
    ∷ (print 1, printed (1 ∷ []))
    ∷ (pushed, printed (1 ∷ []))
    ∷ (print 2, printed (1 ∷ 2 ∷ []))
    ∷ (dropped, printed (1 ∷ []))
    ∷ (pushed, printed (1 ∷ []))
    ∷ (print 3, printed (1 ∷ 3 ∷ []))
    ∷ (kept, printed (1 ∷ 3 ∷ []))
    ∷ (committed, [])
    ∷ []

events_of_layers : run events first_state on_events ≡ wanted on_events
events_of_layers = refl
