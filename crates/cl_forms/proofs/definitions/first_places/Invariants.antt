use Rattle.std.proofs.Common.{◌≡◌, ℕ, List, map, drop}
use Rattle.std.specs.Option.{option_or}
use Rattle.indexmap.specs.IndexMap.{get}
use Rattle.cl_forms.specs.Names.{same}
use Rattle.cl_forms.specs.ItemView.{plain_item}
use Rattle.cl_forms.specs.Looks.{first_from}
use Rattle.cl_forms.proofs.definitions.first_places.Given as goal

abbrev pub invariant-loop-place : goal.invariant-loop-place
invariant-loop-place l = (x : List ℕ) → option_or (get same l.names x) (first_from l.place (map (λ e. plain_item e.item) (drop l.place l.entries)) x) ≡ first_from 0 (map (λ e. plain_item e.item) l.entries) x
