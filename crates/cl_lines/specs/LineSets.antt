-- Lines in order.
use Rattle.std.specs.Prelude.{◌≡◌, ℕ, List}
use Rattle.std.specs.List.{list_any}
use Rattle.std.specs.List.Sorted.{IsStrictlySortedBy}
use Rattle.cl_maps.specs.Maps.{key_cmp}
use Rattle.cl_tokens.specs.Table.{is_key}

-- the lines of a list, each once, rising bytewise
pub record IsSetOf (given lines : List (List ℕ)) : Type 0 where
  pub rising : IsStrictlySortedBy key_cmp lines
  pub same : (line : List ℕ) → list_any (is_key line) lines ≡ list_any (is_key line) given
