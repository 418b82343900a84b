-- Typed trees whose natives and names are those of a contract's version.
use Rattle.std.specs.Prelude.{◌≡◌, true, List, Option, Some, None}
use Rattle.cl_code.specs.Typed.{Typed, typeds, goes_by, all_go_by}
use Rattle.cl_meaning.specs.Deployed.{Contract}

-- of a contract that is deployed
abbrev pub GoesIn : Option Contract → Typed → Type 0
GoesIn None e = ⊥
GoesIn (Some c) e = goes_by c.version e ≡ true

abbrev pub AllGoIn : Option Contract → List Typed → Type 0
AllGoIn None es = ⊥
AllGoIn (Some c) es = all_go_by c.version (typeds es) ≡ true
