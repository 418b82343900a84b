-- The functions that were found to be reached so far, and the spots that they touch and write.
use Rattle.std.specs.Prelude.{ℕ, Bool, if◌then◌else◌, List, [], ◌∷◌, ◌++◌, Option, Some, None}
use Rattle.std.specs.List.{list_any}
use Rattle.cl_c32.specs.declared.principal.Principal.{Principal}
use Rattle.cl_tables.specs.declared.place.Place.{Place}
use Rattle.cl_tables.specs.contracts.place.PlacePartialEq.TheImpl as places
use Rattle.cl_meaning.specs.Deployed.{Contract, Deployed, contract_at}
use Rattle.cl_tables.specs.declared.spot.Spot.{Spot}
use Rattle.cl_tables.specs.contracts.spot.SpotPartialEq.TheImpl as spots
use Rattle.cl_touch.specs.Uses.{Use, Reads, Writes, Applies, Crosses, of_own}

pub record GatheredSeen : Type 0 where
  pub reached : List Place
  pub touched : List Spot
  pub written : List Spot

abbrev pub gathered : List Place → List Spot → List Spot → GatheredSeen
gathered reached touched written = record { reached = reached; touched = touched; written = written }

-- a list with one more item at its end, unless an equal one is there
abbrev pub added : {X : Type 0} → (X → X → Bool) → List X → X → List X
added equal xs x = if list_any (equal x) xs then xs else xs ++ x ∷ []

abbrev pub and_place : List Place → Place → List Place
and_place xs x = added places.eq-value.it xs x

abbrev pub and_spot : List Spot → Spot → List Spot
and_spot xs x = added spots.eq-value.it xs x

abbrev pub with_reached : Place → GatheredSeen → GatheredSeen
with_reached at g = record g { reached = and_place g.reached at }

abbrev pub with_read : Spot → GatheredSeen → GatheredSeen
with_read x g = record g { touched = and_spot g.touched x }

abbrev pub with_write : Spot → GatheredSeen → GatheredSeen
with_write x g = record g { touched = and_spot g.touched x; written = and_spot g.written x }

-- a function of a contract, if that is deployed
abbrev pub with_crossed : Option Contract → List ℕ → GatheredSeen → GatheredSeen
with_crossed None f g = g
with_crossed (Some c) f g = with_reached (of_own c.principal f) g

-- with one more use by the code of a contract
abbrev pub with_use : Deployed → Principal → Use → GatheredSeen → GatheredSeen
with_use W p (Reads x) g = with_read x g
with_use W p (Writes x) g = with_write x g
with_use W p (Applies f) g = with_reached (of_own p f) g
with_use W p (Crosses q f) g = with_crossed (contract_at q W) f g

abbrev pub with_uses : Deployed → Principal → List Use → GatheredSeen → GatheredSeen
with_uses W p [] g = g
with_uses W p (u ∷ us) g = with_uses W p us (with_use W p u g)
