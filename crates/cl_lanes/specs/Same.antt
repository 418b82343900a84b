-- Progress of lanes that is the same but for the order of spots in lists.
use Rattle.std.specs.Prelude.{◌≡◌, ◌↔◌, List, [], ◌∷◌, Contains, Option, Some, None}
use Rattle.cl_tables.specs.declared.spot.Spot.{Spot}
use Rattle.cl_lanes.specs.Lanes.{HeldSeen, ProgressSeen}

-- the same spots
abbrev pub AreSame : List Spot → List Spot → Type 0
AreSame a b = (x : Spot) → Contains a x ↔ Contains b x

abbrev pub SameWrote : List (Option (List Spot)) → List (Option (List Spot)) → Type 0
SameWrote [] [] = Unit {0}
SameWrote (None ∷ a) (None ∷ b) = SameWrote a b
SameWrote (Some x ∷ a) (Some y ∷ b) = AreSame x y × SameWrote a b
SameWrote a b = ⊥

pub record SameHeld (h k : HeldSeen) : Type 0 where
  pub entry : h.entry ≡ k.entry
  pub start : h.start ≡ k.start
  pub result : h.result ≡ k.result
  pub state : h.state ≡ k.state
  pub touched : AreSame h.touched k.touched
  pub written : AreSame h.written k.written

abbrev pub SameLane : Option HeldSeen → Option HeldSeen → Type 0
SameLane None None = Unit {0}
SameLane (Some h) (Some k) = SameHeld h k
SameLane a b = ⊥

abbrev pub SameLanes : List (Option HeldSeen) → List (Option HeldSeen) → Type 0
SameLanes [] [] = Unit {0}
SameLanes (h ∷ a) (k ∷ b) = SameLane h k × SameLanes a b
SameLanes a b = ⊥

-- node, results and numbers are equal; what the entries wrote, and what the lanes hold, is the same but for the order of spots
pub record SameProgress (P Q : ProgressSeen) : Type 0 where
  pub node : P.node ≡ Q.node
  pub results : P.results ≡ Q.results
  pub wrote : SameWrote P.wrote Q.wrote
  pub held : SameLanes P.held Q.held
  pub redone : P.redone ≡ Q.redone
  pub skipped : P.skipped ≡ Q.skipped
