-- The contracts that evaluations see, and the one of a frame.
use Rattle.std.specs.Prelude.{◌≡◌, ◌∷◌, Option, Some, None}
use Rattle.cl_contracts.specs.declared.deployed.Deployed.{Deployed as DeployedOfCode}
use Rattle.cl_contracts.specs.Seen.{forms_of, deployed_seen}
use Rattle.cl_meaning.specs.Deployed.{Contract, Deployed, contract_at}
use Rattle.cl_meaning.specs.Scope.{Frame}
use Rattle.cl_frames.specs.declared.frame.Frame.{Frame as FrameOfCode}
use Rattle.cl_frames.specs.declared.home.Home.{Home}

abbrev pub frame_seen : FrameOfCode → Frame
frame_seen f = record { contract = f.contract; sender = f.sender; caller = f.caller; height = f.height }

abbrev pub home_seen : Home → Contract
home_seen h = record { principal = h.checked.now.principal; version = h.checked.now.version; forms = forms_of h.checked.now; source_length = h.checked.now.source_length; constants = h.constants.now.entries }

-- the contract that is being deployed stands before the deployed ones
abbrev pub with_opening : Option Home → Deployed → Deployed
with_opening None W = W
with_opening (Some h) W = home_seen h ∷ W

-- the contract is the frame's
pub record IsHome (deployed : DeployedOfCode) (opening : Option Home) (home : Home) (frame : FrameOfCode) : Type 0 where
  pub found : contract_at frame.contract (with_opening opening (deployed_seen deployed)) ≡ Some (home_seen home)
