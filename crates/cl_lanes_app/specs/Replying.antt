-- The inputs of a request, and a reply that is written, in the code.
use Rattle.std.specs.Prelude.{◌≡◌, ◌⊎◌, ℕ, List, Option, Some, None}
use Rattle.cl_ports.specs.Growth.{Grows, GrowsPart}
use Rattle.cl_entries.specs.declared.status.Reply.{Reply}
use Rattle.cl_entries.specs.declared.status.Status.{Status}
use Rattle.cl_replies.specs.Inputs.{Inputs, BadFile, NoCommand, RunInputs}
use Rattle.cl_lanes_app.specs.Reports.{IsLanesReply}
use Rattle.cl_lanes_app.specs.Words.{Request}

-- a request has a bad file, or a table and entries; other words have none
abbrev pub CanHave : Option Request → Inputs → Type 0
CanHave None NoCommand = Unit {0}
CanHave (Some request) (BadFile name fault) = Unit {0}
CanHave (Some request) (RunInputs table file state) = Unit {0}
CanHave request inputs = ⊥

-- all of the reply was written, and this is its status
pub record WritesAll (request : Option Request) (inputs : Inputs) (before now : Option (List ℕ)) (status : Status) : Type 0 where
  pub reply : Reply
  pub is_reply : IsLanesReply request inputs reply
  pub written : Grows before now reply.text
  pub ends : status ≡ reply.status

-- a first part of the reply was written
pub record WritesFront (request : Option Request) (inputs : Inputs) (before now : Option (List ℕ)) : Type 0 where
  pub reply : Reply
  pub is_reply : IsLanesReply request inputs reply
  pub written : GrowsPart before now reply.text

-- nothing was written, or a first part of the reply
abbrev pub WritesSome : Option Request → Inputs → Option (List ℕ) → Option (List ℕ) → Type 0
WritesSome request inputs before now = (now ≡ before) ⊎ WritesFront request inputs before now
