-- What the top call promises, by what its files hold and what its sink has written, where both are known.
use Rattle.std.specs.Prelude.{◌≡◌, ◌⊎◌, ℕ, false, List, ◌++◌, Option, Some}
use Rattle.cl_ports.specs.Files.{Held}
use Rattle.cl_ports.specs.Growth.{Grows, GrowsPart}
use Rattle.cl_shapes.specs.declared.function.CostFn.{CostFn}
use Rattle.cl_file.specs.Files.{FileSeen}
use Rattle.cl_entries.specs.declared.status.Reply.{Reply}
use Rattle.cl_entries.specs.Entries.{IsRun}
use Rattle.cl_entries.specs.Scripts.{Script, bytes_of, number_of}
use Rattle.cl_replies.specs.Inputs.{Inputs}
use Rattle.cl_app.specs.Reading.{AreInputs}
use Rattle.cl_lanes_app.specs.Reports.{IsLanesReply, IsLanesReport, counts_line}
use Rattle.cl_lanes_app.specs.Words.{Request, run_of}

-- the reply, whose inputs are those of `run` with the same files: by what is held, where that is known
pub record HasLanesReply (request : Option Request) (held : Option Held) (reply : Reply) : Type 0 where
  pub inputs : Inputs
  pub are_inputs : AreInputs (run_of request) held inputs
  pub is_reply : IsLanesReply request inputs reply

-- all of the reply was written, and the status is its own
pub record WritesReply (request : Option Request) (held : Option Held) (before now : Option (List ℕ)) (status : ℕ) : Type 0 where
  pub reply : Reply
  pub has_reply : HasLanesReply request held reply
  pub written : Grows before now reply.text
  pub ends : status ≡ number_of reply.status

-- a first part of the reply was written
pub record WritesFirst (request : Option Request) (held : Option Held) (before now : Option (List ℕ)) : Type 0 where
  pub reply : Reply
  pub has_reply : HasLanesReply request held reply
  pub written : GrowsPart before now reply.text

-- nothing was written, or a first part of the reply
abbrev pub WritesPart : Option Request → Option Held → Option (List ℕ) → Option (List ℕ) → Type 0
WritesPart request held before now = (now ≡ before) ⊎ WritesFirst request held before now

-- ---- laws

-- there is one reply at most, by what is held
abbrev pub OneReply : Type 0
OneReply =
    (request : Option Request) (files : Held) (a b : Reply) →
    HasLanesReply request (Some files) a → HasLanesReply request (Some files) b → a ≡ b

-- it is what `run` writes, and behind it the line of both numbers
abbrev pub LanesReportAsRun : Type 0
LanesReportAsRun =
    (request : Request) (table : List CostFn) (file : FileSeen) (script : Script) (reply : Reply) →
    IsRun table file false script → (is : IsLanesReport request table file reply) →
    reply.text ≡ bytes_of script.steps ++ counts_line is.after.redone is.after.skipped
