-- How calls on a node end.
use Rattle.std.proofs.Common.{◌≡◌, ◌∙◌, ℕ, List, Option, Some, ap, map, option_and_then, refl, subst, sym}
use Rattle.cl_file.specs.declared.entry.Entry.{Entry}
use Rattle.cl_file.specs.Files.{FileSeen}
use Rattle.cl_replies.specs.declared.inputs.FileFault.{FileFault}
use Rattle.cl_session.specs.declared.session.Session.{Session}
use Rattle.cl_request.specs.Pieces.{pieces_of}
use Rattle.cl_session.specs.Calls.{call_in}
use Rattle.cl_session.specs.Sessions.{IsCleared}
use Rattle.cl_session.proofs.Running.{ran_none}
use Rattle.cl_exports.specs.declared.outcome.Outcome.{Outcome}
use Rattle.cl_exports.specs.declared.outcome.Outcome.TheVariants.{Done, BadFile, Refused, NoMemory, NoRequest, Falls, HasHolders}
use Rattle.cl_exports.specs.Nodes.{CallEnds, MayNotRun, PeekEnds, RefusesFile, RunEnds, RunFileEnds, call_of_bytes, reads, refuses, lacks_memory}
use Rattle.cl_exports.specs.Files.{IsFile, IsFileFault}

-- a file whose entries may not be done
pub not_run : (file : FileSeen) (outcome : Outcome) (before after : Session) → MayNotRun before.node.height file outcome → IsCleared before after → RunFileEnds file outcome before after
not_run file Done before after cause cleared = absurd cause
not_run file NoMemory before after cause cleared = ran_none file.entries before after cleared
not_run file BadFile before after cause cleared = (cause, cleared)
not_run file Refused before after cause cleared = (cause, cleared)
not_run file NoRequest before after cause cleared = (cause, cleared)
not_run file Falls before after cause cleared = (cause, cleared)
not_run file HasHolders before after cause cleared = (cause, cleared)

-- bytes that are a file, or none
pub run_reads : (bytes : List ℕ) (file : FileSeen) (outcome : Outcome) (before after : Session) → IsFile bytes file → RunFileEnds file outcome before after → RunEnds bytes outcome before after
run_reads bytes file outcome before after is ends = reads file is ends

pub run_refuses : (bytes : List ℕ) (fault : FileFault) (outcome : Outcome) (before after : Session) → IsFileFault bytes fault → RefusesFile fault outcome before after → RunEnds bytes outcome before after
run_refuses bytes fault outcome before after is ends = refuses fault is ends

pub run_lacks_memory : (bytes : List ℕ) (before after : Session) → IsCleared before after → RunEnds bytes NoMemory before after
run_lacks_memory bytes before after cleared = lacks_memory refl cleared

-- the call of the pieces that the bytes are cut into
pub call_at : {X : Type 0} (f : X → List ℕ) (bytes ends limits : List ℕ) (items now : List X) → pieces_of bytes 0 ends ≡ Some (map f items) → now ≡ items → call_of_bytes bytes ends limits ≡ call_in limits (map f now)
call_at f bytes ends limits items now found same = ap (option_and_then (call_in limits)) (found ∙ ap (λ xs. Some (map f xs)) (sym same))

-- the call of an entry is that of the bytes that it was cut from
pub call_ends : (call : Option Entry) (entry : Entry) (outcome : Outcome) (before after : Session) → call ≡ Some entry → CallEnds (Some entry) outcome before after → CallEnds call outcome before after
call_ends call entry outcome before after is ends = subst (λ (c : Option Entry). CallEnds c outcome before after) (sym is) ends

pub peek_ends : (call : Option Entry) (entry : Entry) (outcome : Outcome) (before after : Session) → call ≡ Some entry → PeekEnds (Some entry) outcome before after → PeekEnds call outcome before after
peek_ends call entry outcome before after is ends = subst (λ (c : Option Entry). PeekEnds c outcome before after) (sym is) ends
