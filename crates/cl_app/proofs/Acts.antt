-- A command from its words to its end.
use Rattle.std.proofs.Common.{◌≡◌, ℕ, List, Option, Result, Ok, Err, IfErr, IfOk, refl, sym, ap, subst, ◌∙◌}
use Rattle.cl_ports.specs.Files.{Held}
use Rattle.cl_listeners.specs.Hearing.{Both}
use Rattle.cl_listeners.specs.Laws.{NothingIsTold}
use Rattle.cl_words.specs.Words.{Command, command_on, line_in, taken}
use Rattle.cl_words.specs.declared.line.Flag.{Flag}
use Rattle.cl_entries.specs.declared.status.Status.{Status}
use Rattle.cl_entries.specs.declared.status.Stop.{Stop}
use Rattle.cl_entries.specs.declared.status.Stop.TheVariants.{ReadFailed, WriteFailed, NoMemory}
use Rattle.cl_entries.specs.Scripts.{CountsRead, CountsWrite, DoesPart, Script, end_number, number_of}
use Rattle.cl_replies.specs.Inputs.{Inputs}
use Rattle.cl_replies.specs.Reports.{IsScript}
use Rattle.cl_app.specs.Reading.{AreInputs}
use Rattle.cl_app.specs.Top.{CountsReads, CountsWrites, DoesCommand, DoesFirst, DoesInputs, OneInputs, OneScriptOfInputs}
use Rattle.cl_app.proofs.Done.{all_is_part, part_of_nothing}

pub seen_is_taken : (words : List (List ℕ)) (line : Option (List (List ℕ) × Option Flag)) (seen : Option Command) → seen ≡ command_on line → line ≡ line_in words → seen ≡ taken words
seen_is_taken words line seen of_line is = of_line ∙ ap command_on is

-- nothing was done
pub first_of_nothing : NothingIsTold → (command : Option Command) (held : Option Held) (before now : Option (List ℕ)) (were are : Both) → now ≡ before → are ≡ were → DoesFirst command held before now were are
first_of_nothing none command held before now were are wrote told = record { told = λ files script h has. part_of_nothing none script.steps before now were are wrote told }

first_of : OneInputs → (command : Option Command) (held : Option Held) (inputs : Inputs) (before now : Option (List ℕ)) (were are : Both) → AreInputs command held inputs → ((script : Script) → IsScript inputs script → DoesPart script.steps before now were are) → DoesFirst command held before now were are
first_of one command held inputs before now were are are_inputs so = record {
  told = λ files script h has.
      let there = are_inputs.gives.told files h in
      so script (subst (λ (i : Inputs). IsScript i script) (one command files has.asked there.0 has.inputs inputs has.read there.1) has.is);
}

-- the inputs were done as far as this result says
pub ended_first : OneInputs → OneScriptOfInputs → (command : Option Command) (held : Option Held) (inputs : Inputs) (r : Result Status Stop) (before now : Option (List ℕ)) (were are : Both) → AreInputs command held inputs → IfOk r (λ s. DoesInputs inputs s before now were are)
    → IfErr r (λ _. (script : Script) → IsScript inputs script → DoesPart script.steps before now were are) → DoesFirst command held before now were are
ended_first one of_inputs command held inputs (Ok s) before now were are are_inputs does part =
    first_of one command held inputs before now were are are_inputs
    (λ script is. subst (λ (x : Script). DoesPart x.steps before now were are) (of_inputs inputs does.script script does.is_script is) (all_is_part does.script.steps before now were are does.does))
ended_first one of_inputs command held inputs (Err e) before now were are are_inputs does part = first_of one command held inputs before now were are are_inputs part

pub ended_done : (command : Option Command) (held : Option Held) (inputs : Inputs) (r : Result Status Stop) (before now : Option (List ℕ)) (were are : Both) → AreInputs command held inputs → IfOk r (λ s. DoesInputs inputs s before now were are) → IfOk r (λ s. DoesCommand command held before now were are (number_of s))
ended_done command held inputs (Ok s) before now were are are_inputs does = record { inputs = inputs; are_inputs = are_inputs; script = does.script; is_script = does.is_script; does = does.does; ends = sym (ap end_number does.ends) }
ended_done command held inputs (Err e) before now were are are_inputs does = tt

-- whatever the result, where it is an error nothing was done
pub nothing_if_err : NothingIsTold → (inputs : Inputs) (r : Result Status Stop) (before : Option (List ℕ)) (both : Both) → IfErr r (λ _. (script : Script) → IsScript inputs script → DoesPart script.steps before before both both)
nothing_if_err none inputs (Ok s) before both = tt
nothing_if_err none inputs (Err e) before both = λ script is. part_of_nothing none script.steps before before both both refl refl

-- ---- counts of faults

write_is_no_read : WriteFailed ≡ ReadFailed → ⊥
write_is_no_read is = absurd cc

memory_is_no_read : NoMemory ≡ ReadFailed → ⊥
memory_is_no_read is = absurd cc

-- where the files were read
pub ended_reads : (r : Result Status Stop) (files_before files_now before now : ℕ) → files_now ≡ files_before → CountsWrite before now r → CountsReads files_before files_now r
ended_reads (Ok s) files_before files_now before now same counts = same
ended_reads (Err ReadFailed) files_before files_now before now same counts = absurd counts
ended_reads (Err WriteFailed) files_before files_now before now same counts = same
ended_reads (Err NoMemory) files_before files_now before now same counts = same

pub ended_writes : (r : Result Status Stop) (before now : ℕ) → CountsWrite before now r → CountsWrites before now r
ended_writes (Ok s) before now counts = counts
ended_writes (Err ReadFailed) before now counts = absurd counts
ended_writes (Err WriteFailed) before now counts = counts
ended_writes (Err NoMemory) before now counts = counts

pub ended_no_read : (P : Type 0) (r : Result Status Stop) (before now : ℕ) → CountsWrite before now r → IfErr r (λ stop. stop ≡ ReadFailed → P)
ended_no_read P (Ok s) before now counts = tt
ended_no_read P (Err ReadFailed) before now counts = absurd counts
ended_no_read P (Err WriteFailed) before now counts = λ is. absurd (write_is_no_read is)
ended_no_read P (Err NoMemory) before now counts = λ is. absurd (memory_is_no_read is)

-- where they were not
pub unread_reads : (T : Type 0) (e : Stop) (before now : ℕ) → CountsRead {T = T} before now (Err e) → CountsReads before now (Err e)
unread_reads T ReadFailed before now counts = counts
unread_reads T WriteFailed before now counts = absurd counts
unread_reads T NoMemory before now counts = counts

pub unread_writes : (T : Type 0) (e : Stop) (files_before files_now before : ℕ) → CountsRead {T = T} files_before files_now (Err e) → CountsWrites before before (Err e)
unread_writes T ReadFailed files_before files_now before counts = refl
unread_writes T WriteFailed files_before files_now before counts = absurd counts
unread_writes T NoMemory files_before files_now before counts = refl
