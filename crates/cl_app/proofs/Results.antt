-- What the number of an end says.
use Rattle.std.proofs.Common.{◌≡◌, ◌≢◌, inl, inr, ◌⊎◌, ℕ, List, Option, None, Result, Ok, Err, IfErr, IfOk, refl, sym, ap, subst, ◌∙◌, append-nil, arith}
use Rattle.cl_ports.specs.Files.{Held}
use Rattle.cl_ports.specs.Growth.{Rose, Grows}
use Rattle.cl_listeners.specs.Hearing.{Both}
use Rattle.cl_words.specs.Words.{Command}
use Rattle.cl_entries.specs.declared.status.Reply.{Reply}
use Rattle.cl_entries.specs.declared.status.Status.{Status}
use Rattle.cl_entries.specs.declared.status.Status.TheVariants.{Done, Usage, BadFile, Refused, NotGood, BadWord}
use Rattle.cl_entries.specs.declared.status.Stop.{Stop}
use Rattle.cl_entries.specs.declared.status.Stop.TheVariants.{ReadFailed, WriteFailed, NoMemory}
use Rattle.cl_entries.specs.Scripts.{Script, bytes_of, end_number, number_of}
use Rattle.cl_replies.specs.Inputs.{Inputs, NoCommand}
use Rattle.cl_replies.specs.Reports.{IsScript, usage_reply}
use Rattle.cl_app.specs.Reading.{Suits}
use Rattle.cl_app.specs.Top.{CountsReads, CountsWrites, DoesCommand, IsOwnStatus}
use Rattle.cl_app.proofs.Ends.{own_status, two_is_usage, usage_is_two}

-- a status is none of 3, 4 and 9
not_three : (s : Status) → number_of s ≡ 3 → ⊥
not_three Done h = omega (arith, h)
not_three Usage h = omega (arith, h)
not_three BadFile h = omega (arith, h)
not_three Refused h = omega (arith, h)
not_three NotGood h = omega (arith, h)
not_three BadWord h = omega (arith, h)

not_four : (s : Status) → number_of s ≡ 4 → ⊥
not_four Done h = omega (arith, h)
not_four Usage h = omega (arith, h)
not_four BadFile h = omega (arith, h)
not_four Refused h = omega (arith, h)
not_four NotGood h = omega (arith, h)
not_four BadWord h = omega (arith, h)

pub if_own : (r : Result Status Stop) (P : ℕ → Type 0) → IfOk r (λ s. P (number_of s)) → end_number r ≢ 3 → end_number r ≢ 4 → end_number r ≢ 9 → P (end_number r)
if_own (Ok s) P p a b c = p
if_own (Err ReadFailed) P p a b c = absurd (a refl)
if_own (Err WriteFailed) P p a b c = absurd (b refl)
if_own (Err NoMemory) P p a b c = absurd (c refl)

pub rose_read : (r : Result Status Stop) (before now : ℕ) → CountsReads before now r → end_number r ≡ 3 → Rose before now
rose_read (Ok s) before now counts h = absurd (not_three s h)
rose_read (Err ReadFailed) before now counts h = counts.1
rose_read (Err WriteFailed) before now counts h = absurd (omega (arith, h))
rose_read (Err NoMemory) before now counts h = absurd (omega (arith, h))

pub rose_write : (r : Result Status Stop) (before now : ℕ) → CountsWrites before now r → end_number r ≡ 4 → Rose before now
rose_write (Ok s) before now counts h = absurd (not_four s h)
rose_write (Err ReadFailed) before now counts h = absurd (omega (arith, h))
rose_write (Err WriteFailed) before now counts h = counts.1
rose_write (Err NoMemory) before now counts h = absurd (omega (arith, h))

pub if_three : (r : Result Status Stop) (P : Type 0) → IfErr r (λ stop. stop ≡ ReadFailed → P) → end_number r ≡ 3 → P
if_three (Ok s) P p h = absurd (not_three s h)
if_three (Err ReadFailed) P p h = p refl
if_three (Err WriteFailed) P p h = absurd (omega (arith, h))
if_three (Err NoMemory) P p h = absurd (omega (arith, h))

pub if_read_failed : (r : Result Status Stop) (P : Type 0) (before now : ℕ) → CountsReads before now r → IfErr r (λ stop. stop ≡ ReadFailed → P) → now ≢ before → P × ((end_number r ≡ 3) ⊎ (end_number r ≡ 9))
if_read_failed (Ok s) P before now counts p other = absurd (other counts)
if_read_failed (Err ReadFailed) P before now counts p other = (p refl, inl refl)
if_read_failed (Err WriteFailed) P before now counts p other = absurd (other counts)
if_read_failed (Err NoMemory) P before now counts p other = absurd (other counts)

pub if_write_failed : (r : Result Status Stop) (before now : ℕ) → CountsWrites before now r → now ≢ before → (end_number r ≡ 4) ⊎ (end_number r ≡ 9)
if_write_failed (Ok s) before now counts other = absurd (other counts)
if_write_failed (Err ReadFailed) before now counts other = absurd (other counts)
if_write_failed (Err WriteFailed) before now counts other = inl refl
if_write_failed (Err NoMemory) before now counts other = absurd (other counts)

-- ---- a command that was done

pub own_of : (command : Option Command) (held : Option Held) (before now : Option (List ℕ)) (were are : Both) (number : ℕ) → DoesCommand command held before now were are number → IsOwnStatus command number
own_of command held before now were are number does = own_status command does.inputs does.script number does.are_inputs.suits does.is_script does.ends

pub usage_alone : (r : Result Status Stop) (command : Option Command) (held : Option Held) (before now : Option (List ℕ)) (were are : Both) → IfOk r (λ s. DoesCommand command held before now were are (number_of s)) → end_number r ≡ 2 → command ≡ None
usage_alone (Ok s) command held before now were are does h = two_is_usage command (number_of s) (own_of command held before now were are (number_of s) does) h
usage_alone (Err ReadFailed) command held before now were are does h = absurd (omega (arith, h))
usage_alone (Err WriteFailed) command held before now were are does h = absurd (omega (arith, h))
usage_alone (Err NoMemory) command held before now were are does h = absurd (omega (arith, h))

pub usage_or_stopped : (r : Result Status Stop) (command : Option Command) (held : Option Held) (before now : Option (List ℕ)) (were are : Both) → IfOk r (λ s. DoesCommand command held before now were are (number_of s)) → IfErr r (λ stop. stop ≡ ReadFailed → command ≢ None)
    → command ≡ None → (end_number r ≡ 2) ⊎ (end_number r ≡ 4) ⊎ (end_number r ≡ 9)
usage_or_stopped (Ok s) command held before now were are does reads none = inl (usage_is_two (number_of s) (subst (λ (c : Option Command). IsOwnStatus c (number_of s)) none (own_of command held before now were are (number_of s) does)))
usage_or_stopped (Err ReadFailed) command held before now were are does reads none = absurd (reads refl none)
usage_or_stopped (Err WriteFailed) command held before now were are does reads none = inr (inl refl)
usage_or_stopped (Err NoMemory) command held before now were are does reads none = inr (inr refl)

usage_bytes : (script : Script) → IsScript NoCommand script → bytes_of script.steps ≡ usage_reply.text
usage_bytes script is = ap (λ (s : Script). bytes_of s.steps) is.2 ∙ append-nil is.0.text ∙ ap (λ (reply : Reply). reply.text) is.1

line_of_none : (command : Option Command) (held : Option Held) (before now : Option (List ℕ)) (were are : Both) (number : ℕ) → command ≡ None → DoesCommand command held before now were are number → Grows before now usage_reply.text
line_of_none command held before now were are number none does =
    let inputs : does.inputs ≡ NoCommand = subst (λ (c : Option Command). Suits c does.inputs) none does.are_inputs.suits in
    subst (Grows before now) (usage_bytes does.script (subst (λ (i : Inputs). IsScript i does.script) inputs does.is_script)) does.does.written

pub usage_written : (r : Result Status Stop) (command : Option Command) (held : Option Held) (before now : Option (List ℕ)) (were are : Both) → IfOk r (λ s. DoesCommand command held before now were are (number_of s)) → end_number r ≡ 2 → Grows before now usage_reply.text
usage_written (Ok s) command held before now were are does h = line_of_none command held before now were are (number_of s) (two_is_usage command (number_of s) (own_of command held before now were are (number_of s) does) h) does
usage_written (Err ReadFailed) command held before now were are does h = absurd (omega (arith, h))
usage_written (Err WriteFailed) command held before now were are does h = absurd (omega (arith, h))
usage_written (Err NoMemory) command held before now were are does h = absurd (omega (arith, h))

-- ---- of the number that is given

pub own_by : (n : ℕ) (r : Result Status Stop) (command : Option Command) (held : Option Held) (before now : Option (List ℕ)) (were are : Both) → n ≡ end_number r → IfOk r (λ s. DoesCommand command held before now were are (number_of s)) → n ≢ 3 → n ≢ 4 → n ≢ 9 → IsOwnStatus command n
own_by n r command held before now were are is does = subst (λ (m : ℕ). m ≢ 3 → m ≢ 4 → m ≢ 9 → IsOwnStatus command m) (sym is)
    (λ a b d. own_of command held before now were are (end_number r) (if_own r (DoesCommand command held before now were are) does a b d))

pub stopped_by : (n : ℕ) (r : Result Status Stop) (command : Option Command) (held : Option Held) (before now : Option (List ℕ)) (were are : Both) → n ≡ end_number r → IfOk r (λ s. DoesCommand command held before now were are (number_of s)) → IfErr r (λ stop. stop ≡ ReadFailed → command ≢ None)
    → command ≡ None → (n ≡ 2) ⊎ (n ≡ 4) ⊎ (n ≡ 9)
stopped_by n r command held before now were are is does reads = subst (λ (m : ℕ). command ≡ None → (m ≡ 2) ⊎ (m ≡ 4) ⊎ (m ≡ 9)) (sym is) (usage_or_stopped r command held before now were are does reads)
