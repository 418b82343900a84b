-- A request from its words to its reply.
use Rattle.std.proofs.Common.{◌≡◌, ◌≢◌, inl, inr, ◌⊎◌, ℕ, List, [], Option, Some, None, Result, Ok, Err, IfErr, IfOk, refl, sym, ap, subst, append-nil, arith}
use Rattle.cl_ports.specs.Files.{Held}
use Rattle.cl_ports.specs.Growth.{Grows, GrowsPart}
use Rattle.cl_words.specs.Words.{IsOfTable}
use Rattle.cl_entries.specs.declared.status.Reply.{Reply}
use Rattle.cl_entries.specs.declared.status.Status.{Status}
use Rattle.cl_entries.specs.declared.status.Stop.{Stop}
use Rattle.cl_entries.specs.declared.status.Stop.TheVariants.{ReadFailed, WriteFailed, NoMemory}
use Rattle.cl_entries.specs.Scripts.{end_number, number_of}
use Rattle.cl_replies.specs.Inputs.{Inputs, NoCommand, BadFile, RunInputs}
use Rattle.cl_app.specs.Reading.{AreInputs, Suits}
use Rattle.cl_app.specs.Top.{EndsWith, IsOwnStatus}
use Rattle.cl_app.proofs.Ends.{two_is_usage, usage_is_two}
use Rattle.cl_app.proofs.Results.{if_own}
use Rattle.cl_lanes_app.specs.Replying.{CanHave, WritesAll, WritesSome}
use Rattle.cl_lanes_app.specs.Reports.{IsLanesReply, usage_reply}
use Rattle.cl_lanes_app.specs.Top.{WritesPart, WritesReply}
use Rattle.cl_lanes_app.specs.Words.{Request, run_of}

-- ---- what is written

pub whole_is_part : (before now : Option (List ℕ)) (text : List ℕ) → Grows before now text → GrowsPart before now text
whole_is_part before now text written = record { part = text; rest = []; parts = append-nil text; grown = written }

module _ (request : Option Request) (held : Option Held) (inputs : Inputs) (before now : Option (List ℕ)) (are : AreInputs (run_of request) held inputs) where
  -- an answer that was given
  pub answered_done : (r : Result Status Stop) → IfOk r (λ s. WritesAll request inputs before now s) → IfOk r (λ s. WritesReply request held before now (number_of s))
  answered_done (Ok s) does = record {
    reply = does.reply;
    has_reply = record { inputs = inputs; are_inputs = are; is_reply = does.is_reply };
    written = does.written;
    ends = ap number_of does.ends;
  }
  answered_done (Err stop) does = tt

  some_part : WritesSome request inputs before now → WritesPart request held before now
  some_part (inl same) = inl same
  some_part (inr front) = inr (record {
    reply = front.reply;
    has_reply = record { inputs = inputs; are_inputs = are; is_reply = front.is_reply };
    written = front.written;
  })

  pub answered_part : (r : Result Status Stop) → IfOk r (λ s. WritesAll request inputs before now s) → IfErr r (λ _. WritesSome request inputs before now) → WritesPart request held before now
  answered_part (Ok s) does part = inr (record {
    reply = does.reply;
    has_reply = record { inputs = inputs; are_inputs = are; is_reply = does.is_reply };
    written = whole_is_part before now does.reply.text does.written;
  })
  answered_part (Err stop) does part = some_part part

-- ---- statuses

-- the status is one of the reply's
reply_own : (request : Option Request) (inputs : Inputs) (reply : Reply) → IsLanesReply request inputs reply → EndsWith (run_of request) reply.status
reply_own None NoCommand reply is = ap (λ (r : Reply). r.status) is
reply_own None inputs reply is = absurd is
reply_own (Some request) (BadFile name fault) reply is = inr (ap (λ (r : Reply). r.status) is)
reply_own (Some request) (RunInputs table file state) reply is = inl (ap (λ (r : Reply). r.status) is.is)
reply_own (Some request) inputs reply is = absurd is

pub own_of : (request : Option Request) (held : Option Held) (before now : Option (List ℕ)) (number : ℕ) → WritesReply request held before now number → IsOwnStatus (run_of request) number
own_of request held before now number does = (does.reply.status, reply_own request does.has_reply.inputs does.reply does.has_reply.is_reply, does.ends)

no_run : (request : Option Request) → run_of request ≡ None → request ≡ None
no_run None none = refl
no_run (Some request) none = absurd cc

pub usage_alone : (r : Result Status Stop) (request : Option Request) (held : Option Held) (before now : Option (List ℕ)) → IfOk r (λ s. WritesReply request held before now (number_of s)) → end_number r ≡ 2 → request ≡ None
usage_alone (Ok s) request held before now does two = no_run request (two_is_usage (run_of request) (number_of s) (own_of request held before now (number_of s) does) two)
usage_alone (Err ReadFailed) request held before now does two = absurd (omega (arith, two))
usage_alone (Err WriteFailed) request held before now does two = absurd (omega (arith, two))
usage_alone (Err NoMemory) request held before now does two = absurd (omega (arith, two))

usage_or_stopped : (r : Result Status Stop) (request : Option Request) (held : Option Held) (before now : Option (List ℕ)) → IfOk r (λ s. WritesReply request held before now (number_of s)) → IfErr r (λ stop. stop ≡ ReadFailed → run_of request ≢ None)
    → request ≡ None → (end_number r ≡ 2) ⊎ (end_number r ≡ 4) ⊎ (end_number r ≡ 9)
usage_or_stopped (Ok s) request held before now does reads none = inl (usage_is_two (number_of s) (subst (λ (q : Option Request). IsOwnStatus (run_of q) (number_of s)) none (own_of request held before now (number_of s) does)))
usage_or_stopped (Err ReadFailed) request held before now does reads none = absurd (reads refl (ap run_of none))
usage_or_stopped (Err WriteFailed) request held before now does reads none = inr (inl refl)
usage_or_stopped (Err NoMemory) request held before now does reads none = inr (inr refl)

pub stopped_by : (n : ℕ) (r : Result Status Stop) (request : Option Request) (held : Option Held) (before now : Option (List ℕ)) → n ≡ end_number r → IfOk r (λ s. WritesReply request held before now (number_of s)) → IfErr r (λ stop. stop ≡ ReadFailed → run_of request ≢ None)
    → request ≡ None → (n ≡ 2) ⊎ (n ≡ 4) ⊎ (n ≡ 9)
stopped_by n r request held before now is does reads = subst (λ (m : ℕ). request ≡ None → (m ≡ 2) ⊎ (m ≡ 4) ⊎ (m ≡ 9)) (sym is) (usage_or_stopped r request held before now does reads)

pub own_by : (n : ℕ) (r : Result Status Stop) (request : Option Request) (held : Option Held) (before now : Option (List ℕ)) → n ≡ end_number r → IfOk r (λ s. WritesReply request held before now (number_of s)) → n ≢ 3 → n ≢ 4 → n ≢ 9 → IsOwnStatus (run_of request) n
own_by n r request held before now is does = subst (λ (m : ℕ). m ≢ 3 → m ≢ 4 → m ≢ 9 → IsOwnStatus (run_of request) m) (sym is)
    (λ a b d. own_of request held before now (end_number r) (if_own r (WritesReply request held before now) does a b d))

-- ---- the line of other words

usage_text : (inputs : Inputs) (reply : Reply) → IsLanesReply None inputs reply → reply.text ≡ usage_reply.text
usage_text NoCommand reply is = ap (λ (r : Reply). r.text) is
usage_text inputs reply is = absurd is

line_of_none : (request : Option Request) (held : Option Held) (before now : Option (List ℕ)) (number : ℕ) → request ≡ None → WritesReply request held before now number → Grows before now usage_reply.text
line_of_none request held before now number none does =
    subst (Grows before now) (usage_text does.has_reply.inputs does.reply (subst (λ (q : Option Request). IsLanesReply q does.has_reply.inputs does.reply) none does.has_reply.is_reply)) does.written

pub usage_written : (r : Result Status Stop) (request : Option Request) (held : Option Held) (before now : Option (List ℕ)) → IfOk r (λ s. WritesReply request held before now (number_of s)) → end_number r ≡ 2 → Grows before now usage_reply.text
usage_written (Ok s) request held before now does two = line_of_none request held before now (number_of s) (usage_alone (Ok s) request held before now does two) does
usage_written (Err ReadFailed) request held before now does two = absurd (omega (arith, two))
usage_written (Err WriteFailed) request held before now does two = absurd (omega (arith, two))
usage_written (Err NoMemory) request held before now does two = absurd (omega (arith, two))

-- ---- which inputs a request has

pub can_have : (request : Option Request) (inputs : Inputs) → Suits (run_of request) inputs → CanHave request inputs
can_have None inputs suits = subst (CanHave None) (sym suits) tt
can_have (Some request) inputs (inl bad) = subst (CanHave (Some request)) (sym bad.2) tt
can_have (Some request) inputs (inr good) = subst (CanHave (Some request)) (sym good.2) tt

usage_is : (inputs : Inputs) (reply : Reply) → CanHave None inputs → reply ≡ usage_reply → IsLanesReply None inputs reply
usage_is NoCommand reply can is = is
usage_is inputs reply can is = absurd can

pub usage_if_none : {E : Type 0} (request : Option Request) (inputs : Inputs) (r : Result Reply E) → request ≡ None → CanHave request inputs → IfOk r (λ reply. reply ≡ usage_reply) → IfOk r (IsLanesReply request inputs)
usage_if_none None inputs (Ok reply) none can is = usage_is inputs reply can is
usage_if_none None inputs (Err e) none can is = tt
usage_if_none (Some request) inputs r none can is = absurd cc

pub is_of_table : (request : Option Request) → IsOfTable (run_of request)
is_of_table None = tt
is_of_table (Some request) = tt
