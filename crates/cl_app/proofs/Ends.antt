-- The statuses with which commands end.
use Rattle.std.proofs.Common.{◌≡◌, inl, inr, ◌⊎◌, ℕ, Bool, true, false, List, [], ◌∷◌, ◌++◌, length, Option, Some, None, Ok, Err, refl, sym, ap, subst, ◌∙◌, arith}
use Rattle.std.specs.Prelude.{Result}
use Rattle.hex.specs.Hex.{decode_of}
use Rattle.hex.specs.declared.error.FromHexError.{FromHexError}
use Rattle.cl_values.specs.Reading.{decoded}
use Rattle.cl_values.specs.declared.fault.DecodeRefusal.{DecodeRefusal}
use Rattle.cl_text.specs.Parsed.{Reading, Stands, Broken, NotALiteral, TooDeep, TooLarge}
use Rattle.cl_values.specs.Tree.{Tree}
use Rattle.cl_forms.specs.declared.version.Version.{Version}
use Rattle.cl_forms.specs.Texts.{Text, text_of}
use Rattle.cl_costs.specs.Tables.{function_of}
use Rattle.cl_events.specs.State.{State}
use Rattle.cl_rules.specs.Context.{CostTable, Known}
use Rattle.cl_rules.specs.Acceptance.{known_of}
use Rattle.cl_words.specs.Argument.{Arguments}
use Rattle.cl_words.specs.declared.sources.Source.{Source}
use Rattle.cl_words.specs.Words.{Command, Call, Run, Check, Value, Wire, Gen, Trace, Audit, Root, Prove, Verify}
use Rattle.cl_entries.specs.declared.entries.End.{End}
use Rattle.cl_entries.specs.declared.entries.End.TheVariants.{Good, Bad, Aborted, Refused as RefusedEntry}
use Rattle.cl_entries.specs.declared.status.Reply.{Reply}
use Rattle.cl_entries.specs.declared.status.Status.{Status}
use Rattle.cl_entries.specs.declared.status.Status.TheVariants.{Done, Usage, BadFile as BadFileStatus, Refused, NotGood, BadWord}
use Rattle.cl_entries.specs.Scripts.{Script, end_number, number_of, script_of}
use Rattle.cl_entries.specs.Entries.{end_of}
use Rattle.cl_audit_reply.specs.Verdicts.{reply_of}
use Rattle.cl_audit_reply.specs.declared.reply.Verdict.{Verdict}
use Rattle.cl_audit_reply.specs.declared.reply.Verdict.TheVariants.{Yes, NoClaim, NoReport}
use Rattle.cl_replies.specs.Inputs.{Inputs, CallInputs}
use Rattle.cl_replies.specs.Spelling.{bytes_reply, digits_in, hex_reply, verdict_on, verdict_reply, wire_reply, yes_or_no}
use Rattle.cl_replies.specs.Checked.{IsReport}
use Rattle.cl_replies.specs.Reports.{IsProved, no_row, proved, IsScript, call_status, status_of}
use Rattle.cl_app.specs.Reading.{CallSuits, IsBadFile, Suits}
use Rattle.cl_app.specs.Top.{CallEnds, EndsWith, IsOwnStatus}

-- a script ends with this status
abbrev Ends : Script → Status → Type 0
Ends script status = script.end ≡ Ok status

reply_ends : (reply : Reply) (script : Script) → script ≡ script_of reply → Ends script reply.status
reply_ends reply script is = ap (λ (s : Script). s.end) is

-- the status of each script of these inputs is such
abbrev EndsBy : (Status → Type 0) → Inputs → Type 0
EndsBy Of inputs = (script : Script) → IsScript inputs script → (status : Status) × Ends script status × Of status

bad_file_ends : (Of : Status → Type 0) → Of BadFileStatus → (inputs : Inputs) → IsBadFile inputs → EndsBy Of inputs
bad_file_ends Of good inputs bad = subst (EndsBy Of) (sym bad.2) (λ script is. (BadFileStatus, reply_ends is.0 script is.2 ∙ ap (λ (reply : Reply). Ok reply.status) is.1, good))

-- ---- `call`

abbrev CallStatus : Status → Type 0
CallStatus status = (status ≡ Done) ⊎ (status ≡ BadFileStatus) ⊎ (status ≡ Refused) ⊎ (status ≡ NotGood)

called_status : (called : End) → CallStatus (call_status called)
called_status Good = inl refl
called_status Bad = inr (inr (inr refl))
called_status Aborted = inr (inr (inr refl))
called_status RefusedEntry = inr (inr (inr refl))

two_status : (deployed called : End) → CallStatus (status_of deployed called)
two_status RefusedEntry called = inr (inr (inl refl))
two_status Aborted called = inr (inr (inr refl))
two_status Good called = called_status called
two_status Bad called = called_status called

call_ends : (source : Text) (function : List ℕ) (args : List Tree) → EndsBy CallStatus (CallInputs source function args)
call_ends source function args script is =
    let report = is.1 in (
      is.0.status,
      reply_ends is.0 script is.2,
      subst CallStatus (sym (ap (λ (reply : Reply). reply.status) report.is)) (two_status (end_of report.deployed.outcome) (end_of report.called.outcome)),
    )

call_suits : (function : List ℕ) (version : Version) (args : Arguments) (inputs : Inputs) → CallSuits function version args inputs → EndsBy (CallEnds args) inputs
call_suits function version (Err outcome) inputs suits = subst (EndsBy (CallEnds (Err outcome))) (sym suits) (λ script is. (BadWord, reply_ends is.0 script is.2 ∙ ap (λ (reply : Reply). Ok reply.status) is.1, refl))
call_suits function version (Ok args) inputs (inl bad) = bad_file_ends (CallEnds (Ok args)) (inr (inl refl)) inputs bad
call_suits function version (Ok args) inputs (inr good) = subst (EndsBy (CallEnds (Ok args))) (sym good.1) (call_ends (text_of good.0 version) function args)

-- ---- `check` and `audit`

abbrev CheckStatus : Status → Type 0
CheckStatus status = (status ≡ Done) ⊎ (status ≡ BadFileStatus) ⊎ (status ≡ Refused)

report_ends : (table : CostTable) (known : List Known) (sources : List Source) (reply : Reply) → IsReport table known sources reply → CheckStatus reply.status
report_ends table known [] reply is = inl (ap (λ (r : Reply). r.status) is)
report_ends table known (s ∷ sources) reply (inl accepted) =
    subst CheckStatus (sym (ap (λ (r : Reply). r.status) accepted.3)) (report_ends table (known ++ known_of s.principal (length s.text) accepted.0.defined ∷ []) sources accepted.1 accepted.2)
report_ends table known (s ∷ sources) reply (inr refused) = inr (inr (ap (λ (r : Reply). r.status) refused.2))

audit_ends : (verdict : Verdict) (reply : Reply) → reply ≡ reply_of verdict → CheckStatus reply.status
audit_ends Yes reply is = inl (ap (λ (r : Reply). r.status) is)
audit_ends (NoClaim entry claim) reply is = inr (inr (ap (λ (r : Reply). r.status) is))
audit_ends (NoReport at) reply is = inr (inr (ap (λ (r : Reply). r.status) is))

-- ---- `prove`

abbrev ProveStatus : Status → Type 0
ProveStatus status = (status ≡ Done) ⊎ (status ≡ BadFileStatus) ⊎ (status ≡ BadWord)

proved_ends : (state : State) (number : ℕ) (digest : List ℕ) (reply : Reply) → IsProved state number digest reply → ProveStatus reply.status
proved_ends state number digest reply (no_row few is) = inr (inr (ap (λ (r : Reply). r.status) is))
proved_ends state number digest reply (proved row path numbered is) = inl (ap (λ (r : Reply). r.status) is)

-- ---- each command

of_reply : (Of : Status → Type 0) (reply : Reply) (script : Script) → script ≡ script_of reply → Of reply.status → (status : Status) × Ends script status × Of status
of_reply Of reply script is of = (reply.status, reply_ends reply script is, of)

command_ends : (command : Option Command) (inputs : Inputs) → Suits command inputs → EndsBy (EndsWith command) inputs
command_ends None inputs suits = subst (EndsBy (EndsWith None)) (sym suits) (λ script is. of_reply (EndsWith None) is.0 script is.2 (ap (λ (r : Reply). r.status) is.1))
command_ends (Some (Call file function words version)) inputs suits = λ script is.
    let ended = call_suits function version suits.0 inputs suits.2 script is in
    (ended.0, ended.1, (suits.0, suits.1, ended.2))
command_ends (Some (Run costs file state)) inputs (inl bad) = bad_file_ends (EndsWith (Some (Run costs file state))) (inr refl) inputs bad
command_ends (Some (Run costs file state)) inputs (inr good) = subst (EndsBy (EndsWith (Some (Run costs file state)))) (sym good.2) (λ script is. (Done, ap (λ (s : Script). s.end) is.is, inl refl))
command_ends (Some (Check costs address paths version)) inputs (inl bad) = bad_file_ends (EndsWith (Some (Check costs address paths version))) (inr (inl refl)) inputs bad
command_ends (Some (Check costs address paths version)) inputs (inr good) =
    subst (EndsBy (EndsWith (Some (Check costs address paths version)))) (sym good.2) (λ script is. of_reply CheckStatus is.0 script is.2 (report_ends (function_of good.0) [] good.1 is.0 is.1))
command_ends (Some (Value word)) inputs suits = subst (EndsBy (EndsWith (Some (Value word)))) (sym suits) (λ script is. of_reply (EndsWith (Some (Value word))) is.0 script is.2 (ap (λ (r : Reply). r.status) is.1))
command_ends (Some (Wire word)) inputs suits =
    subst (EndsBy (EndsWith (Some (Wire word)))) (sym suits) (λ script is. of_reply (EndsWith (Some (Wire word))) is.0 script is.2 (is.1.0, is.1.1, ap (λ (r : Reply). r.status) is.1.2))
command_ends (Some (Gen seed count)) inputs suits = subst (EndsBy (EndsWith (Some (Gen seed count)))) (sym suits) (λ script is. of_reply (EndsWith (Some (Gen seed count))) is.0 script is.2 (ap (λ (r : Reply). r.status) is.1.is))
command_ends (Some (Trace costs file)) inputs (inl bad) = bad_file_ends (EndsWith (Some (Trace costs file))) (inr refl) inputs bad
command_ends (Some (Trace costs file)) inputs (inr good) = subst (EndsBy (EndsWith (Some (Trace costs file)))) (sym good.2) (λ script is. (Done, ap (λ (s : Script). s.end) is.is, inl refl))
command_ends (Some (Audit costs file trace report)) inputs (inl bad) = bad_file_ends (EndsWith (Some (Audit costs file trace report))) (inr (inl refl)) inputs bad
command_ends (Some (Audit costs file trace report)) inputs (inr good) =
    subst (EndsBy (EndsWith (Some (Audit costs file trace report)))) (sym good.4) (λ script is. of_reply CheckStatus is.0 script is.2 (audit_ends is.1.verdict is.0 is.1.is))
command_ends (Some (Root costs file)) inputs (inl bad) = bad_file_ends (EndsWith (Some (Root costs file))) (inr refl) inputs bad
command_ends (Some (Root costs file)) inputs (inr good) = subst (EndsBy (EndsWith (Some (Root costs file)))) (sym good.2) (λ script is. of_reply (EndsWith (Some (Root costs file))) is.0 script is.2 (inl (ap (λ (r : Reply). r.status) is.1.is)))
command_ends (Some (Prove costs file number)) inputs (inl bad) = bad_file_ends (EndsWith (Some (Prove costs file number))) (inr (inl refl)) inputs bad
command_ends (Some (Prove costs file number)) inputs (inr good) =
    subst (EndsBy (EndsWith (Some (Prove costs file number)))) (sym good.2) (λ script is. of_reply ProveStatus is.0 script is.2 (proved_ends is.1.state number is.1.digest is.0 is.1.is_proved))
command_ends (Some (Verify root key value sides)) inputs suits =
    subst (EndsBy (EndsWith (Some (Verify root key value sides)))) (sym suits) (λ script is. of_reply (EndsWith (Some (Verify root key value sides))) is.0 script is.2 (ap (λ (r : Reply). r.status) is.1))

-- a command that was done to its end
pub own_status : (command : Option Command) (inputs : Inputs) (script : Script) (number : ℕ) → Suits command inputs → IsScript inputs script → number ≡ end_number script.end → IsOwnStatus command number
own_status command inputs script number suits is ends =
    let ended = command_ends command inputs suits script is in
    (ended.0, ended.2, ends ∙ ap end_number ended.1)

-- ---- words that are no command

-- the number of a status is no other's
abbrev pub is_usage : Status → Bool
is_usage Usage = true
is_usage Done = false
is_usage BadFileStatus = false
is_usage Refused = false
is_usage NotGood = false
is_usage BadWord = false

usage_by : (status : Status) → number_of status ≡ 2 → is_usage status ≡ true
usage_by Usage two = refl
usage_by Done two = absurd (omega (arith, two))
usage_by BadFileStatus two = absurd (omega (arith, two))
usage_by Refused two = absurd (omega (arith, two))
usage_by NotGood two = absurd (omega (arith, two))
usage_by BadWord two = absurd (omega (arith, two))

bytes_plain : (r : Result Tree DecodeRefusal) → is_usage (bytes_reply r).status ≡ false
bytes_plain (Ok v) = refl
bytes_plain (Err fault) = refl

hex_plain : (r : Result (List ℕ) FromHexError) → is_usage (hex_reply r).status ≡ false
hex_plain (Ok bytes) = bytes_plain (decoded bytes)
hex_plain (Err error) = refl

wire_plain : (outcome : Reading) → is_usage (wire_reply outcome).status ≡ false
wire_plain (Stands v) = refl
wire_plain (Broken b) = refl
wire_plain (NotALiteral span) = refl
wire_plain (TooDeep span) = refl
wire_plain (TooLarge span) = refl

answer_plain : (yes : Bool) → is_usage (yes_or_no yes).status ≡ false
answer_plain true = refl
answer_plain false = refl

verdict_plain : (leads : Option Bool) → is_usage (verdict_reply leads).status ≡ false
verdict_plain (Some leads) = answer_plain leads
verdict_plain None = refl

call_plain : (args : Arguments) (status : Status) → CallEnds args status → is_usage status ≡ false
call_plain (Err outcome) status e = ap is_usage e
call_plain (Ok args) status (inl e) = ap is_usage e
call_plain (Ok args) status (inr (inl e)) = ap is_usage e
call_plain (Ok args) status (inr (inr (inl e))) = ap is_usage e
call_plain (Ok args) status (inr (inr (inr e))) = ap is_usage e

two_plain : (a b status : Status) → is_usage a ≡ false → is_usage b ≡ false → (status ≡ a) ⊎ (status ≡ b) → is_usage status ≡ false
two_plain a b status p q (inl e) = ap is_usage e ∙ p
two_plain a b status p q (inr e) = ap is_usage e ∙ q

three_plain : (a b c status : Status) → is_usage a ≡ false → is_usage b ≡ false → is_usage c ≡ false → (status ≡ a) ⊎ (status ≡ b) ⊎ (status ≡ c) → is_usage status ≡ false
three_plain a b c status p q r (inl e) = ap is_usage e ∙ p
three_plain a b c status p q r (inr e) = two_plain b c status q r e

-- a command doesn't end so
command_plain : (command : Command) (status : Status) → EndsWith (Some command) status → is_usage status ≡ false
command_plain (Call file function words version) status ends = call_plain ends.0 status ends.2
command_plain (Run costs file state) status ends = two_plain Done BadFileStatus status refl refl ends
command_plain (Check costs address paths version) status ends = three_plain Done BadFileStatus Refused status refl refl refl ends
command_plain (Value word) status ends = ap is_usage ends ∙ hex_plain (decode_of (digits_in word))
command_plain (Wire word) status ends = ap is_usage ends.2 ∙ wire_plain ends.0
command_plain (Gen seed count) status ends = ap is_usage ends
command_plain (Trace costs file) status ends = two_plain Done BadFileStatus status refl refl ends
command_plain (Audit costs file trace report) status ends = three_plain Done BadFileStatus Refused status refl refl refl ends
command_plain (Root costs file) status ends = two_plain Done BadFileStatus status refl refl ends
command_plain (Prove costs file number) status ends = three_plain Done BadFileStatus BadWord status refl refl refl ends
command_plain (Verify root key value sides) status ends = ap is_usage ends ∙ verdict_plain (verdict_on root key value sides)

pub two_is_usage : (command : Option Command) (number : ℕ) → IsOwnStatus command number → number ≡ 2 → command ≡ None
two_is_usage None number own two = refl
two_is_usage (Some command) number own two = absurd (true_is_false (is_usage own.0) (usage_by own.0 (sym own.2 ∙ two)) (command_plain command own.0 own.1))
  where
    true_is_false : (b : Bool) → b ≡ true → b ≡ false → ⊥
    true_is_false b t f = absurd cc

-- words that are no command end so alone
pub usage_is_two : (number : ℕ) → IsOwnStatus None number → number ≡ 2
usage_is_two number own = own.2 ∙ ap number_of own.1
