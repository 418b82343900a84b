-- What calls make of a session.
use Rattle.std.specs.Prelude.{◌≡◌, ◌+◌, ◌≤◌, ◌⊎◌, ℕ, List, [], ◌∷◌, ◌++◌, length, take}
use Rattle.cl_c32.specs.declared.principal.Principal.{Principal}
use Rattle.cl_costs.specs.Schedules.{ScheduleSeen}
use Rattle.cl_file.specs.declared.entry.Entry.{Entry}
use Rattle.cl_file.specs.Entries.{height_after}
use Rattle.cl_tx.specs.declared.outcome.TxResult.{TxResult}
use Rattle.cl_report.specs.Lines.{lines_of, report_from}
use Rattle.cl_nodes.specs.Seen.{Seen}
use Rattle.cl_nodes.specs.Steps.{Makes}
use Rattle.cl_engine.specs.Steps.{Gives}
use Rattle.cl_entries.specs.Entries.{IsFirst}
use Rattle.cl_session.specs.declared.session.Session.{Session}

-- the node before all entries, with these holders and these costs
pub record IsOpened (holders : List (Principal × ℕ)) (costs : ScheduleSeen) (s : Session) : Type 0 where
  pub first : IsFirst holders s.node
  pub costs_are : s.costs ≡ costs
  pub text : s.text.items ≡ []
  pub done : s.done ≡ 0

-- the node and its costs stay
pub record IsSame (before after : Session) : Type 0 where
  pub node : after.node ≡ before.node
  pub costs : after.costs ≡ before.costs

-- they stay, no entry is done yet, and there is no text
pub record IsCleared (before after : Session) : Type 0 where
  pub same : IsSame before after
  pub text : after.text.items ≡ []
  pub done : after.done ≡ 0

-- entries one after another have these results, as the rules define
abbrev pub AllMake : ScheduleSeen → Seen → List Entry → List TxResult → Seen → Type 0
AllMake schedule before [] [] after = after ≡ before
AllMake schedule before (e ∷ es) (r ∷ rs) after = (middle : Seen) × Makes schedule before e r middle × AllMake schedule middle es rs after
AllMake schedule before es rs after = ⊥

-- these entries were done, and the text is their report
pub record Ran (entries : List Entry) (before after : Session) : Type 0 where
  pub results : List TxResult
  pub make : AllMake before.costs before.node entries results after.node
  pub report : after.text.items ≡ report_from 0 entries results
  pub done : after.done ≡ length entries
  pub costs : after.costs ≡ before.costs

-- the first of them were done, as many as it says, and the text is a first part of their report
pub record RanPart (entries : List Entry) (before after : Session) : Type 0 where
  pub within : after.done ≤ length entries
  pub results : List TxResult
  pub make : AllMake before.costs before.node (take after.done entries) results after.node
  pub rest : List ℕ
  pub report : after.text.items ++ rest ≡ report_from 0 (take after.done entries) results
  pub costs : after.costs ≡ before.costs

-- the next entry was done
pub record Made (entry : Entry) (before after : Session) : Type 0 where
  pub result : TxResult
  pub makes : Makes before.costs before.node entry result after.node
  pub height : after.node.height ≡ height_after before.node.height entry
  pub done : after.done ≡ before.done + 1

-- and its lines were added
pub record Stepped (entry : Entry) (before after : Session) : Type 0 where
  pub made : Made entry before after
  pub lines : after.text.items ≡ before.text.items ++ lines_of before.done entry made.result
  pub costs : after.costs ≡ before.costs

-- it was done or not, and no line was added
pub record MadeOrSame (entry : Entry) (before after : Session) : Type 0 where
  pub node : Made entry before after ⊎ ((after.node ≡ before.node) × (after.done ≡ before.done))
  pub text : after.text.items ≡ before.text.items
  pub costs : after.costs ≡ before.costs

-- the text is the lines that a call would have
pub record Peeked (entry : Entry) (before after : Session) : Type 0 where
  pub result : TxResult
  pub gives : Gives before.costs before.node entry result
  pub lines : after.text.items ≡ lines_of 0 entry result
