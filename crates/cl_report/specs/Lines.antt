-- The lines of the report.
use Rattle.std.specs.Prelude.{ℕ, ◌+◌, List, [], ◌∷◌, ◌++◌, codes, decimal}
use Rattle.std.specs.List.{flat_map}
use Rattle.cl_text.specs.Printed.{principal_text, printed}
use Rattle.cl_events.specs.declared.event.Event.{Event}
use Rattle.cl_file.specs.declared.entry.Entry.{Entry}
use Rattle.cl_file.specs.declared.entry.Entry.TheVariants.{Deploy, Call, Block}
use Rattle.cl_tx.specs.declared.outcome.Outcome.{Outcome}
use Rattle.cl_tx.specs.declared.outcome.Outcome.TheVariants.{Moved, Done, Good, Bad, Plain, Aborted, Refused}
use Rattle.cl_tx.specs.declared.outcome.TxResult.{TxResult}
use Rattle.cl_tx.specs.Nodes.{contract_of}
use Rattle.cl_tx.specs.Step.{if_committed}
use Rattle.cl_lines.specs.Costs.{cost_line, bounds_lines}
use Rattle.cl_lines.specs.Refusals.{stop_text, entry_refusal_text}
use Rattle.cl_lines.specs.Events.{event_line}
use Rattle.cl_lines.specs.Rebounds.{rebound_lines}

-- what became of an entry; of a block there is nothing to say
unfoldable pub outcome_text : Outcome → List ℕ
outcome_text Moved = []
outcome_text Done = codes "done"
outcome_text (Good v) = codes "ok " ++ printed v
outcome_text (Bad v) = codes "err " ++ printed v
outcome_text (Plain v) = codes "value " ++ printed v
outcome_text (Aborted why) = codes "aborted " ++ stop_text why
outcome_text (Refused why) = codes "refused " ++ entry_refusal_text why

-- what an entry was to do: the contract, and for a call the name of the function as it was given; of a block the height
unfoldable pub entry_text : Entry → List ℕ
entry_text (Deploy common name source version) = codes " deploy " ++ (principal_text (contract_of common.sender name) ++ codes " ")
entry_text (Call common contract function args) = codes " call " ++ (principal_text contract ++ (codes " " ++ (function ++ codes " ")))
entry_text (Block height) = codes " block " ++ decimal height

-- the first line of an entry
unfoldable pub entry_line : ℕ → Entry → Outcome → List ℕ
entry_line number entry outcome = decimal number ++ (entry_text entry ++ (outcome_text outcome ++ codes "\n"))

-- the lines of the events that an entry hands out
abbrev pub event_lines : Outcome → List Event → List ℕ
event_lines outcome events = flat_map event_line (if_committed outcome events)

-- The lines of an entry with its result. Only a block has rebounds, and it has neither cost nor bounds nor events.
unfoldable pub lines_of : ℕ → Entry → TxResult → List ℕ
lines_of number entry result =
    entry_line number entry result.outcome
    ++ (cost_line result.cost
    ++ (bounds_lines result.bounds result.types
    ++ (event_lines result.outcome result.events
    ++ rebound_lines result.rebounds)))

-- the lines of entries with their results, numbered from this on
abbrev pub report_from : ℕ → List Entry → List TxResult → List ℕ
report_from number (e ∷ es) (r ∷ rs) = lines_of number e r ++ report_from (number + 1) es rs
report_from number es rs = []
