-- The report of `check`: what becomes of sources, one after another.
use Rattle.std.specs.Prelude.{◌≡◌, ◌⊎◌, ℕ, List, [], ◌∷◌, ◌++◌, length}
use Rattle.cl_c32.specs.Address.{AddressParts}
use Rattle.cl_forms.specs.declared.version.Version.{Version}
use Rattle.cl_rules.specs.Context.{CostTable, Known}
use Rattle.cl_rules.specs.Acceptance.{Accepted, FirstBreakOf, known_of}
use Rattle.cl_tx.specs.Nodes.{Told}
use Rattle.cl_tx.specs.Seen.{SourceBreak}
use Rattle.cl_tx.specs.Step.{told_of}
use Rattle.cl_lines.specs.Checks.{accepted_lines, refused_line}
use Rattle.cl_words.specs.declared.sources.Source.{Source}
use Rattle.cl_words.specs.Seen.{text_in}
use Rattle.cl_words.specs.Sources.{contract_at}
use Rattle.cl_entries.specs.declared.status.Reply.{Reply}
use Rattle.cl_entries.specs.declared.status.Status.TheVariants.{Done, Refused}

-- the source with this text under a path, of one version, as a contract under an address
abbrev pub source_at : AddressParts → Version → List ℕ → List ℕ → Source
source_at address version path text = record { principal = contract_at address path; text = text; version = version }

-- nothing is left to check
abbrev pub all_checked : Reply
all_checked = record { text = []; status = Done }

-- the lines of an accepted contract, and behind them those of the contracts after it
abbrev pub accepted_reply : Source → Told → Reply → Reply
accepted_reply source told rest = record { text = accepted_lines source.principal told.bounds told.types ++ rest.text; status = rest.status }

-- the line of a contract that is refused; those after it aren't looked at
abbrev pub refused_source_reply : Source → SourceBreak → Reply
refused_source_reply source broken = record { text = refused_line source.principal broken; status = Refused }

-- The report of sources under a table of costs, after contracts that are known: each is accepted after those before it, or else
-- refused by the first rule that it breaks.
abbrev pub IsReport : CostTable → List Known → List Source → Reply → Type 0
IsReport table known [] reply = reply ≡ all_checked
IsReport table known (source ∷ sources) reply =
    ((accepted : Accepted known source.principal table (text_in source)) × (rest : Reply)
    × IsReport table (known ++ known_of source.principal (length source.text) accepted.defined ∷ []) sources rest
    × (reply ≡ accepted_reply source (told_of table accepted.defined accepted.forms) rest))
    ⊎ ((broken : SourceBreak) × FirstBreakOf known source.principal table (text_in source) broken.rule broken.span broken.names
    × (reply ≡ refused_source_reply source broken))
