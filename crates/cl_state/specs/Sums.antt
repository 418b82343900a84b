-- Supplies are what all holders have together.
use Rattle.std.specs.Prelude.{ℕ}
use Rattle.cl_tokens.specs.Ledger.{IsLedger}
use Rattle.cl_events.specs.declared.event.EventKind.{EventKind}
use Rattle.cl_events.specs.declared.event.EventKind.TheVariants.{StxBurn}
use Rattle.cl_events.specs.State.{State}
use Rattle.cl_tables.specs.Spelled.{Each}

-- the balances of each fungible token and of STX are above 0 and sum to the supply, which is at most the cap
pub record HasSums (s : State) : Type 0 where
  pub fungibles : Each (λ key l. IsLedger l) s.fungibles
  pub stx : IsLedger s.stx

-- how much STX an act burns
abbrev pub stx_burnt_by : EventKind → ℕ
stx_burnt_by (StxBurn amount from) = amount
stx_burnt_by kind = 0
