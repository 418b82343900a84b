use Rattle.cl_events.proofs.Genesis.{holdings_ledger}
use Rattle.cl_events.proofs.laws.genesis_is_a_ledger.Goals as goal

pub returns : goal.returns
returns c = holdings_ledger
