use Rattle.std.proofs.Common.{◌≡◌, List, [], map, sym, subst}
use Rattle.std.specs.List.{flat_map}
use Rattle.std.specs.Prelude.{IfOk}
use Rattle.cl_c32.specs.declared.principal.Principal.{Principal}
use Rattle.cl_rules.specs.Context.{CostTable, Known}
use Rattle.cl_contracts.specs.Contents.{ContractParts as Contract}
use Rattle.cl_contracts.specs.Seen.{AreEntries, contract_seen}
use Rattle.cl_contracts.specs.Standings.{AreStanding}
use Rattle.cl_tx.specs.Rebounds.{rebounds_of}
use Rattle.cl_bound.specs.Known.{AreBounds}
use Rattle.cl_bound.proofs.block.rebounds.Goals as goal

pub lines_of-requires : goal.lines_of-requires
lines_of-requires c = subst AreEntries (sym c.contracts.ensures) c.are_known.ensures.indexed.each

pub returns : goal.returns
returns c =
    subst (λ (es : List (Principal × Contract)). IfOk c.lines_of.result (λ lines. (table : CostTable) (callers : List Known) → AreStanding [] es callers → AreBounds table es c.args.known.now →
    lines.items ≡ flat_map (rebounds_of table callers) (map contract_seen es))) c.contracts.ensures c.lines_of.ensures
