use Rattle.std.proofs.Common.{take}
use Rattle.std.specs.Prelude.{option_copied}
use Rattle.cl_tables.specs.RowParts.{IsHolding, Lists}
use Rattle.cl_tables.proofs.listing.list_holdings.Given as goal

abbrev pub invariant-loop-holder : goal.invariant-loop-holder
invariant-loop-holder l = Lists (IsHolding (option_copied l.of)) (take l.holder-index l.holders) l.initial.out.items l.out.items
