use Rattle.std.proofs.Common.{refl, sym, subst}
use Rattle.std.specs.Prelude.{option_copied}
use Rattle.std.proofs.lemmas.List.{take_all}
use Rattle.std.proofs.lemmas.List.Elements.{All-from_recursion}
use Rattle.cl_tables.specs.Spelled.{IsHolder}
use Rattle.cl_tables.specs.RowParts.{IsHolding, Lists}
use Rattle.cl_tables.proofs.RowLists.{listed_none, listed_next}
use Rattle.cl_tables.proofs.listing.list_holdings.Goals as goal

pub loop-holder-init : goal.loop-holder-init
loop-holder-init c = listed_none (IsHolding (option_copied c.args.of)) c.args.out.now.items c.args.out.now.items refl

pub holding_row-requires : goal.holding_row-requires
holding_row-requires c =
    subst (λ e. IsHolder e.0) (sym c.holder-item.is) (All-from_recursion (λ e. IsHolder e.0) c.args.holders.now c.requires c.loop-holder.holder-index c.holder-item.result c.loop-holder-test.true)

pub loop-holder-preserved : goal.loop-holder-preserved
loop-holder-preserved c =
    listed_next (IsHolding (option_copied c.args.of)) c.args.holders.now c.loop-holder.holder-index c.holder-item.result c.args.out.now.items c.loop-holder.out.items c.push.new.self.items c.in_ok-row.row c.loop-holder-test.true c.holder-item.is c.loop-holder.invariant c.in_ok-row.ensures c.in_ok-push.ensures.items

pub returns : goal.returns
returns c =
    subst (λ es. Lists (IsHolding (option_copied c.args.of)) es c.args.out.now.items c.loop-holder.out.items) (take_all c.loop-holder.holder-index c.args.holders.now c.loop-holder-test.false) c.loop-holder.invariant
