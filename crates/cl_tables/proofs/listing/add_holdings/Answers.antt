use Rattle.std.proofs.Common.{sym, subst}
use Rattle.std.specs.Prelude.{option_copied}
use Rattle.std.specs.List.{AllByRecursion}
use Rattle.cl_tables.specs.Spelled.{IsHolder}
use Rattle.cl_tables.specs.RowParts.{IsHolding, Lists}
use Rattle.cl_tables.proofs.RowLists.{rows_have}
use Rattle.cl_tables.proofs.MadeRows.{on_ok, holdings_added}
use Rattle.cl_tables.proofs.listing.add_holdings.Goals as goal

pub list_holdings-requires : goal.list_holdings-requires
list_holdings-requires c =
    subst (AllByRecursion (λ e. IsHolder e.0)) (sym c.deref.ensures.value) (rows_have (λ key n. IsHolder key) c.in_ok-holders.holders.items c.args.ledger.now.ledger.balances c.in_ok-holders.ensures c.requires.holders)

pub returns : goal.returns
returns c =
    let of = option_copied c.args.of in
    on_ok c.list_holdings.result _ _ (λ lists.
    holdings_added c.one_spelling.ensures.own of c.args.ledger.now.ledger.balances c.supply-supply.ensures.ledger.positive c.in_ok-holders.holders.items c.args.out.now.items c.list_holdings.new.out.items c.in_ok-holders.ensures
    (subst (λ es. Lists (IsHolding of) es c.args.out.now.items c.list_holdings.new.out.items) c.deref.ensures.value lists))
    c.list_holdings.ensures
