use Rattle.cl_tables.specs.Tables.{held_in}
use Rattle.cl_tables.proofs.MadeRows.{on_ok}
use Rattle.cl_tables.proofs.WholeRows.{parts_added}
use Rattle.cl_tables.proofs.tables.Tables.add_rows.Goals as goal

pub returns : goal.returns
returns c =
    on_ok c.add_holdings.result _ _ (λ stx.
    parts_added (held_in c.args.self.now) c.args.out.now.items c.add_variables.new.out.items c.add_entries.new.out.items c.add_fungibles.new.out.items c.add_nonfungibles.new.out.items c.add_holdings.new.out.items
    c.in_ok-add_variables.ensures c.in_ok-add_entries.ensures c.in_ok-add_fungibles.ensures c.in_ok-add_nonfungibles.ensures stx)
    c.add_holdings.ensures
