use Rattle.std.proofs.Common.{Ok, Err, [], ◌∷◌, sym, subst}
use Rattle.cl_ports.proofs.Grown.{part_more, part_next}
use Rattle.cl_replies.specs.Inputs.{Inputs}
use Rattle.cl_app.specs.Reading.{Gives, inputs_for}
use Rattle.cl_app.proofs.Read.{Entries, entries_ask, entries_ask_first, entries_bad_costs, entries_bad_file, entries_give, transactions_kept}
use Rattle.cl_app.proofs.inputs.read_entries.Goals as goal

pub returns-in_err-table-clause-asked : goal.returns-in_err-table-clause-asked
returns-in_err-table-clause-asked g c = entries_ask_first c.args.costs.now c.args.file.now (inputs_for c.args.purpose) (g.F.Files.held c.args.files.now) (g.F.Files.asked c.args.files.now) (g.F.Files.asked c.read_costs.new.files) c.read_costs.ensures.part

pub returns-in_err-table-clause-names : goal.returns-in_err-table-clause-names
returns-in_err-table-clause-names g c = part_more (g.F.Files.asked c.args.files.now) (g.F.Files.asked c.read_costs.new.files) (c.args.costs.now ∷ []) (c.args.file.now ∷ []) c.read_costs.ensures.part

pub returns-in-Err-clause-gives : goal.returns-in-Err-clause-gives
returns-in-Err-clause-gives g c = entries_bad_costs c.args.costs.now c.args.file.now (inputs_for c.args.purpose) (g.F.Files.held c.args.files.now) c.in-Err.fault (rw c.in-Err.is at c.in_ok-table.ensures.costs)

pub returns-in_err-entries-clause-asked : goal.returns-in_err-entries-clause-asked
returns-in_err-entries-clause-asked g c = entries_ask c.args.costs.now c.args.file.now (inputs_for c.args.purpose) (g.F.Files.held c.args.files.now) c.in-Ok.table (g.F.Files.asked c.args.files.now) (g.F.Files.asked c.read_costs.new.files) (g.F.Files.asked c.read_transactions.new.files) (rw c.in-Ok.is at c.in_ok-table.ensures.costs) c.in_ok-table.ensures.asked c.read_transactions.ensures.part

pub returns-in_err-entries-clause-names : goal.returns-in_err-entries-clause-names
returns-in_err-entries-clause-names g c = part_next (g.F.Files.asked c.args.files.now) (g.F.Files.asked c.read_costs.new.files) (g.F.Files.asked c.read_transactions.new.files) (c.args.costs.now ∷ []) (c.args.file.now ∷ []) c.in_ok-table.ensures.asked c.read_transactions.ensures.part

pub returns-in-Ok-2-clause-gives : goal.returns-in-Ok-2-clause-gives
returns-in-Ok-2-clause-gives g c =
    subst (λ (i : Inputs). Gives (Entries c.args.costs.now c.args.file.now (inputs_for c.args.purpose) (g.F.Files.held c.args.files.now)) (g.F.Files.held c.args.files.now) i) (sym c.inputs_for.ensures)
    (entries_give c.args.costs.now c.args.file.now (inputs_for c.args.purpose) (g.F.Files.held c.args.files.now) c.in-Ok.table c.in-Ok-2.entries (rw c.in-Ok.is at c.in_ok-table.ensures.costs) (transactions_kept (g.F.Files.held c.read_costs.new.files) (g.F.Files.held c.args.files.now) c.args.file.now (Ok c.in-Ok-2.entries) c.read_costs.ensures.kept (rw c.in-Ok-2.is at c.in_ok-entries.ensures.file)))

pub returns-in-Ok-2-clause-asked : goal.returns-in-Ok-2-clause-asked
returns-in-Ok-2-clause-asked g c = entries_ask c.args.costs.now c.args.file.now (inputs_for c.args.purpose) (g.F.Files.held c.args.files.now) c.in-Ok.table (g.F.Files.asked c.args.files.now) (g.F.Files.asked c.read_costs.new.files) (g.F.Files.asked c.read_transactions.new.files) (rw c.in-Ok.is at c.in_ok-table.ensures.costs) c.in_ok-table.ensures.asked c.read_transactions.ensures.part

pub returns-in-Ok-2-clause-names : goal.returns-in-Ok-2-clause-names
returns-in-Ok-2-clause-names g c = part_next (g.F.Files.asked c.args.files.now) (g.F.Files.asked c.read_costs.new.files) (g.F.Files.asked c.read_transactions.new.files) (c.args.costs.now ∷ []) (c.args.file.now ∷ []) c.in_ok-table.ensures.asked c.read_transactions.ensures.part

pub returns-in-Err-2-clause-gives : goal.returns-in-Err-2-clause-gives
returns-in-Err-2-clause-gives g c =
    entries_bad_file c.args.costs.now c.args.file.now (inputs_for c.args.purpose) (g.F.Files.held c.args.files.now) c.in-Ok.table c.in-Err-2.fault (rw c.in-Ok.is at c.in_ok-table.ensures.costs) (transactions_kept (g.F.Files.held c.read_costs.new.files) (g.F.Files.held c.args.files.now) c.args.file.now (Err c.in-Err-2.fault) c.read_costs.ensures.kept (rw c.in-Err-2.is at c.in_ok-entries.ensures.file))

pub returns-in-Err-2-clause-asked : goal.returns-in-Err-2-clause-asked
returns-in-Err-2-clause-asked g c = entries_ask c.args.costs.now c.args.file.now (inputs_for c.args.purpose) (g.F.Files.held c.args.files.now) c.in-Ok.table (g.F.Files.asked c.args.files.now) (g.F.Files.asked c.read_costs.new.files) (g.F.Files.asked c.read_transactions.new.files) (rw c.in-Ok.is at c.in_ok-table.ensures.costs) c.in_ok-table.ensures.asked c.read_transactions.ensures.part

pub returns-in-Err-2-clause-names : goal.returns-in-Err-2-clause-names
returns-in-Err-2-clause-names g c = part_next (g.F.Files.asked c.args.files.now) (g.F.Files.asked c.read_costs.new.files) (g.F.Files.asked c.read_transactions.new.files) (c.args.costs.now ∷ []) (c.args.file.now ∷ []) c.in_ok-table.ensures.asked c.read_transactions.ensures.part
