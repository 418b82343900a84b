use Rattle.std.proofs.Common.{[], ◌∷◌}
use Rattle.cl_ports.proofs.Grown.{part_more, part_next}
use Rattle.cl_app.proofs.Commands.{audit_asks_first, audit_asks_more, audit_bad_costs, audit_gives}
use Rattle.cl_app.proofs.inputs.read_audit.Goals as goal

pub returns-in_err-costs-clause-asked : goal.returns-in_err-costs-clause-asked
returns-in_err-costs-clause-asked g c = audit_asks_first c.args.words.now.costs.now c.args.words.now.file.now c.args.words.now.trace.now c.args.words.now.report.now (g.F.Files.held c.args.files.now) (g.F.Files.asked c.args.files.now) (g.F.Files.asked c.read_costs.new.files) c.read_costs.ensures.part

pub returns-in_err-costs-clause-names : goal.returns-in_err-costs-clause-names
returns-in_err-costs-clause-names g c = part_more (g.F.Files.asked c.args.files.now) (g.F.Files.asked c.read_costs.new.files) (c.args.words.now.costs.now ∷ []) (c.args.words.now.file.now ∷ c.args.words.now.trace.now ∷ c.args.words.now.report.now ∷ []) c.read_costs.ensures.part

pub returns-in-Ok-clause-inputs : goal.returns-in-Ok-clause-inputs
returns-in-Ok-clause-inputs g c =
    audit_gives c.args.words.now.costs.now c.args.words.now.file.now c.args.words.now.trace.now c.args.words.now.report.now (g.F.Files.held c.args.files.now) c.in-Ok.costs (g.F.Files.held c.read_costs.new.files) c.read_entries_audited.result (rw c.in-Ok.is at c.in_ok-costs.ensures.costs) c.read_costs.ensures.kept
    c.read_entries_audited.ensures.gives c.read_entries_audited.ensures.suits

pub returns-in-Ok-clause-asked : goal.returns-in-Ok-clause-asked
returns-in-Ok-clause-asked g c =
    audit_asks_more c.args.words.now.costs.now c.args.words.now.file.now c.args.words.now.trace.now c.args.words.now.report.now (g.F.Files.held c.args.files.now) c.in-Ok.costs (g.F.Files.held c.read_costs.new.files) (g.F.Files.asked c.args.files.now) (g.F.Files.asked c.read_costs.new.files) (g.F.Files.asked c.read_entries_audited.new.files) (rw c.in-Ok.is at c.in_ok-costs.ensures.costs) c.read_costs.ensures.kept
    c.in_ok-costs.ensures.asked c.read_entries_audited.ensures.asked

pub returns-in-Ok-clause-names : goal.returns-in-Ok-clause-names
returns-in-Ok-clause-names g c = part_next (g.F.Files.asked c.args.files.now) (g.F.Files.asked c.read_costs.new.files) (g.F.Files.asked c.read_entries_audited.new.files) (c.args.words.now.costs.now ∷ []) (c.args.words.now.file.now ∷ c.args.words.now.trace.now ∷ c.args.words.now.report.now ∷ []) c.in_ok-costs.ensures.asked c.read_entries_audited.ensures.names

pub returns-in-Err-clause-inputs : goal.returns-in-Err-clause-inputs
returns-in-Err-clause-inputs g c = audit_bad_costs c.args.words.now.costs.now c.args.words.now.file.now c.args.words.now.trace.now c.args.words.now.report.now (g.F.Files.held c.args.files.now) c.in-Err.fault (rw c.in-Err.is at c.in_ok-costs.ensures.costs)
