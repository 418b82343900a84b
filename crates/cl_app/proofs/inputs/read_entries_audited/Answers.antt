use Rattle.std.proofs.Common.{[], ◌∷◌, length, ap}
use Rattle.cl_ports.proofs.Grown.{part_more, part_next}
use Rattle.cl_audit_results.specs.Audits.{claims_of}
use Rattle.cl_replies.specs.Inputs.{AuditInputs, BadFile}
use Rattle.cl_app.proofs.Commands.{audited_file_asks_first, audited_file_asks_more, audited_file_bad, audited_file_gives}
use Rattle.cl_app.proofs.inputs.read_entries_audited.Goals as goal

pub returns-in_err-file-clause-asked : goal.returns-in_err-file-clause-asked
returns-in_err-file-clause-asked g c = audited_file_asks_first c.args.costs c.args.words.now.file.now c.args.words.now.trace.now c.args.words.now.report.now (g.F.Files.held c.args.files.now) (g.F.Files.asked c.args.files.now) (g.F.Files.asked c.read_transactions.new.files) c.read_transactions.ensures.part

pub returns-in_err-file-clause-names : goal.returns-in_err-file-clause-names
returns-in_err-file-clause-names g c = part_more (g.F.Files.asked c.args.files.now) (g.F.Files.asked c.read_transactions.new.files) (c.args.words.now.file.now ∷ []) (c.args.words.now.trace.now ∷ c.args.words.now.report.now ∷ []) c.read_transactions.ensures.part

pub returns-in-Err-clause-gives : goal.returns-in-Err-clause-gives
returns-in-Err-clause-gives g c = audited_file_bad c.args.costs c.args.words.now.file.now c.args.words.now.trace.now c.args.words.now.report.now (g.F.Files.held c.args.files.now) c.in-Err.fault (rw c.in-Err.is at c.in_ok-file.ensures.file)

pub returns-in_err-traces-clause-asked : goal.returns-in_err-traces-clause-asked
returns-in_err-traces-clause-asked g c =
    audited_file_asks_more c.args.costs c.args.words.now.file.now c.args.words.now.trace.now c.args.words.now.report.now (g.F.Files.held c.args.files.now) c.in-Ok.file (length c.entries.result.now) (g.F.Files.held c.read_transactions.new.files) (rw c.in-Ok.is at c.in_ok-file.ensures.file) (ap length c.entries.ensures.value) c.read_transactions.ensures.kept
    c.files_have_one_reading.ensures.one (g.F.Files.asked c.args.files.now) (g.F.Files.asked c.read_transactions.new.files) (g.F.Files.asked c.read_audited.new.files) c.in_ok-file.ensures.asked (c.read_audited.ensures.asked c.args.costs c.in-Ok.file)

pub returns-in_err-traces-clause-names : goal.returns-in_err-traces-clause-names
returns-in_err-traces-clause-names g c = part_next (g.F.Files.asked c.args.files.now) (g.F.Files.asked c.read_transactions.new.files) (g.F.Files.asked c.read_audited.new.files) (c.args.words.now.file.now ∷ []) (c.args.words.now.trace.now ∷ c.args.words.now.report.now ∷ []) c.in_ok-file.ensures.asked c.read_audited.ensures.names

pub returns-in-Ok-2-clause-gives : goal.returns-in-Ok-2-clause-gives
returns-in-Ok-2-clause-gives g c =
    audited_file_gives c.args.costs c.args.words.now.file.now c.args.words.now.trace.now c.args.words.now.report.now (g.F.Files.held c.args.files.now) c.in-Ok.file (length c.entries.result.now) (g.F.Files.held c.read_transactions.new.files) (rw c.in-Ok.is at c.in_ok-file.ensures.file) (ap length c.entries.ensures.value) c.read_transactions.ensures.kept
    (AuditInputs c.args.costs c.in-Ok.file (claims_of c.in-Ok-2.field-0.traces.items) c.in-Ok-2.field-0.report) ((rw c.in-Ok-2.is at c.in_ok-traces.ensures.gives) c.args.costs c.in-Ok.file)

pub returns-in-Ok-2-clause-asked : goal.returns-in-Ok-2-clause-asked
returns-in-Ok-2-clause-asked g c =
    audited_file_asks_more c.args.costs c.args.words.now.file.now c.args.words.now.trace.now c.args.words.now.report.now (g.F.Files.held c.args.files.now) c.in-Ok.file (length c.entries.result.now) (g.F.Files.held c.read_transactions.new.files) (rw c.in-Ok.is at c.in_ok-file.ensures.file) (ap length c.entries.ensures.value) c.read_transactions.ensures.kept
    c.files_have_one_reading.ensures.one (g.F.Files.asked c.args.files.now) (g.F.Files.asked c.read_transactions.new.files) (g.F.Files.asked c.read_audited.new.files) c.in_ok-file.ensures.asked (c.read_audited.ensures.asked c.args.costs c.in-Ok.file)

pub returns-in-Ok-2-clause-names : goal.returns-in-Ok-2-clause-names
returns-in-Ok-2-clause-names g c = part_next (g.F.Files.asked c.args.files.now) (g.F.Files.asked c.read_transactions.new.files) (g.F.Files.asked c.read_audited.new.files) (c.args.words.now.file.now ∷ []) (c.args.words.now.trace.now ∷ c.args.words.now.report.now ∷ []) c.in_ok-file.ensures.asked c.read_audited.ensures.names

pub returns-clause-gives : goal.returns-clause-gives
returns-clause-gives g c =
    audited_file_gives c.args.costs c.args.words.now.file.now c.args.words.now.trace.now c.args.words.now.report.now (g.F.Files.held c.args.files.now) c.in-Ok.file (length c.entries.result.now) (g.F.Files.held c.read_transactions.new.files) (rw c.in-Ok.is at c.in_ok-file.ensures.file) (ap length c.entries.ensures.value) c.read_transactions.ensures.kept
    (BadFile c.in-Err-2.field-0.name.now c.in-Err-2.field-0.fault) ((rw c.in-Err-2.is at c.in_ok-traces.ensures.gives) c.args.costs c.in-Ok.file)

pub returns-clause-asked : goal.returns-clause-asked
returns-clause-asked g c =
    audited_file_asks_more c.args.costs c.args.words.now.file.now c.args.words.now.trace.now c.args.words.now.report.now (g.F.Files.held c.args.files.now) c.in-Ok.file (length c.entries.result.now) (g.F.Files.held c.read_transactions.new.files) (rw c.in-Ok.is at c.in_ok-file.ensures.file) (ap length c.entries.ensures.value) c.read_transactions.ensures.kept
    c.files_have_one_reading.ensures.one (g.F.Files.asked c.args.files.now) (g.F.Files.asked c.read_transactions.new.files) (g.F.Files.asked c.read_audited.new.files) c.in_ok-file.ensures.asked (c.read_audited.ensures.asked c.args.costs c.in-Ok.file)

pub returns-clause-names : goal.returns-clause-names
returns-clause-names g c = part_next (g.F.Files.asked c.args.files.now) (g.F.Files.asked c.read_transactions.new.files) (g.F.Files.asked c.read_audited.new.files) (c.args.words.now.file.now ∷ []) (c.args.words.now.trace.now ∷ c.args.words.now.report.now ∷ []) c.in_ok-file.ensures.asked c.read_audited.ensures.names
