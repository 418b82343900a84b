use Rattle.std.proofs.Common.{Ok, Err, [], ◌∷◌}
use Rattle.cl_ports.proofs.Grown.{part_more, part_next}
use Rattle.cl_audit_results.specs.Audits.{claims_of}
use Rattle.cl_replies.specs.Inputs.{AuditInputs}
use Rattle.cl_app.proofs.Read.{audited_ask, audited_ask_first, audited_bad_report, audited_bad_trace, audited_give, text_kept}
use Rattle.cl_app.proofs.inputs.read_audited.Goals as goal

pub returns-in_err-traces-clause-asked : goal.returns-in_err-traces-clause-asked
returns-in_err-traces-clause-asked g c = λ table file. audited_ask_first c.args.words.now.trace.now c.args.words.now.report.now c.args.entries (AuditInputs table file) (g.F.Files.held c.args.files.now) (g.F.Files.asked c.args.files.now) (g.F.Files.asked c.read_trace_file.new.files) c.read_trace_file.ensures.part

pub returns-in_err-traces-clause-names : goal.returns-in_err-traces-clause-names
returns-in_err-traces-clause-names g c = part_more (g.F.Files.asked c.args.files.now) (g.F.Files.asked c.read_trace_file.new.files) (c.args.words.now.trace.now ∷ []) (c.args.words.now.report.now ∷ []) c.read_trace_file.ensures.part

pub returns-in-Err-clause-gives : goal.returns-in-Err-clause-gives
returns-in-Err-clause-gives g c = λ table file. audited_bad_trace c.args.words.now.trace.now c.args.words.now.report.now c.args.entries (AuditInputs table file) (g.F.Files.held c.args.files.now) c.in-Err.fault (rw c.in-Err.is at c.in_ok-traces.ensures.claims)

pub returns-in_err-report-clause-asked : goal.returns-in_err-report-clause-asked
returns-in_err-report-clause-asked g c = λ table file. audited_ask c.args.words.now.trace.now c.args.words.now.report.now c.args.entries (AuditInputs table file) (g.F.Files.held c.args.files.now) (claims_of c.in-Ok.traces.items) (g.F.Files.asked c.args.files.now) (g.F.Files.asked c.read_trace_file.new.files) (g.F.Files.asked c.read_text.new.files) (rw c.in-Ok.is at c.in_ok-traces.ensures.claims) c.in_ok-traces.ensures.asked c.read_text.ensures.part

pub returns-in_err-report-clause-names : goal.returns-in_err-report-clause-names
returns-in_err-report-clause-names g c = part_next (g.F.Files.asked c.args.files.now) (g.F.Files.asked c.read_trace_file.new.files) (g.F.Files.asked c.read_text.new.files) (c.args.words.now.trace.now ∷ []) (c.args.words.now.report.now ∷ []) c.in_ok-traces.ensures.asked c.read_text.ensures.part

pub returns-in-Ok-2-clause-gives : goal.returns-in-Ok-2-clause-gives
returns-in-Ok-2-clause-gives g c = λ table file.
    audited_give c.args.words.now.trace.now c.args.words.now.report.now c.args.entries (AuditInputs table file) (g.F.Files.held c.args.files.now) (claims_of c.in-Ok.traces.items) c.in-Ok-2.report (rw c.in-Ok.is at c.in_ok-traces.ensures.claims)
    (text_kept (g.F.Files.held c.read_trace_file.new.files) (g.F.Files.held c.args.files.now) c.args.words.now.report.now (Ok c.in-Ok-2.report) c.read_trace_file.ensures.kept (rw c.in-Ok-2.is at c.in_ok-report.ensures.text))

pub returns-in-Ok-2-clause-asked : goal.returns-in-Ok-2-clause-asked
returns-in-Ok-2-clause-asked g c = λ table file. audited_ask c.args.words.now.trace.now c.args.words.now.report.now c.args.entries (AuditInputs table file) (g.F.Files.held c.args.files.now) (claims_of c.in-Ok.traces.items) (g.F.Files.asked c.args.files.now) (g.F.Files.asked c.read_trace_file.new.files) (g.F.Files.asked c.read_text.new.files) (rw c.in-Ok.is at c.in_ok-traces.ensures.claims) c.in_ok-traces.ensures.asked c.read_text.ensures.part

pub returns-in-Ok-2-clause-names : goal.returns-in-Ok-2-clause-names
returns-in-Ok-2-clause-names g c = part_next (g.F.Files.asked c.args.files.now) (g.F.Files.asked c.read_trace_file.new.files) (g.F.Files.asked c.read_text.new.files) (c.args.words.now.trace.now ∷ []) (c.args.words.now.report.now ∷ []) c.in_ok-traces.ensures.asked c.read_text.ensures.part

pub returns-in-Err-2-clause-gives : goal.returns-in-Err-2-clause-gives
returns-in-Err-2-clause-gives g c = λ table file.
    audited_bad_report c.args.words.now.trace.now c.args.words.now.report.now c.args.entries (AuditInputs table file) (g.F.Files.held c.args.files.now) (claims_of c.in-Ok.traces.items) c.in-Err-2.fault (rw c.in-Ok.is at c.in_ok-traces.ensures.claims)
    (text_kept (g.F.Files.held c.read_trace_file.new.files) (g.F.Files.held c.args.files.now) c.args.words.now.report.now (Err c.in-Err-2.fault) c.read_trace_file.ensures.kept (rw c.in-Err-2.is at c.in_ok-report.ensures.text))

pub returns-in-Err-2-clause-asked : goal.returns-in-Err-2-clause-asked
returns-in-Err-2-clause-asked g c = λ table file. audited_ask c.args.words.now.trace.now c.args.words.now.report.now c.args.entries (AuditInputs table file) (g.F.Files.held c.args.files.now) (claims_of c.in-Ok.traces.items) (g.F.Files.asked c.args.files.now) (g.F.Files.asked c.read_trace_file.new.files) (g.F.Files.asked c.read_text.new.files) (rw c.in-Ok.is at c.in_ok-traces.ensures.claims) c.in_ok-traces.ensures.asked c.read_text.ensures.part

pub returns-in-Err-2-clause-names : goal.returns-in-Err-2-clause-names
returns-in-Err-2-clause-names g c = part_next (g.F.Files.asked c.args.files.now) (g.F.Files.asked c.read_trace_file.new.files) (g.F.Files.asked c.read_text.new.files) (c.args.words.now.trace.now ∷ []) (c.args.words.now.report.now ∷ []) c.in_ok-traces.ensures.asked c.read_text.ensures.part
