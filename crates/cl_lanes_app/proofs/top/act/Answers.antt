-- The request of the words is what they ask for, and its inputs are those of `run`.
use Rattle.std.proofs.Common.{◌≡◌, ◌≢◌, inl, Option, None, IfOk, option_map, refl, sym, ap, subst, ◌∙◌}
use Rattle.cl_ports.specs.Growth.{GrowsPart}
use Rattle.cl_words.specs.Words.{Command, IsOfTable, names_of, texts}
use Rattle.cl_entries.specs.Scripts.{number_of}
use Rattle.cl_entries.specs.declared.status.Stop.TheVariants.{ReadFailed}
use Rattle.cl_replies.specs.declared.inputs.Inputs.{Inputs as InputsOfCode}
use Rattle.cl_replies.specs.Inputs.{inputs_seen}
use Rattle.cl_app.specs.Reading.{AreInputs, AsksPart, Suits}
use Rattle.cl_app.proofs.Acts.{ended_no_read, ended_reads, ended_writes, unread_reads, unread_writes}
use Rattle.cl_lanes_app.specs.Top.{WritesPart, WritesReply}
use Rattle.cl_lanes_app.specs.Words.{Request, request_of, request_seen, run_of}
use Rattle.cl_lanes_app.proofs.Replied.{answered_done, answered_part, can_have, is_of_table}
use Rattle.cl_lanes_app.proofs.top.act.Goals as goal

pub read_inputs-requires : goal.read_inputs-requires
read_inputs-requires g c = subst IsOfTable (sym c.run_of.ensures) (is_of_table (option_map request_seen c.request_of-request.result))

pub answer-requires-clause-lanes : goal.answer-requires-clause-lanes
answer-requires-clause-lanes g c = c.request_of-request.ensures.lanes

pub answer-requires-clause-inputs : goal.answer-requires-clause-inputs
answer-requires-clause-inputs g c =
    can_have (option_map request_seen c.request_of-request.result) (inputs_seen c.in-Ok.inputs)
    (subst (λ (x : Option Command). Suits x (inputs_seen c.in-Ok.inputs)) c.run_of.ensures c.in-Ok.ensures.inputs.suits)

pub returns-in-Ok-clause-reads : goal.returns-in-Ok-clause-reads
returns-in-Ok-clause-reads g c = ended_reads c.answer.result (g.F.Files.faults c.args.files.now) (g.F.Files.faults c.read_inputs.new.files) (g.K.Sink.faults c.args.out.now) (g.K.Sink.faults c.answer.new.out) c.in-Ok.ensures.cause c.answer.ensures.faults

pub returns-in-Ok-clause-writes : goal.returns-in-Ok-clause-writes
returns-in-Ok-clause-writes g c = ended_writes c.answer.result (g.K.Sink.faults c.args.out.now) (g.K.Sink.faults c.answer.new.out) c.answer.ensures.faults

pub returns-in-Ok-clause-request : goal.returns-in-Ok-clause-request
returns-in-Ok-clause-request g c = ended_no_read (run_of (request_of (texts c.args.words.now)) ≢ None) c.answer.result (g.K.Sink.faults c.args.out.now) (g.K.Sink.faults c.answer.new.out) c.answer.ensures.faults

pub returns-in-Ok-clause-unwritten : goal.returns-in-Ok-clause-unwritten
returns-in-Ok-clause-unwritten g c = ended_no_read (g.K.Sink.written c.answer.new.out ≡ g.K.Sink.written c.args.out.now) c.answer.result (g.K.Sink.faults c.args.out.now) (g.K.Sink.faults c.answer.new.out) c.answer.ensures.faults

pub returns-in-Ok-clause-done : goal.returns-in-Ok-clause-done
returns-in-Ok-clause-done g c =
    let before = g.K.Sink.written c.args.out.now in
    let now = g.K.Sink.written c.answer.new.out in
    let held = g.F.Files.held c.args.files.now in
    let inputs = inputs_seen c.in-Ok.inputs in
    subst (λ (q : Option Request). IfOk c.answer.result (λ s. WritesReply q held before now (number_of s))) c.request_of-request.ensures.request
    (answered_done (option_map request_seen c.request_of-request.result) held inputs before now (subst (λ (x : Option Command). AreInputs x held inputs) c.run_of.ensures c.in-Ok.ensures.inputs)
    c.answer.result c.answer.ensures.done)

pub returns-in-Ok-clause-part : goal.returns-in-Ok-clause-part
returns-in-Ok-clause-part g c =
    let before = g.K.Sink.written c.args.out.now in
    let now = g.K.Sink.written c.answer.new.out in
    let held = g.F.Files.held c.args.files.now in
    let inputs = inputs_seen c.in-Ok.inputs in
    subst (λ (q : Option Request). WritesPart q held before now) c.request_of-request.ensures.request
    (answered_part (option_map request_seen c.request_of-request.result) held inputs before now (subst (λ (x : Option Command). AreInputs x held inputs) c.run_of.ensures c.in-Ok.ensures.inputs)
    c.answer.result c.answer.ensures.done c.answer.ensures.part)

pub returns-in-Ok-clause-asked : goal.returns-in-Ok-clause-asked
returns-in-Ok-clause-asked g c =
    subst (λ (x : Option Command). AsksPart x (g.F.Files.held c.args.files.now) (g.F.Files.asked c.args.files.now) (g.F.Files.asked c.read_inputs.new.files)) (c.run_of.ensures ∙ ap run_of c.request_of-request.ensures.request)
    c.read_inputs.ensures.asked

pub returns-in-Ok-clause-names : goal.returns-in-Ok-clause-names
returns-in-Ok-clause-names g c =
    subst (λ (x : Option Command). GrowsPart (g.F.Files.asked c.args.files.now) (g.F.Files.asked c.read_inputs.new.files) (names_of x)) (c.run_of.ensures ∙ ap run_of c.request_of-request.ensures.request)
    c.read_inputs.ensures.names

pub returns-in-Err-clause-reads : goal.returns-in-Err-clause-reads
returns-in-Err-clause-reads g c = unread_reads InputsOfCode c.in-Err.stop (g.F.Files.faults c.args.files.now) (g.F.Files.faults c.read_inputs.new.files) c.in-Err.ensures.cause

pub returns-in-Err-clause-writes : goal.returns-in-Err-clause-writes
returns-in-Err-clause-writes g c = unread_writes InputsOfCode c.in-Err.stop (g.F.Files.faults c.args.files.now) (g.F.Files.faults c.read_inputs.new.files) (g.K.Sink.faults c.args.out.now) c.in-Err.ensures.cause

pub returns-in-Err-clause-request : goal.returns-in-Err-clause-request
returns-in-Err-clause-request g c = subst (λ (x : Option Command). c.in-Err.stop ≡ ReadFailed → x ≢ None) (c.run_of.ensures ∙ ap run_of c.request_of-request.ensures.request) c.in-Err.ensures.reads

pub returns-in-Err-clause-part : goal.returns-in-Err-clause-part
returns-in-Err-clause-part g c = inl refl

pub returns-in-Err-clause-asked : goal.returns-in-Err-clause-asked
returns-in-Err-clause-asked g c =
    subst (λ (x : Option Command). AsksPart x (g.F.Files.held c.args.files.now) (g.F.Files.asked c.args.files.now) (g.F.Files.asked c.read_inputs.new.files)) (c.run_of.ensures ∙ ap run_of c.request_of-request.ensures.request)
    c.read_inputs.ensures.asked

pub returns-in-Err-clause-names : goal.returns-in-Err-clause-names
returns-in-Err-clause-names g c =
    subst (λ (x : Option Command). GrowsPart (g.F.Files.asked c.args.files.now) (g.F.Files.asked c.read_inputs.new.files) (names_of x)) (c.run_of.ensures ∙ ap run_of c.request_of-request.ensures.request)
    c.read_inputs.ensures.names
