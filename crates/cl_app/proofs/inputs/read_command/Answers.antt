use Rattle.std.proofs.Common.{Some, ap}
use Rattle.cl_words.specs.Seen.{command_seen}
use Rattle.cl_words.specs.declared.words.Command.{Command}
use Rattle.cl_words.specs.Words.{Prove, Root, Run, Trace}
use Rattle.cl_app.proofs.Commands.{asks_by, inputs_by}
use Rattle.cl_app.proofs.inputs.read_command.Goals as goal

pub returns-in-Run-clause-inputs : goal.returns-in-Run-clause-inputs
returns-in-Run-clause-inputs g c = inputs_by (Some (command_seen c.args.command.now)) (Some (Run c.in-Run.costs.now c.in-Run.file.now c.in-Run.state)) (g.F.Files.held c.args.files.now) c.read_entries.result (ap (λ (w : Command). Some (command_seen w)) c.in-Run.is) c.read_entries.ensures.gives c.read_entries.ensures.suits

pub returns-in-Run-clause-asked : goal.returns-in-Run-clause-asked
returns-in-Run-clause-asked g c = asks_by (Some (command_seen c.args.command.now)) (Some (Run c.in-Run.costs.now c.in-Run.file.now c.in-Run.state)) (g.F.Files.held c.args.files.now) (g.F.Files.asked c.args.files.now) (g.F.Files.asked c.read_entries.new.files) (ap (λ (w : Command). Some (command_seen w)) c.in-Run.is) c.read_entries.ensures.asked

pub returns-in-Root-clause-inputs : goal.returns-in-Root-clause-inputs
returns-in-Root-clause-inputs g c = inputs_by (Some (command_seen c.args.command.now)) (Some (Root c.in-Root.costs.now c.in-Root.file.now)) (g.F.Files.held c.args.files.now) c.read_entries-in-Root.result (ap (λ (w : Command). Some (command_seen w)) c.in-Root.is) c.read_entries-in-Root.ensures.gives c.read_entries-in-Root.ensures.suits

pub returns-in-Root-clause-asked : goal.returns-in-Root-clause-asked
returns-in-Root-clause-asked g c = asks_by (Some (command_seen c.args.command.now)) (Some (Root c.in-Root.costs.now c.in-Root.file.now)) (g.F.Files.held c.args.files.now) (g.F.Files.asked c.args.files.now) (g.F.Files.asked c.read_entries-in-Root.new.files) (ap (λ (w : Command). Some (command_seen w)) c.in-Root.is) c.read_entries-in-Root.ensures.asked

pub returns-in-Prove-clause-inputs : goal.returns-in-Prove-clause-inputs
returns-in-Prove-clause-inputs g c = inputs_by (Some (command_seen c.args.command.now)) (Some (Prove c.in-Prove.costs.now c.in-Prove.file.now c.in-Prove.number)) (g.F.Files.held c.args.files.now) c.read_entries-in-Prove.result (ap (λ (w : Command). Some (command_seen w)) c.in-Prove.is) c.read_entries-in-Prove.ensures.gives c.read_entries-in-Prove.ensures.suits

pub returns-in-Prove-clause-asked : goal.returns-in-Prove-clause-asked
returns-in-Prove-clause-asked g c = asks_by (Some (command_seen c.args.command.now)) (Some (Prove c.in-Prove.costs.now c.in-Prove.file.now c.in-Prove.number)) (g.F.Files.held c.args.files.now) (g.F.Files.asked c.args.files.now) (g.F.Files.asked c.read_entries-in-Prove.new.files) (ap (λ (w : Command). Some (command_seen w)) c.in-Prove.is) c.read_entries-in-Prove.ensures.asked

pub returns-in-Trace-clause-inputs : goal.returns-in-Trace-clause-inputs
returns-in-Trace-clause-inputs g c = inputs_by (Some (command_seen c.args.command.now)) (Some (Trace c.in-Trace.costs.now c.in-Trace.file.now)) (g.F.Files.held c.args.files.now) c.read_entries-in-Trace.result (ap (λ (w : Command). Some (command_seen w)) c.in-Trace.is) c.read_entries-in-Trace.ensures.gives c.read_entries-in-Trace.ensures.suits

pub returns-in-Trace-clause-asked : goal.returns-in-Trace-clause-asked
returns-in-Trace-clause-asked g c = asks_by (Some (command_seen c.args.command.now)) (Some (Trace c.in-Trace.costs.now c.in-Trace.file.now)) (g.F.Files.held c.args.files.now) (g.F.Files.asked c.args.files.now) (g.F.Files.asked c.read_entries-in-Trace.new.files) (ap (λ (w : Command). Some (command_seen w)) c.in-Trace.is) c.read_entries-in-Trace.ensures.asked
