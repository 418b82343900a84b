use Rattle.std.proofs.Common.{◌≡◌, ◌≢◌, None, option_map, refl}
use Rattle.cl_words.specs.Seen.{command_seen}
use Rattle.cl_replies.specs.declared.inputs.Inputs.{Inputs as InputsOfCode}
use Rattle.cl_replies.specs.Inputs.{inputs_seen}
use Rattle.cl_app.proofs.Acts.{ended_done, ended_first, ended_no_read, ended_reads, ended_writes, first_of_nothing, unread_reads, unread_writes}
use Rattle.cl_app.proofs.top.do_command.Goals as goal

pub returns-in-Ok-clause-reads : goal.returns-in-Ok-clause-reads
returns-in-Ok-clause-reads g c = ended_reads c.do_inputs.result (g.F.Files.faults c.args.files.now) (g.F.Files.faults c.read_inputs.new.files) (g.K.Sink.faults c.args.out.now) (g.K.Sink.faults c.do_inputs.new.out) c.in-Ok.ensures.cause c.do_inputs.ensures.faults

pub returns-in-Ok-clause-writes : goal.returns-in-Ok-clause-writes
returns-in-Ok-clause-writes g c = ended_writes c.do_inputs.result (g.K.Sink.faults c.args.out.now) (g.K.Sink.faults c.do_inputs.new.out) c.do_inputs.ensures.faults

pub returns-in-Ok-clause-command : goal.returns-in-Ok-clause-command
returns-in-Ok-clause-command g c = ended_no_read (option_map command_seen c.args.command.now ≢ None) c.do_inputs.result (g.K.Sink.faults c.args.out.now) (g.K.Sink.faults c.do_inputs.new.out) c.do_inputs.ensures.faults

pub returns-in-Ok-clause-unwritten : goal.returns-in-Ok-clause-unwritten
returns-in-Ok-clause-unwritten g c = ended_no_read (g.K.Sink.written c.do_inputs.new.out ≡ g.K.Sink.written c.args.out.now) c.do_inputs.result (g.K.Sink.faults c.args.out.now) (g.K.Sink.faults c.do_inputs.new.out) c.do_inputs.ensures.faults

pub returns-in-Ok-clause-done : goal.returns-in-Ok-clause-done
returns-in-Ok-clause-done g c = ended_done (option_map command_seen c.args.command.now) (g.F.Files.held c.args.files.now) (inputs_seen c.in-Ok.inputs) c.do_inputs.result (g.K.Sink.written c.args.out.now) (g.K.Sink.written c.do_inputs.new.out) c.args.listeners.now c.do_inputs.new.listeners c.in-Ok.ensures.inputs c.do_inputs.ensures.done

pub returns-in-Ok-clause-part : goal.returns-in-Ok-clause-part
returns-in-Ok-clause-part g c = ended_first c.scripts_are_one.ensures.read c.scripts_are_one.ensures.inputs (option_map command_seen c.args.command.now) (g.F.Files.held c.args.files.now) (inputs_seen c.in-Ok.inputs) c.do_inputs.result (g.K.Sink.written c.args.out.now) (g.K.Sink.written c.do_inputs.new.out) c.args.listeners.now c.do_inputs.new.listeners c.in-Ok.ensures.inputs c.do_inputs.ensures.done c.do_inputs.ensures.part

pub returns-in-Err-clause-reads : goal.returns-in-Err-clause-reads
returns-in-Err-clause-reads g c = unread_reads InputsOfCode c.in-Err.stop (g.F.Files.faults c.args.files.now) (g.F.Files.faults c.read_inputs.new.files) c.in-Err.ensures.cause

pub returns-in-Err-clause-writes : goal.returns-in-Err-clause-writes
returns-in-Err-clause-writes g c = unread_writes InputsOfCode c.in-Err.stop (g.F.Files.faults c.args.files.now) (g.F.Files.faults c.read_inputs.new.files) (g.K.Sink.faults c.args.out.now) c.in-Err.ensures.cause

pub returns-in-Err-clause-part : goal.returns-in-Err-clause-part
returns-in-Err-clause-part g c = first_of_nothing c.events_told_in_turn.ensures.nothing (option_map command_seen c.args.command.now) (g.F.Files.held c.args.files.now) (g.K.Sink.written c.args.out.now) (g.K.Sink.written c.args.out.now) c.args.listeners.now c.args.listeners.now refl refl
