-- The command of the words is what they are taken as.
use Rattle.std.proofs.Common.{◌≡◌, ◌≢◌, Option, None, IfErr, IfOk, option_map, refl, subst}
use Rattle.cl_ports.specs.Growth.{GrowsPart}
use Rattle.cl_words.specs.Seen.{command_seen, line_of}
use Rattle.cl_words.specs.Words.{Command, names_of, taken, texts}
use Rattle.cl_entries.specs.declared.status.Stop.TheVariants.{ReadFailed}
use Rattle.cl_entries.specs.Scripts.{number_of}
use Rattle.cl_app.specs.Reading.{AsksPart}
use Rattle.cl_app.specs.Top.{DoesCommand, DoesFirst}
use Rattle.cl_app.proofs.Acts.{first_of_nothing, seen_is_taken}
use Rattle.cl_app.proofs.top.act.Goals as goal

pub returns-in-Ok-clause-command : goal.returns-in-Ok-clause-command
returns-in-Ok-clause-command g c =
    subst (λ (x : Option Command). IfErr c.do_command.result (λ stop. stop ≡ ReadFailed → x ≢ None))
    (seen_is_taken (texts c.args.words.now) (option_map line_of c.in-Ok.line) (option_map command_seen c.command_on.result) c.command_on.ensures.command c.in-Ok.ensures) c.do_command.ensures.command

pub returns-in-Ok-clause-done : goal.returns-in-Ok-clause-done
returns-in-Ok-clause-done g c =
    subst
    (λ (x : Option Command). IfOk c.do_command.result (λ s. DoesCommand x (g.F.Files.held c.args.files.now) (g.K.Sink.written c.args.out.now) (g.K.Sink.written c.do_command.new.out) c.args.listeners.now c.do_command.new.listeners (number_of s)))
    (seen_is_taken (texts c.args.words.now) (option_map line_of c.in-Ok.line) (option_map command_seen c.command_on.result) c.command_on.ensures.command c.in-Ok.ensures) c.do_command.ensures.done

pub returns-in-Ok-clause-part : goal.returns-in-Ok-clause-part
returns-in-Ok-clause-part g c =
    subst (λ (x : Option Command). DoesFirst x (g.F.Files.held c.args.files.now) (g.K.Sink.written c.args.out.now) (g.K.Sink.written c.do_command.new.out) c.args.listeners.now c.do_command.new.listeners)
    (seen_is_taken (texts c.args.words.now) (option_map line_of c.in-Ok.line) (option_map command_seen c.command_on.result) c.command_on.ensures.command c.in-Ok.ensures) c.do_command.ensures.part

pub returns-in-Ok-clause-asked : goal.returns-in-Ok-clause-asked
returns-in-Ok-clause-asked g c =
    subst (λ (x : Option Command). AsksPart x (g.F.Files.held c.args.files.now) (g.F.Files.asked c.args.files.now) (g.F.Files.asked c.do_command.new.files))
    (seen_is_taken (texts c.args.words.now) (option_map line_of c.in-Ok.line) (option_map command_seen c.command_on.result) c.command_on.ensures.command c.in-Ok.ensures) c.do_command.ensures.asked

pub returns-in-Ok-clause-names : goal.returns-in-Ok-clause-names
returns-in-Ok-clause-names g c =
    subst (λ (x : Option Command). GrowsPart (g.F.Files.asked c.args.files.now) (g.F.Files.asked c.do_command.new.files) (names_of x))
    (seen_is_taken (texts c.args.words.now) (option_map line_of c.in-Ok.line) (option_map command_seen c.command_on.result) c.command_on.ensures.command c.in-Ok.ensures) c.do_command.ensures.names

pub returns-in-Err-clause-part : goal.returns-in-Err-clause-part
returns-in-Err-clause-part g c = first_of_nothing c.events_told_in_turn.ensures.nothing (taken (texts c.args.words.now)) (g.F.Files.held c.args.files.now) (g.K.Sink.written c.args.out.now) (g.K.Sink.written c.args.out.now) c.args.listeners.now c.args.listeners.now refl refl
