use Rattle.std.proofs.Common.{List, Ok, subst, sym}
use Rattle.cl_values.specs.Tree.{Tree}
use Rattle.cl_words.specs.Argument.{Spell}
use Rattle.cl_words.specs.Words.{texts}
use Rattle.cl_app.proofs.Read.{called_asks, called_inputs}
use Rattle.cl_app.proofs.inputs.read_call.Goals as goal

pub returns-in-Ok-clause-inputs : goal.returns-in-Ok-clause-inputs
returns-in-Ok-clause-inputs g c =
    called_inputs c.args.file.now c.args.function.now c.args.version c.new.result (g.F.Files.held c.args.files.now) (texts c.args.args.now) c.read_called.result
    (subst (λ (vs : List Tree). Spell (texts c.args.args.now) (Ok vs)) (sym c.new.ensures) c.in-Ok.ensures.found) c.read_called.ensures.gives c.read_called.ensures.suits

pub returns-in-Ok-clause-asked : goal.returns-in-Ok-clause-asked
returns-in-Ok-clause-asked g c =
    called_asks c.args.file.now c.args.function.now c.args.version c.in-Ok.values.items (g.F.Files.held c.args.files.now) c.one_outcome.ensures (texts c.args.args.now) (g.F.Files.asked c.args.files.now) (g.F.Files.asked c.read_called.new.files)
    c.in-Ok.ensures.found c.read_called.ensures.part
