use Rattle.std.proofs.Common.{[], ◌∷◌, inl, inr, refl}
use Rattle.cl_ports.proofs.Grown.{part_more, part_next}
use Rattle.cl_words.specs.Words.{texts}
use Rattle.cl_replies.specs.Inputs.{BadFile, CheckInputs}
use Rattle.cl_app.proofs.Sources.{CheckReads}
use Rattle.cl_app.proofs.Commands.{asks_kept, check_asks_first, check_asks_more, check_bad_costs, check_gives, gives_kept}
use Rattle.cl_app.proofs.inputs.read_check.Goals as goal

pub returns-in_err-costs-clause-asked : goal.returns-in_err-costs-clause-asked
returns-in_err-costs-clause-asked g c = check_asks_first c.args.words.now.costs.now c.args.words.now.address (texts c.args.words.now.paths.now) c.args.words.now.version (g.F.Files.held c.args.files.now) (g.F.Files.asked c.args.files.now) (g.F.Files.asked c.read_costs.new.files) c.read_costs.ensures.part

pub returns-in_err-costs-clause-names : goal.returns-in_err-costs-clause-names
returns-in_err-costs-clause-names g c = part_more (g.F.Files.asked c.args.files.now) (g.F.Files.asked c.read_costs.new.files) (c.args.words.now.costs.now ∷ []) (texts c.args.words.now.paths.now) c.read_costs.ensures.part

pub returns-in-Err-clause-inputs : goal.returns-in-Err-clause-inputs
returns-in-Err-clause-inputs g c = check_bad_costs c.args.words.now.costs.now c.args.words.now.address (texts c.args.words.now.paths.now) c.args.words.now.version (g.F.Files.held c.args.files.now) c.in-Err.fault (rw c.in-Err.is at c.in_ok-costs.ensures.costs)

pub returns-in_err-sources-clause-asked : goal.returns-in_err-sources-clause-asked
returns-in_err-sources-clause-asked g c = check_asks_more c.args.words.now.costs.now c.args.words.now.address (texts c.args.words.now.paths.now) c.args.words.now.version (g.F.Files.held c.args.files.now) c.in-Ok.costs (g.F.Files.asked c.args.files.now) (g.F.Files.asked c.read_costs.new.files) (g.F.Files.asked c.read_sources.new.files) (rw c.in-Ok.is at c.in_ok-costs.ensures.costs) c.in_ok-costs.ensures.asked (asks_kept (CheckReads c.in-Ok.costs c.args.words.now.address c.args.words.now.version (texts c.args.words.now.paths.now)) (g.F.Files.held c.read_costs.new.files) (g.F.Files.held c.args.files.now) (g.F.Files.asked c.read_costs.new.files) (g.F.Files.asked c.read_sources.new.files) c.read_costs.ensures.kept (c.read_sources.ensures.asked c.in-Ok.costs))

pub returns-in_err-sources-clause-names : goal.returns-in_err-sources-clause-names
returns-in_err-sources-clause-names g c = part_next (g.F.Files.asked c.args.files.now) (g.F.Files.asked c.read_costs.new.files) (g.F.Files.asked c.read_sources.new.files) (c.args.words.now.costs.now ∷ []) (texts c.args.words.now.paths.now) c.in_ok-costs.ensures.asked c.read_sources.ensures.names

pub returns-in-Ok-2-clause-inputs : goal.returns-in-Ok-2-clause-inputs
returns-in-Ok-2-clause-inputs g c =
    check_gives c.args.words.now.costs.now c.args.words.now.address (texts c.args.words.now.paths.now) c.args.words.now.version (g.F.Files.held c.args.files.now) c.in-Ok.costs (CheckInputs c.in-Ok.costs c.in-Ok-2.sources) (rw c.in-Ok.is at c.in_ok-costs.ensures.costs) (inr (c.in-Ok.costs, c.in-Ok-2.sources, refl))
    (gives_kept (CheckReads c.in-Ok.costs c.args.words.now.address c.args.words.now.version (texts c.args.words.now.paths.now)) (g.F.Files.held c.read_costs.new.files) (g.F.Files.held c.args.files.now) (CheckInputs c.in-Ok.costs c.in-Ok-2.sources) c.read_costs.ensures.kept ((rw c.in-Ok-2.is at c.in_ok-sources.ensures.gives) c.in-Ok.costs))

pub returns-in-Ok-2-clause-asked : goal.returns-in-Ok-2-clause-asked
returns-in-Ok-2-clause-asked g c = check_asks_more c.args.words.now.costs.now c.args.words.now.address (texts c.args.words.now.paths.now) c.args.words.now.version (g.F.Files.held c.args.files.now) c.in-Ok.costs (g.F.Files.asked c.args.files.now) (g.F.Files.asked c.read_costs.new.files) (g.F.Files.asked c.read_sources.new.files) (rw c.in-Ok.is at c.in_ok-costs.ensures.costs) c.in_ok-costs.ensures.asked (asks_kept (CheckReads c.in-Ok.costs c.args.words.now.address c.args.words.now.version (texts c.args.words.now.paths.now)) (g.F.Files.held c.read_costs.new.files) (g.F.Files.held c.args.files.now) (g.F.Files.asked c.read_costs.new.files) (g.F.Files.asked c.read_sources.new.files) c.read_costs.ensures.kept (c.read_sources.ensures.asked c.in-Ok.costs))

pub returns-in-Ok-2-clause-names : goal.returns-in-Ok-2-clause-names
returns-in-Ok-2-clause-names g c = part_next (g.F.Files.asked c.args.files.now) (g.F.Files.asked c.read_costs.new.files) (g.F.Files.asked c.read_sources.new.files) (c.args.words.now.costs.now ∷ []) (texts c.args.words.now.paths.now) c.in_ok-costs.ensures.asked c.read_sources.ensures.names

pub returns-in-Err-2-clause-inputs : goal.returns-in-Err-2-clause-inputs
returns-in-Err-2-clause-inputs g c =
    check_gives c.args.words.now.costs.now c.args.words.now.address (texts c.args.words.now.paths.now) c.args.words.now.version (g.F.Files.held c.args.files.now) c.in-Ok.costs (BadFile c.in-Err-2.field-0.name.now c.in-Err-2.field-0.fault) (rw c.in-Ok.is at c.in_ok-costs.ensures.costs) (inl (c.in-Err-2.field-0.name.now, c.in-Err-2.field-0.fault, refl))
    (gives_kept (CheckReads c.in-Ok.costs c.args.words.now.address c.args.words.now.version (texts c.args.words.now.paths.now)) (g.F.Files.held c.read_costs.new.files) (g.F.Files.held c.args.files.now) (BadFile c.in-Err-2.field-0.name.now c.in-Err-2.field-0.fault) c.read_costs.ensures.kept ((rw c.in-Err-2.is at c.in_ok-sources.ensures.gives) c.in-Ok.costs))

pub returns-in-Err-2-clause-asked : goal.returns-in-Err-2-clause-asked
returns-in-Err-2-clause-asked g c = check_asks_more c.args.words.now.costs.now c.args.words.now.address (texts c.args.words.now.paths.now) c.args.words.now.version (g.F.Files.held c.args.files.now) c.in-Ok.costs (g.F.Files.asked c.args.files.now) (g.F.Files.asked c.read_costs.new.files) (g.F.Files.asked c.read_sources.new.files) (rw c.in-Ok.is at c.in_ok-costs.ensures.costs) c.in_ok-costs.ensures.asked (asks_kept (CheckReads c.in-Ok.costs c.args.words.now.address c.args.words.now.version (texts c.args.words.now.paths.now)) (g.F.Files.held c.read_costs.new.files) (g.F.Files.held c.args.files.now) (g.F.Files.asked c.read_costs.new.files) (g.F.Files.asked c.read_sources.new.files) c.read_costs.ensures.kept (c.read_sources.ensures.asked c.in-Ok.costs))

pub returns-in-Err-2-clause-names : goal.returns-in-Err-2-clause-names
returns-in-Err-2-clause-names g c = part_next (g.F.Files.asked c.args.files.now) (g.F.Files.asked c.read_costs.new.files) (g.F.Files.asked c.read_sources.new.files) (c.args.words.now.costs.now ∷ []) (texts c.args.words.now.paths.now) c.in_ok-costs.ensures.asked c.read_sources.ensures.names
