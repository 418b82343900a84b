use Rattle.std.proofs.Common.{refl, sym, ap, ◌∙◌}
use Rattle.cl_meaning.specs.Limits.{limited}
use Rattle.cl_meaning.proofs.LimitLaws.{limited-stop}
use Rattle.cl_frames.specs.Seen.{scope}
use Rattle.cl_frames.specs.Homes.{home_seen}
use Rattle.cl_frames.proofs.Steps.{ends_so}
use Rattle.cl_frames.proofs.Laws
use Rattle.cl_steps.proofs.literals.named.Goals as goal

pub returns-in-Some : goal.returns-in-Some
returns-in-Some c s fits =
    ends_so _ _ _ _ _ (ap (limited _ _) (Laws.name_is (scope c.args.context.now c.args.names.now) c.args.name.now _ _ (home_seen c.args.context.now.home) s c.requires (sym (ap Rattle.std.specs.Prelude.option_copied c.in-Some.is) ∙ c.find.ensures) fits.found (refl))) (c.reads.ensures s)

pub returns-in-Some-constant : goal.returns-in-Some-constant
returns-in-Some-constant c s fits =
    ends_so _ _ _ _ _ (ap (limited _ _) (Laws.name_is (scope c.args.context.now c.args.names.now) c.args.name.now _ _ (home_seen c.args.context.now.home) s c.requires (sym (ap Rattle.std.specs.Prelude.option_copied c.in-None.is) ∙ c.find.ensures) fits.found (sym (ap Rattle.std.specs.Prelude.option_copied c.in-Some-constant.is) ∙ c.constant.ensures))) (c.reads-in-Some-constant.ensures s)

pub returns-in-None-constant : goal.returns-in-None-constant
returns-in-None-constant c s fits =
    ap (limited _ _) (Laws.name_is (scope c.args.context.now c.args.names.now) c.args.name.now _ _ (home_seen c.args.context.now.home) s c.requires (sym (ap Rattle.std.specs.Prelude.option_copied c.in-None.is) ∙ c.find.ensures) fits.found (sym (ap Rattle.std.specs.Prelude.option_copied c.in-None-constant.is) ∙ c.constant.ensures)) ∙ limited-stop _ _ _ _
