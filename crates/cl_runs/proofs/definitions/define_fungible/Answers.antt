use Rattle.std.proofs.Common.{sym, ap, ◌∙◌, true, Option}
use Rattle.std.proofs.lemmas.Bool.{and_parts}
use Rattle.cl_code.specs.Typed.{Typed, typeds, goes_by, all_go_by}
use Rattle.cl_contracts.specs.Seen.{tree_if}
use Rattle.cl_frames.proofs.Defining.{supply_form, builds, uncapped_unseen}
use Rattle.cl_runs.proofs.definitions.define_fungible.Goals as goal

pub returns-in-Some-clause-meant : goal.returns-in-Some-clause-meant
returns-in-Some-clause-meant g c = supply_form c.args.deploying.now _ _ _ _ _ c.args.token.now.span _ _ _ _ _ _ _ c.in-Some.is (c.define_capped.ensures.meant c.args.token.now.span)

pub returns-in-None-clause-meant : goal.returns-in-None-clause-meant
returns-in-None-clause-meant g c = supply_form c.args.deploying.now _ _ _ _ _ c.args.token.now.span _ _ _ _ _ _ _ c.in-None.is (builds c.args.deploying.now _ _ _ _ _ _ _ (uncapped_unseen _ _ _ _ _) (c.define_uncapped.ensures.meant c.args.token.now.span))

pub define_uncapped-requires : goal.define_uncapped-requires
define_uncapped-requires g c = record { new = c.requires.new }

pub define_capped-requires-clause-goes : goal.define_capped-requires-clause-goes
define_capped-requires-clause-goes g c =
    let v = c.args.deploying.now.checked.now.version in
    (and_parts (goes_by v c.in-Some.cap) true (sym (ap (λ (o : Option Typed). all_go_by v (typeds (tree_if o))) c.in-Some.is) ∙ c.requires.goes)).0
