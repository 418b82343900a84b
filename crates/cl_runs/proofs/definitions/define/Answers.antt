use Rattle.std.proofs.Common.{ap, sym, ◌∙◌, true, None}
use Rattle.std.proofs.lemmas.Bool.{and_parts}
use Rattle.cl_code.specs.declared.definition.Definition.{Definition}
use Rattle.cl_code.specs.Definitions.{form_defined}
use Rattle.cl_code.specs.Typed.{goes_by}
use Rattle.cl_contracts.specs.Seen.{goes}
use Rattle.cl_frames.proofs.Defining.{by_form, builds, map_ends, function_ends, map_unseen, nonfungible_unseen, function_unseen}
use Rattle.cl_runs.proofs.definitions.define.Goals as goal

pub returns-in-Constant-clause-meant : goal.returns-in-Constant-clause-meant
returns-in-Constant-clause-meant g c = by_form c.args.deploying.now _ _ _ _ _ _ _ _ _ _ _ c.in-Constant.is (c.define_constant.ensures.meant c.in-Constant.constant.span)

pub returns-in-Variable-clause-meant : goal.returns-in-Variable-clause-meant
returns-in-Variable-clause-meant g c = by_form c.args.deploying.now _ _ _ _ _ _ _ _ _ _ _ c.in-Variable.is (c.define_variable.ensures.meant c.in-Variable.variable.ty c.in-Variable.variable.span)

pub returns-in-Fungible-clause-meant : goal.returns-in-Fungible-clause-meant
returns-in-Fungible-clause-meant g c = by_form c.args.deploying.now _ _ _ _ _ _ _ _ _ _ _ c.in-Fungible.is (c.define_fungible.ensures.meant)

pub returns-in-NonFungible-clause-meant : goal.returns-in-NonFungible-clause-meant
returns-in-NonFungible-clause-meant g c = by_form c.args.deploying.now _ _ _ _ _ _ _ _ _ _ _ c.in-NonFungible.is (builds c.args.deploying.now _ _ _ _ _ _ _ (nonfungible_unseen _ _ _ _ _ c.in-NonFungible.token.id) (c.define_nonfungible.ensures.meant c.in-NonFungible.token.id c.in-NonFungible.token.span))

pub returns-in-TopLevel-clause-meant : goal.returns-in-TopLevel-clause-meant
returns-in-TopLevel-clause-meant g c = by_form c.args.deploying.now _ _ _ _ _ _ _ _ _ _ _ c.in-TopLevel.is (c.evaluate_alone.ensures.meant None c.in-TopLevel.expression.span)

pub returns-in-MapOf-clause-meant : goal.returns-in-MapOf-clause-meant
returns-in-MapOf-clause-meant g c = by_form c.args.deploying.now _ _ _ _ _ _ _ _ _ _ _ c.in-MapOf.is (builds c.args.deploying.now _ _ _ _ _ _ _ (map_unseen _ _ _ _ _ _ _) (map_ends c.args.deploying.now _ _ c.in-MapOf.field-0 _ _ c.args.world.now.stack.top c.pay.ensures))

pub returns-in-Function-clause-meant : goal.returns-in-Function-clause-meant
returns-in-Function-clause-meant g c = by_form c.args.deploying.now _ _ _ _ _ _ _ _ _ _ _ c.in-Function.is (builds c.args.deploying.now _ _ _ _ _ _ _ (function_unseen _ _ _ _ _ _ _ _) (function_ends c.args.deploying.now _ _ c.in-Function.field-0 _ _ c.args.world.now.stack.top c.pay-in-Function.ensures))

pub define_constant-requires-clause-new : goal.define_constant-requires-clause-new
define_constant-requires-clause-new g c = (c.requires.new _ (ap (λ (d : Definition). (form_defined d).name) c.in-Constant.is)).constant

pub define_fungible-requires-clause-new : goal.define_fungible-requires-clause-new
define_fungible-requires-clause-new g c = (c.requires.new _ (ap (λ (d : Definition). (form_defined d).name) c.in-Fungible.is)).fungible

pub define_nonfungible-requires : goal.define_nonfungible-requires
define_nonfungible-requires g c = record { new = (c.requires.new _ (ap (λ (d : Definition). (form_defined d).name) c.in-NonFungible.is)).nonfungible }

pub define_constant-requires-clause-goes : goal.define_constant-requires-clause-goes
define_constant-requires-clause-goes g c =
    let v = c.args.deploying.now.checked.now.version in
    (and_parts (goes_by v c.in-Constant.constant.value) true (sym (ap (goes v) c.in-Constant.is) ∙ c.requires.goes)).0

pub define_variable-requires-clause-goes : goal.define_variable-requires-clause-goes
define_variable-requires-clause-goes g c =
    let v = c.args.deploying.now.checked.now.version in
    (and_parts (goes_by v c.in-Variable.variable.value) true (sym (ap (goes v) c.in-Variable.is) ∙ c.requires.goes)).0

pub evaluate_alone-requires-clause-goes : goal.evaluate_alone-requires-clause-goes
evaluate_alone-requires-clause-goes g c =
    let v = c.args.deploying.now.checked.now.version in
    (and_parts (goes_by v c.in-TopLevel.expression.value) true (sym (ap (goes v) c.in-TopLevel.is) ∙ c.requires.goes)).0

pub define_fungible-requires-clause-goes : goal.define_fungible-requires-clause-goes
define_fungible-requires-clause-goes g c = sym (ap (goes c.args.deploying.now.checked.now.version) c.in-Fungible.is) ∙ c.requires.goes
