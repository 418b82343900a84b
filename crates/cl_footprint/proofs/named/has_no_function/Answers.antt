use Rattle.std.proofs.Common.{ap, subst, ◌∙◌}
use Rattle.std.specs.List.{AllByRecursion}
use Rattle.cl_meaning.specs.Deployed.{function_of}
use Rattle.cl_contracts.specs.declared.parts.Parts.{Parts}
use Rattle.cl_footprint.specs.Named.{IsNamed}
use Rattle.cl_footprint.proofs.NamesFound.{name_found}
use Rattle.cl_footprint.proofs.named.has_no_function.Goals as goal

pub returns-in-Some : goal.returns-in-Some
returns-in-Some c = λ callable.
    c.requires (name_found c.args.function.now callable.function c.in-Some.found.now.checked.definitions.items (subst (AllByRecursion IsNamed) (c.as_slice.ensures.value ∙ ap (λ (q : Parts). q.definitions.items) c.parts.ensures) c.are_named.ensures)
    (ap (function_of c.args.function.now) c.in-Some.ensures.seen ∙ callable.there))
