use Rattle.std.proofs.Common.{ap, ◌∙◌}
use Rattle.cl_contracts.specs.Seen.{forms_of}
use Rattle.cl_meaning.specs.Deployed.{function_in}
use Rattle.cl_engine.proofs.lookup.function_named.Goals as goal

pub returns-in-Some-clause-seen : goal.returns-in-Some-clause-seen
returns-in-Some-clause-seen c = c.function.ensures.seen c.args.contract.now.checked.principal ∙ ap (λ x. function_in x (forms_of c.args.contract.now.checked)) c.in-Some.ensures.1
