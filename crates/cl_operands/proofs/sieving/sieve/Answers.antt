use Rattle.std.proofs.Common.{option_map, sym, ap, ◌∙◌}
use Rattle.cl_values.specs.Computed.{kept}
use Rattle.cl_operands.specs.Sieved.{sieved, sieved_if}
use Rattle.cl_operands.proofs.SieveLaws.{applied_so}
use Rattle.cl_operands.proofs.sieving.sieve.Goals as goal

pub returns-in-Some : goal.returns-in-Some
returns-in-Some c =
    applied_so _ _ _ (ap (sieved_if c.args.sequence) (sym c.in_ok-flags.ensures ∙ ap (option_map (λ bs. bs.items)) c.in-Some.is) ∙ ap (sieved c.args.sequence) (sym c.deref.ensures.value)) c.sieve_by_flags.ensures

pub returns-in-None : goal.returns-in-None
returns-in-None c = ap (λ o. kept (sieved_if c.args.sequence o)) (sym c.in_ok-flags.ensures ∙ ap (option_map (λ bs. bs.items)) c.in-None.is)
