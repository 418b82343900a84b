use Rattle.cl_audit_steps.proofs.TokenLaws.{amount_is, no_amount}
use Rattle.cl_audit_steps.proofs.tokens.amount_held.Goals as goal

pub returns-in_ok-balance-in-Some : goal.returns-in_ok-balance-in-Some
returns-in_ok-balance-in-Some c S take enter s = amount_is _ c.args.value.now _ _ _ _ s c.principal_of.ensures c.in-Some.is c.in_ok-balance-in-Some.ensures c.uint_value.ensures

pub returns-in-None : goal.returns-in-None
returns-in-None c S take enter s = no_amount _ c.args.value.now _ s c.principal_of.ensures c.in-None.is
