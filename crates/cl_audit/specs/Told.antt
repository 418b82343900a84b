-- Claims as a watch is told them.
use Rattle.cl_sexpr.specs.declared.sexpr.Span.{Span}
use Rattle.cl_values.specs.Tree.{Tree as Val}
use Rattle.cl_audit_walk.specs.declared.cursor.Claim.{Claim}

abbrev pub claim_told : Claim → Span × Val
claim_told c = (c.span, c.value)
