-- How far nodes agree with claims.
use Rattle.std.specs.Prelude.{◌+◌, ◌&&◌, nat_eq, Bool, true, false, slice_get, Option, Some, None}
use Rattle.cl_sexpr.specs.declared.sexpr.Span.{Span}
use Rattle.cl_values.specs.Tree.{Tree as Val}
use Rattle.cl_values.specs.Sequences.{equal}
use Rattle.cl_audit_walk.specs.declared.cursor.Claim.{Claim}
use Rattle.cl_audit_walk.specs.declared.cursor.Cursor.{Cursor}

-- a claim is that of a node
abbrev pub is_claim : Span → Val → Claim → Bool
is_claim at v c = nat_eq c.span.start at.start && nat_eq c.span.end at.end && equal c.value v

abbrev pub agrees : Span → Val → Option Claim → Bool
agrees at v None = false
agrees at v (Some c) = is_claim at v c

abbrev pub stepped : Bool → Cursor → Cursor
stepped true c = record c { at = c.at + 1 }
stepped false c = record c { differs = true }

abbrev pub looking : Bool → Span → Val → Cursor → Cursor
looking true at v c = c
looking false at v c = stepped (agrees at v (slice_get c.claims.now c.at)) c

-- the next claim is that of the node, or it differs; the first that differs counts
abbrev pub look : Span → Val → Cursor → Cursor
look at v c = looking c.differs at v c
