-- What handles own.
use Rattle.std.specs.Prelude.{Bool, true, false, List, Option, Some, None}
use mir.Syntax.{Ty}
use base.Fml.{Fml, ftrue, ffalse}
use denote.RawPtr.{Ptr}
use Rattle.std.specs.contracts.impls.GlobalAllocator.TheImpl.{ghosts}
use Rattle.std.specs.Box.Ownership.{box_owns}
use Rattle.cl_shapes.specs.declared.function.CostFn.{CostFn}
use Rattle.cl_costs.specs.contracts.table.CostTable as table
use Rattle.cl_session.specs.contracts.session.Session as session
use Rattle.cl_session.specs.declared.session.Session.{Session}

-- the right to free a block of the heap
abbrev pub token : Ty → Ptr → Fml
token = ghosts.dealloc_token (record { memory = record { seal = tt } })

-- an open handle of a node owns the box behind the pointer, a closed one nothing
abbrev pub owned : Bool → Ptr → Option Session → Fml
owned true p (Some s) = box_owns token session.the_row p s
owned true p None = ffalse
owned false p (Some s) = ffalse
owned false p None = ftrue

-- the same of a handle of a table
abbrev pub owned_table : Bool → Ptr → Option (List CostFn) → Fml
owned_table true p (Some t) = box_owns token table.the_row p t
owned_table true p None = ffalse
owned_table false p (Some t) = ffalse
owned_table false p None = ftrue
