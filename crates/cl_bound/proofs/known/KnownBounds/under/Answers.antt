use Rattle.std.proofs.Common.{List, sym, subst}
use Rattle.std.specs.Prelude.{IfOk}
use Rattle.cl_c32.specs.declared.principal.Principal.{Principal}
use Rattle.cl_costs.specs.Tables.{function_of}
use Rattle.cl_contracts.specs.Contents.{ContractParts as Contract}
use Rattle.cl_contracts.specs.Seen.{AreEntries}
use Rattle.cl_bound.specs.Known.{AreBounds}
use Rattle.cl_bound.proofs.known.KnownBounds.under.Goals as goal

pub bounds_of-requires : goal.bounds_of-requires
bounds_of-requires c = subst AreEntries (sym c.contracts.ensures) c.are_known.ensures.indexed.each

pub returns : goal.returns
returns c =
    subst (λ (es : List (Principal × Contract)). IfOk c.bounds_of.result (λ known. AreBounds (function_of c.args.costs.now) es known)) c.contracts.ensures c.bounds_of.ensures
