-- Contracts that another one calls.
use Rattle.std.specs.Prelude.{◌≡◌, Option, Some}
use Rattle.cl_c32.specs.declared.principal.Principal.{Principal}
use Rattle.cl_forms.specs.Shapes.{beside}
use Rattle.cl_code.specs.declared.op.Target.{Target}
use Rattle.cl_code.specs.declared.op.Target.TheVariants.{Standing, Local}
use Rattle.cl_contracts.specs.Seen.{deployed_seen}
use Rattle.cl_meaning.specs.Deployed.{Contract, contract_at}
use Rattle.cl_frames.specs.Homes.{home_seen, with_opening}
use Rattle.cl_frames.specs.declared.home.Home.{Home}
use Rattle.cl_frames.specs.declared.context.Context.{Context}

-- the principal that a literal in the code of a contract names
abbrev pub principal_in : Principal → Target → Principal
principal_in own (Standing p at) = p
principal_in own (Local c at) = beside own c

-- the contract of a principal
abbrev pub there : Context → Principal → Option Contract
there c p = contract_at p (with_opening c.opening (deployed_seen c.deployed.now))

-- a contract that stands there under its own principal
pub record IsAt (c : Context) (h : Home) : Type 0 where
  pub found : there c h.checked.now.principal ≡ Some (home_seen h)
