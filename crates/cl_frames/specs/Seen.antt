-- What an expression stands in, as evaluations see it.
use Rattle.std.specs.Prelude.{◌≡◌, ℕ, List}
use Rattle.cl_costs.specs.Tables.{function_of}
use Rattle.cl_values.specs.Tree.{Tree as Val}
use Rattle.cl_contracts.specs.Seen.{deployed_seen}
use Rattle.cl_forms.specs.declared.version.Version.{Version}
use Rattle.cl_forms.specs.Heads.{native}
use Rattle.cl_meaning.specs.Deployed.{native_of}
use Rattle.cl_meaning.specs.Scope.{Scope, home}
use Rattle.cl_meaning.specs.Limits.{Costs}
use Rattle.cl_frames.specs.Homes.{frame_seen, with_opening, IsHome}
use Rattle.cl_frames.specs.Named.{Named}
use Rattle.cl_frames.specs.declared.context.Context.{Context}

abbrev pub costs_of : Context → Costs
costs_of c = function_of c.costs.now

-- where these values are bound
abbrev pub scope_of : Context → List (List ℕ × Val) → Scope
scope_of c bound = record { deployed = with_opening c.opening (deployed_seen c.deployed.now); frame = frame_seen c.frame.now; bound = bound }

abbrev pub scope : Context → Named → Scope
scope c n = scope_of c n.values

-- names are looked up in a scope as in a text of this version
abbrev pub IsOfVersion : Version → Scope → Type 0
IsOfVersion version S = (x : List ℕ) → native_of x (home S) ≡ native version x

-- the home contract of a context is its frame's
abbrev pub Fits : Context → Type 0
Fits c = IsHome c.deployed.now c.opening c.home c.frame.now

-- the version of a context: that of its home contract
abbrev pub version_of : Context → Version
version_of c = c.home.checked.now.version
