-- What can stand in a text of the version of a context's contract, where the context fits.
use Rattle.std.specs.Prelude.{◌≡◌, Bool, true, List}
use Rattle.cl_forms.specs.declared.version.Version.{Version}
use Rattle.cl_code.specs.declared.op.Applied.{Applied}
use Rattle.cl_code.specs.Nodes.{goes_applied}
use Rattle.cl_code.specs.Typed.{Typed, typeds, goes_by, all_go_by}
use Rattle.cl_frames.specs.declared.applied.Called.{Called}
use Rattle.cl_frames.specs.declared.applied.Called.TheVariants.{Function, Native}
use Rattle.cl_frames.specs.declared.context.Context.{Context}
use Rattle.cl_frames.specs.Seen.{Fits, version_of}

-- a tree
abbrev pub GoesIn : Context → Typed → Type 0
GoesIn c tree = Fits c → goes_by (version_of c) tree ≡ true

-- each of these trees
abbrev pub AllGoIn : Context → List Typed → Type 0
AllGoIn c trees = Fits c → all_go_by (version_of c) (typeds trees) ≡ true

-- what is given by name to be applied
abbrev pub AppliedGoesIn : Context → Applied → Type 0
AppliedGoesIn c applied = Fits c → goes_applied (version_of c) applied ≡ true

-- what is applied: a function, as its body can
abbrev pub goes_called : Version → Called → Bool
goes_called version (Function f) = goes_by version f.now.body
goes_called version (Native n) = true

abbrev pub CalledGoesIn : Context → Called → Type 0
CalledGoesIn c called = Fits c → goes_called (version_of c) called ≡ true
