-- What is typed is sound.
use Rattle.std.specs.Prelude.{ℕ}
use Rattle.cl_sexpr.specs.Tree.{Tree}
use Rattle.cl_sexpr.specs.Fits.{Fits}
use Rattle.cl_meaning.specs.Meaning.{means, applied}
use Rattle.cl_rules.specs.Context.{Context, Names}
use Rattle.cl_rules.specs.Verdicts.{Found}
use Rattle.cl_rules.specs.Typing.{Typed}
use Rattle.cl_expression_sound.specs.Fitted.{Fitted}
use Rattle.cl_expression_sound.specs.Sound.{World, IsWorld, TakesSound, EntersSound}

-- In a world that serves, each typed expression is sound at each depth that is no less than its height; and so is each
-- application of a function, and of a native that is given by name.
abbrev pub TypedIsSound : Type 0
TypedIsSound = (K : World) → IsWorld K → (depth : ℕ) → TakesSound K (means depth) depth × EntersSound K (applied depth) depth

-- a typed expression whose names and literals are within the limits has only such parts
abbrev pub TypedFits : Type 0
TypedFits = (G : Context) (B : Names) (e : Tree) (f : Found) → Typed G B e f → Fits e → Fitted G B e f
