-- Expressions that are typed, and whose literals and names are within their limits, as they are in each text that reads.
use Rattle.std.specs.Prelude.{◌≡◌, List, [], ◌∷◌}
use Rattle.cl_sexpr.specs.Tree.{Tree}
use Rattle.cl_sexpr.specs.Fits.{Fits}
use Rattle.cl_rules.specs.Context.{Context, Names}
use Rattle.cl_rules.specs.Verdicts.{Found}
use Rattle.cl_rules.specs.Shapes.{Plan, Ends, Part, Gives}
use Rattle.cl_rules.specs.Table.{shape}
use Rattle.cl_rules.specs.Typing.{broken_shape, broken_types, found_by}

-- typed, and so is each part, and all literals fit
mutual
  pub data Fitted (G : Context) : Names → Tree → Found → Type 0 where
    fitted : {B : Names} {e : Tree} {f : Found} (fs : List Found) → Fits e → broken_shape G B e ≡ [] → Follows G (shape G B e).plan fs → broken_types G B e fs ≡ [] → found_by G B e fs ≡ f → Fitted G B e f

  pub data Follows (G : Context) : Plan → List Found → Type 0 where
    ends : Follows G Ends []
    part : {B : Names} {e : Tree} {p : Plan} {f : Found} {fs : List Found} → Fitted G B e f → Follows G p fs → Follows G (Part B e p) (f ∷ fs)
    gives : {B : Names} {e : Tree} {k : Found → Plan} {f : Found} {fs : List Found} → Fitted G B e f → Follows G (k f) fs → Follows G (Gives B e k) (f ∷ fs)
