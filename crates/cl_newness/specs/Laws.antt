-- What stays new while a contract is deployed.
use Rattle.std.specs.Prelude.{◌≡◌, ◌+◌, ℕ, nat_eq, List, [], Some, unwrap_or, slice_get}
use Rattle.std.specs.List.{IsDistinct}
use Rattle.cl_c32.specs.declared.principal.Principal.{Principal}
use Rattle.cl_sexpr.specs.Tree.{Tree}
use Rattle.cl_forms.specs.Forms.{Form}
use Rattle.cl_events.specs.State.{State}
use Rattle.cl_meaning.specs.Deployed.{Contract, Deployed}
use Rattle.cl_meaning.specs.Deploying.{defined}
use Rattle.cl_meaning.specs.Scope.{Frame}
use Rattle.cl_meaning.specs.Top.{top}
use Rattle.cl_newness.specs.Newness.{MakesNoTokens, HasNoTokens, IsNew, DefineOnce, AreNew, GivesSo}

-- an evaluation at the top of a contract makes no token
abbrev pub TopMakesNone : Type 0
TopMakesNone = (W : Deployed) (F : Frame) (c : Contract) (e : Tree) (s : State) → MakesNoTokens s (top W F c e s).state

-- before the first turn, all is new
abbrev pub NewAtFirst : Type 0
NewAtFirst = (p : Principal) (forms : List Form) (order : List ℕ) (s : State) → HasNoTokens p s → AreNew p forms order 0 [] s

-- what a turn defines is new before it
abbrev pub NewHere : Type 0
NewHere =
    (p : Principal) (forms : List Form) (order : List ℕ) (i n : ℕ) (f : Form) (c : Contract) (s : State) →
    slice_get order i ≡ Some n → slice_get forms n ≡ Some f → AreNew p forms order i c.constants s →
    (x : List ℕ) → f.name ≡ Some x → IsNew p x c.constants s

-- and what comes after the turn stays new
abbrev pub NewAfter : Type 0
NewAfter =
    (W : Deployed) (F : Frame) (c : Contract) (forms : List Form) (order : List ℕ) (i n : ℕ) (f : Form) (s : State) →
    DefineOnce forms → IsDistinct nat_eq order → slice_get order i ≡ Some n → slice_get forms n ≡ Some f → AreNew c.principal forms order i c.constants s →
    GivesSo (λ (d : Contract) t. AreNew c.principal forms order (i + 1) d.constants t) (defined W F (unwrap_or f.name []) f.kind c s)
