-- What a table of deployed contracts is seen as.
use Rattle.std.specs.Prelude.{◌≡◌, ℕ, List, [], ◌∷◌}
use Rattle.cl_c32.specs.declared.principal.Principal.{Principal}
use Rattle.cl_values.specs.Valid.{IsPrincipal}
use Rattle.cl_audit_steps.specs.declared.scope.Contract.{Contract}

-- the contracts, the oldest first, and for how many more there is room
pub record TableParts : Type 0 where
  pub contracts : List Contract
  pub room : ℕ

-- a contract is under its own principal
pub record IsOwn (e : Principal × Contract) : Type 0 where
  pub principal : e.1.principal ≡ e.0
  pub valid : IsPrincipal e.0

abbrev pub EachOwn : List (Principal × Contract) → Type 0
EachOwn [] = Unit {0}
EachOwn (e ∷ es) = IsOwn e × EachOwn es

pub record AreOwn (es : List (Principal × Contract)) : Type 0 where
  pub each : EachOwn es
