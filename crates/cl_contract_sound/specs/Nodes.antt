-- Deployed contracts, each of which stands for one accepted text, and nodes: such contracts with a state that is kept.
use Rattle.std.specs.Prelude.{◌≡◌, List, [], ◌∷◌, ◌++◌, length, Contains, Some, None, IsSome}
use Rattle.cl_values.specs.Valid.{IsPrincipal}
use Rattle.cl_forms.specs.Texts.{Text}
use Rattle.cl_events.specs.State.{State}
use Rattle.cl_meaning.specs.Deployed.{Contract, Deployed, contract_at}
use Rattle.cl_meaning.specs.Kept.{Whole, Kept}
use Rattle.cl_rules.specs.Context.{CostTable, Known, known_at}
use Rattle.cl_rules.specs.Acceptance.{Accepted, known_of}
use Rattle.cl_expression_sound.specs.Stages.{AreDistinct}
use Rattle.cl_expression_sound.specs.Sound.{AreBound}

-- A contract stands for a text that was accepted after those before it, under some table: it has the text's forms, version and
-- length, and for each constant a value of its type; and what callers see of it is what the text defines.
pub record IsOfText (before : List Known) (c : Contract) (k : Known) : Type 0 where
  pub valid : IsPrincipal c.principal
  pub table : CostTable
  pub text : Text
  pub accepted : Accepted before c.principal table text
  pub forms : c.forms ≡ accepted.forms
  pub version : c.version ≡ text.version
  pub size : c.source_length ≡ length text.bytes
  pub constants : AreBound accepted.defined.context.constants c.constants
  pub known : k ≡ known_of c.principal (length text.bytes) accepted.defined

-- what callers see, in the order of the deployments: each has a principal of its own, under which evaluations find the contract
pub data AreOfTexts (W : Deployed) : List Known → Type 0 where
  none_yet : {ks : List Known} → ks ≡ [] → AreOfTexts W ks
  and_one : {before after : List Known} (c : Contract) (k : Known) → AreOfTexts W before → known_at c.principal before ≡ None → IsOfText before c k → contract_at c.principal W ≡ Some c → after ≡ before ++ k ∷ [] → AreOfTexts W after

-- deployed contracts, as evaluations and as callers see them, which are the same ones
pub record AreContracts (W : Deployed) (ks : List Known) : Type 0 where
  pub distinct : AreDistinct W
  pub texts : AreOfTexts W ks
  pub known : (c : Contract) → Contains W c → IsSome (known_at c.principal ks)

pub record IsNode (W : Deployed) (ks : List Known) (s : State) : Type 0 where
  pub contracts : AreContracts W ks
  pub kept : Kept W Whole s
