-- What callers know of the contracts of a node.
use Rattle.std.specs.Prelude.{◌≡◌, List, [], ◌∷◌, ◌++◌, Some}
use Rattle.cl_forms.specs.Forms.{Form}
use Rattle.cl_meaning.specs.Deployed.{Contract}
use Rattle.cl_meaning.specs.Deploying.{in_order}
use Rattle.cl_rules.specs.Context.{Known}
use Rattle.cl_rules.specs.FormRules.{Defined, nothing_defined}
use Rattle.cl_rules.specs.FormTyping.{FormsTyped}
use Rattle.cl_rules.specs.Acceptance.{known_of}
use Rattle.cl_tx.specs.Nodes.{NodeSeen}
use Rattle.cl_nodes.specs.Seen.{Seen, node_with}

-- the forms of one contract after another are typed in their order, after the contracts before it; to callers it is what they define
abbrev pub AreKnown : List Known → List Contract → List Known → Type 0
AreKnown before [] after = before ≡ after
AreKnown before (c ∷ cs) after =
    (forms : List Form) × (defined : Defined) × (in_order c.forms ≡ Some forms) × FormsTyped (nothing_defined before c.principal c.version c.source_length) forms defined
    × AreKnown (before ++ known_of c.principal c.source_length defined ∷ []) cs after

-- a node as the step speaks of it, which has besides what callers know of its contracts
pub record IsNodeOf (n : Seen) (node : NodeSeen) : Type 0 where
  pub known : AreKnown [] n.contracts node.known
  pub is : node ≡ node_with node.known n
