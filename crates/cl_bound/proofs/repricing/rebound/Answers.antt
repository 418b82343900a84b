use Rattle.std.proofs.Common.{List, map, subst, ap, ◌∙◌}
use Rattle.std.specs.List.{filter_map}
use Rattle.cl_code.specs.declared.definition.Definition.{Definition}
use Rattle.cl_code.specs.Definitions.{form_defined}
use Rattle.cl_costs.specs.Tables.{function_of}
use Rattle.cl_contracts.specs.declared.parts.Parts.{Parts}
use Rattle.cl_bound.specs.Known.{AreBoundsOf}
use Rattle.cl_bound.specs.Reaches.{AreReachesOf, reach_line}
use Rattle.cl_bound.proofs.repricing.rebound.Goals as goal

pub returns-clause-reaches : goal.returns-clause-reaches
returns-clause-reaches c contracts are =
    let table = function_of c.args.costs.now in
    subst (λ (q : Parts). AreReachesOf table contracts q c.in_ok-reaches.reaches.items) c.parts-own.ensures
    (λ known D stand stands. c.in_ok-reaches.ensures table D ((c.in_ok-contract.ensures contracts are).functions known D stand stands)
    ∙ ap (λ (ds : List Definition). filter_map (reach_line table D) (map form_defined ds)) c.deref.ensures.value)

pub returns-clause-kept : goal.returns-clause-kept
returns-clause-kept c contracts are =
    subst (λ (q : Parts). AreBoundsOf (function_of c.args.costs.now) contracts q c.in_ok-contract.contract) c.parts-own.ensures (c.in_ok-contract.ensures contracts are)
