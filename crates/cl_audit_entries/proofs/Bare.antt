-- What doesn't depend on the values of constants: which contracts are there, and the bounds of their functions.
use Rattle.std.specs.Prelude.{flat_map, nat_eq, if◌then◌else◌}
use Rattle.std.proofs.Common.{◌≡◌, ℕ, Bool, true, false, List, [], ◌∷◌, ◌++◌, map, Some, None, refl, sym, ap, ◌∙◌}
use Rattle.cl_c32.specs.declared.principal.Principal.{Principal}
use Rattle.cl_costs.specs.Schedules.{ScheduleSeen, costs_at, epoch_at}
use Rattle.cl_events.specs.State.{is_principal}
use Rattle.cl_meaning.specs.Deployed.{Contract, Deployed, contract_at}
use Rattle.cl_meaning.specs.Limits.{Costs}
use Rattle.cl_rules.specs.Context.{Known}
use Rattle.cl_tx.specs.Nodes.{NodeSeen}
use Rattle.cl_tx.specs.Rebounds.{rebounds_at, rebounds_of}
use Rattle.cl_audit_deploy.specs.Deploying.{without_values}

-- ---- contracts

none_behind : (b : Bool) (c : Contract) (p : Principal) (cs : Deployed) → (contract_at p (map without_values cs) ≡ None → contract_at p cs ≡ None) →
    (if b then Some (without_values c) else contract_at p (map without_values cs)) ≡ None → (if b then Some c else contract_at p cs) ≡ None
none_behind true c p cs rest h = absurd cc
none_behind false c p cs rest h = rest h

pub bare_none : (p : Principal) (W : Deployed) → contract_at p (map without_values W) ≡ None → contract_at p W ≡ None
bare_none p [] h = refl
bare_none p (c ∷ cs) h = none_behind (is_principal c.principal p) c p cs (bare_none p cs) h

-- ---- bounds

same_lines : (costs : Costs) (known : List Known) (W : Deployed) → flat_map (rebounds_of costs known) (map without_values W) ≡ flat_map (rebounds_of costs known) W
same_lines costs known [] = refl
same_lines costs known (c ∷ cs) = λ i. rebounds_of costs known c ++ same_lines costs known cs i

pub bare_lines : (schedule : ScheduleSeen) (node : NodeSeen) (W : Deployed) (to : ℕ) → map without_values node.contracts ≡ W → rebounds_at schedule (record node { contracts = W }) to ≡ rebounds_at schedule node to
unfolding rebounds_at
bare_lines schedule node W to same = λ i.
    if nat_eq (epoch_at schedule node.height) (epoch_at schedule to) then []
    else (ap (flat_map (rebounds_of (costs_at schedule to) node.known)) (sym same) ∙ same_lines (costs_at schedule to) node.known node.contracts) i
