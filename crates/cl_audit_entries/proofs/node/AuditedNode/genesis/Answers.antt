use Rattle.std.proofs.Common.{◌≡◌, ℕ, List, [], map, refl, sym, ap, subst, ◌∙◌}
use Rattle.cl_c32.specs.declared.principal.Principal.{Principal}
use Rattle.std.specs.List.{All}
use Rattle.cl_values.specs.Valid.{IsPrincipal}
use Rattle.cl_contracts.specs.Seen.{contract_seen}
use Rattle.cl_events.specs.State.{State, genesis}
use Rattle.cl_state.specs.Stack.{Stack}
use Rattle.cl_nodes.specs.Seen.{seen}
use Rattle.cl_audit_steps.specs.declared.scope.Contract.{Contract as ContractOfCode}
use Rattle.cl_audit_steps.specs.Seen.{contracts_seen}
use Rattle.cl_audit_deploy.specs.Deploying.{without_values}
use Rattle.cl_nodes.specs.Sound.{Contracts, IsSound}
use Rattle.cl_audit_entries.proofs.node.AuditedNode.genesis.Goals as goal

pub invariant_of-result : goal.invariant_of-result
invariant_of-result c =
    let holders = c.args.holders.items in
    let top : c.in_ok-world.world.stack.top ≡ genesis holders = ap (λ (k : Stack). k.top) c.in_ok-world.ensures.state in
    let valid = subst (λ (hs : List (Principal × ℕ)). All (λ (h : Principal × ℕ). IsPrincipal h.0) hs) c.as_slice.ensures.value c.are_holders.ensures in
    let first : IsSound [] (seen (genesis holders) [] 0) = record { known = []; is_sound = record { trees = refl; forms = refl; sound = c.nodes_stay_sound.ensures.first holders valid } } in
    record {
      base = ap (λ (k : Stack). k.below) c.in_ok-world.ensures.state;
      whole = c.new-3.ensures.whole;
      those = record { same = ap (λ (ts : List ContractOfCode). map without_values (contracts_seen ts)) c.new-4.ensures ∙ sym (ap (map contract_seen) c.new-3.ensures.none) };
      sound = subst (λ (n : Contracts × (State × List ContractOfCode)). IsSound n.0 (seen n.1.0 (contracts_seen n.1.1) 0)) (λ i. (sym c.new-3.ensures.none i, (sym top i, sym c.new-4.ensures i))) first;
    }
