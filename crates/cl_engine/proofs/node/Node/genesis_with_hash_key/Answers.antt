use Rattle.std.proofs.Common.{◌≡◌, ℕ, List, [], refl, sym, ap, subst}
use Rattle.cl_c32.specs.declared.principal.Principal.{Principal}
use Rattle.std.specs.List.{All}
use Rattle.cl_values.specs.Valid.{IsPrincipal}
use Rattle.cl_events.specs.State.{State, genesis}
use Rattle.cl_state.specs.Stack.{Stack}
use Rattle.cl_nodes.specs.Seen.{seen}
use Rattle.cl_nodes.specs.Sound.{Contracts, contracts_seen, IsSound}
use Rattle.cl_engine.proofs.node.Node.genesis_with_hash_key.Goals as goal

pub invariant_of-result : goal.invariant_of-result
invariant_of-result c =
    let holders = c.args.holders.items in
    let top : c.in_ok-world.world.stack.top ≡ genesis holders = ap (λ (k : Stack). k.top) c.in_ok-world.ensures.state in
    let valid = subst (λ (hs : List (Principal × ℕ)). All (λ (h : Principal × ℕ). IsPrincipal h.0) hs) c.as_slice.ensures.value c.are_holders.ensures in
    let first : IsSound [] (seen (genesis holders) [] 0) = record { known = []; is_sound = record { trees = refl; forms = refl; sound = c.nodes_stay_sound.ensures.first holders valid } } in
    record {
      base = ap (λ (k : Stack). k.below) c.in_ok-world.ensures.state;
      whole = c.new.ensures.whole;
      sound = subst (λ (n : Contracts × State). IsSound n.0 (seen n.1 (contracts_seen n.0) 0)) (λ i. (sym c.new.ensures.none i, sym top i)) first;
    }
