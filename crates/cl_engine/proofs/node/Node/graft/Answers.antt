use Rattle.std.proofs.Common.{ap, subst, sym}
use Rattle.cl_events.specs.State.{State}
use Rattle.cl_state.specs.Stack.{Stack}
use Rattle.cl_meaning.specs.Kept.{Kept, Whole}
use Rattle.cl_contracts.specs.Seen.{deployed_seen}
use Rattle.cl_nodes.specs.Seen.{Seen, seen}
use Rattle.cl_nodes.specs.Sound.{IsSound}
use Rattle.cl_engine.specs.contracts.node.Node.{the_view}
use Rattle.cl_engine.proofs.Trials.{grafted_sound}
use Rattle.cl_engine.proofs.node.Node.graft.Goals as goal

pub invariant_of-self-2 : goal.invariant_of-self-2
invariant_of-self-2 c = record {
  base = ap (λ (s : Stack). s.below) c.in_ok-graft.ensures.done;
  whole = c.self.invariant.whole;
  sound = subst (λ (s : State). IsSound c.self.inside.contracts.deployed.contracts (seen s (deployed_seen c.self.inside.contracts.deployed) c.self.inside.height))
      (sym (ap (λ (s : Stack). s.top) c.in_ok-graft.ensures.done))
      (grafted_sound c.grafts_are_kept.ensures c.self.inside.contracts.deployed.contracts (the_view c.self.inside) c.args.from.now.stack.top c.args.spots.now
      (subst (λ (n : Seen). Kept n.contracts Whole c.args.from.now.stack.top) (sym c.self.view_is) c.requires.kept) c.self.invariant.sound);
}
