use Rattle.std.proofs.Common.{◌≡◌, List, [], ◌∷◌, sym, ap, subst, ◌∙◌}
use Rattle.cl_events.specs.State.{State}
use Rattle.cl_state.specs.Stack.{Stack}
use Rattle.cl_contracts.specs.Seen.{deployed_seen}
use Rattle.cl_nodes.proofs.Facts.{ok_also}
use Rattle.cl_nodes.specs.Seen.{seen}
use Rattle.cl_nodes.specs.Asked.{call_entry, costs_at}
use Rattle.cl_engine.specs.Asked.{SeesUnder}
use Rattle.cl_engine.proofs.Calling.{close_sees}
use Rattle.cl_engine.proofs.call.call.Goals as goal

pub returns-in-Ok-clause-seen : goal.returns-in-Ok-clause-seen
returns-in-Ok-clause-seen g c =
    let i = c.args.invocation.now in
    let m = c.args.moment.now in
    let cs = c.args.contracts.now in
    let d = cs.deployed.now in
    let below : c.evaluate.new.world.stack.below ≡ c.push_layer.new.self.stack.top ∷ [] =
    c.evaluate.ensures.below ∙ ap (λ (k : Stack). k.below) c.in_ok-push_layer.ensures.done ∙ ap (λ (b : List State). c.args.world.now.stack.top ∷ b) c.requires.base ∙ sym (ap (λ (k : Stack). k.top ∷ []) c.in_ok-push_layer.ensures.done) in
    subst (λ (s : State). SeesUnder (costs_at m) d.contracts (seen s (deployed_seen d) m.height) (call_entry i) c.close.result (g.W.Watch.seen c.args.watch.now) (g.W.Watch.seen c.evaluate.new.watch)) (ap (λ (k : Stack). k.top) c.in_ok-push_layer.ensures.done)
    (close_sees i m cs c.push_layer.new.self c.in-Ok.ended c.evaluate.new.world c.in-Ok.ensures.ended c.close.new.world (g.W.Watch.seen c.args.watch.now) (g.W.Watch.seen c.evaluate.new.watch) c.close.result
    (ok_also c.close.result _ _ (λ r closed node at. closed node (ap (λ (t : State). t ∷ []) at ∙ sym below)) c.close.ensures.closed)
    c.in-Ok.ensures.seen)
