use Rattle.std.proofs.Common.{sym}
use Rattle.cl_frames.specs.Homes.{frame_seen}
use Rattle.cl_node_sound.proofs.Calling.{fitting_are}
use Rattle.cl_tx.specs.declared.outcome.EntryRefusal.TheVariants.{NoBound}
use Rattle.cl_nodes.proofs.Facts.{ok_also}
use Rattle.cl_nodes.specs.Asked.{costs_at}
use Rattle.cl_engine.proofs.Calling.{bound_refused, comes, ends, refused_ends, sees_ended}
use Rattle.cl_engine.proofs.call.evaluate.Goals as goal

pub returns-in-Some-clause-ended : goal.returns-in-Some-clause-ended
returns-in-Some-clause-ended g c =
    let i = c.args.invocation.now in
    let m = c.args.moment.now in
    let cs = c.args.contracts.now in
    refused_ends i m cs c.args.world.now (NoBound c.in-Some.dimension) c.of_refusal-in-Some.result c.of_refusal-in-Some.ensures
    (bound_refused i m cs c.args.world.now c.in-Ok.found c.in-Ok.ensures.found c.in-Some.dimension
    (λ known sound. sym (c.in-Some.ensures (costs_at m) cs.deployed.now.contracts known c.requires.callable.bounds_are sound.trees)))
    c.args.world.now

pub apply-requires-clause-fitting : goal.apply-requires-clause-fitting
apply-requires-clause-fitting g c =
    let may = c.in-Ok.ensures.found.may in
    fitting_are 0 c.in-Ok.found.function.now.params.items c.args.invocation.now.args.now may.as_many c.requires.ready.parts.2 may.fitting

pub apply-requires-clause-comes : goal.apply-requires-clause-comes
apply-requires-clause-comes g c =
    let i = c.args.invocation.now in
    let m = c.args.moment.now in
    let cs = c.args.contracts.now in
    comes i m cs c.args.world.now c.in-Ok.found c.in-Ok.ensures.found
    (λ known sound. sym (c.in_default.ensures (costs_at m) cs.deployed.now.contracts known c.requires.callable.bounds_are sound.trees))
    (frame_seen c.frame_of-frame.result) (λ known. c.frame_of-frame.ensures) c.entries_come_to_something.ensures.calls c.requires.ready.parts c.requires.ready.sound.known c.requires.ready.sound.is_sound

pub returns-clause-ended : goal.returns-clause-ended
returns-clause-ended g c =
    let i = c.args.invocation.now in
    let m = c.args.moment.now in
    let cs = c.args.contracts.now in
    ok_also c.apply.result _ _
    (λ e ended. ends i m cs c.args.world.now c.in-Ok.found c.in-Ok.ensures.found
    (λ known sound. sym (c.in_default.ensures (costs_at m) cs.deployed.now.contracts known c.requires.callable.bounds_are sound.trees))
    (frame_seen c.frame_of-frame.result) (λ known. c.frame_of-frame.ensures) e c.apply.new.world ended)
    c.apply.ensures.ended

pub returns-clause-seen : goal.returns-clause-seen
returns-clause-seen g c =
    let i = c.args.invocation.now in
    let m = c.args.moment.now in
    let cs = c.args.contracts.now in
    sees_ended i m cs c.args.world.now c.in-Ok.found c.in-Ok.ensures.found
    (λ known sound. sym (c.in_default.ensures (costs_at m) cs.deployed.now.contracts known c.requires.callable.bounds_are sound.trees))
    (frame_seen c.frame_of-frame.result) (λ known. c.frame_of-frame.ensures) c.apply.new.world (g.W.Watch.seen c.args.watch.now) (g.W.Watch.seen c.apply.new.watch) c.apply.result c.apply.ensures.ended c.apply.ensures.seen
