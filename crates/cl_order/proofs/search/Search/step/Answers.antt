use Rattle.std.proofs.Common.{◌≡◌, refl, arith, ◌∙◌, ◌+◌, ◌<◌, ◌≤◌, [], ◌∷◌, length, Err}
use Rattle.cl_order.specs.Search.{answer, Begins, Steps}
use Rattle.cl_order.proofs.Stepping.{taken, stepped, ended, end_stored, ok_so, refused_so}
use Rattle.cl_order.proofs.search.Search.step.Goals as goal

pub begin-requires-clause-there : goal.begin-requires-clause-there
begin-requires-clause-there c =
    let some : c.in-Some.frame.visited < length c.in-Some.frame.named.items = omega (arith, c.len.ensures, c.in-Some.frame.named.ok.0) in
    let t = taken c.args.forms.now c.args.self.now (record { states = c.args.self.now.states; path = c.push.new.self; done = c.args.self.now.done }) c.pop.new.self.items c.in-Some.frame (record { place = c.in-Some.frame.place; named = c.in-Some.frame.named; visited = c.in-Some.frame.visited + 1 }) c.index-place.result.now
    c.requires.sound c.in-Some.ensures.items c.in_ok-push.ensures.items refl refl refl some c.index-place.ensures refl refl in
    t.low

pub begin-requires-clause-sound : goal.begin-requires-clause-sound
begin-requires-clause-sound c =
    let some : c.in-Some.frame.visited < length c.in-Some.frame.named.items = omega (arith, c.len.ensures, c.in-Some.frame.named.ok.0) in
    let t = taken c.args.forms.now c.args.self.now (record { states = c.args.self.now.states; path = c.push.new.self; done = c.args.self.now.done }) c.pop.new.self.items c.in-Some.frame (record { place = c.in-Some.frame.place; named = c.in-Some.frame.named; visited = c.in-Some.frame.visited + 1 }) c.index-place.result.now
    c.requires.sound c.in-Some.ensures.items c.in_ok-push.ensures.items refl refl refl some c.index-place.ensures refl refl in
    t.sound

pub returns-in_ok-push-clause-stepped : goal.returns-in_ok-push-clause-stepped
returns-in_ok-push-clause-stepped c =
    let some : c.in-Some.frame.visited < length c.in-Some.frame.named.items = omega (arith, c.len.ensures, c.in-Some.frame.named.ok.0) in
    let t = taken c.args.forms.now c.args.self.now (record { states = c.args.self.now.states; path = c.push.new.self; done = c.args.self.now.done }) c.pop.new.self.items c.in-Some.frame (record { place = c.in-Some.frame.place; named = c.in-Some.frame.named; visited = c.in-Some.frame.visited + 1 }) c.index-place.result.now
    c.requires.sound c.in-Some.ensures.items c.in_ok-push.ensures.items refl refl refl some c.index-place.ensures refl refl in
    ok_so c.begin.result (Begins c.args.forms.now (record { states = c.args.self.now.states; path = c.push.new.self; done = c.args.self.now.done }) c.index-place.result.now c.begin.new.self) (Steps c.args.forms.now c.args.self.now c.begin.new.self)
    (λ b. stepped c.args.forms.now c.args.self.now (record { states = c.args.self.now.states; path = c.push.new.self; done = c.args.self.now.done }) c.begin.new.self c.index-place.result.now t b) c.begin.ensures.begun

pub returns-in_ok-push-clause-cycle : goal.returns-in_ok-push-clause-cycle
returns-in_ok-push-clause-cycle c =
    let some : c.in-Some.frame.visited < length c.in-Some.frame.named.items = omega (arith, c.len.ensures, c.in-Some.frame.named.ok.0) in
    let t = taken c.args.forms.now c.args.self.now (record { states = c.args.self.now.states; path = c.push.new.self; done = c.args.self.now.done }) c.pop.new.self.items c.in-Some.frame (record { place = c.in-Some.frame.place; named = c.in-Some.frame.named; visited = c.in-Some.frame.visited + 1 }) c.index-place.result.now
    c.requires.sound c.in-Some.ensures.items c.in_ok-push.ensures.items refl refl refl some c.index-place.ensures refl refl in
    refused_so c.begin.result (λ cycle. answer c.args.forms.now (record { states = c.args.self.now.states; path = c.push.new.self; done = c.args.self.now.done }) (c.index-place.result.now ∷ []) ≡ Err cycle.items) (λ cycle. answer c.args.forms.now c.args.self.now [] ≡ Err cycle.items)
    (λ cycle h. t.same ∙ h) c.begin.ensures.cycle

pub index_mut-requires : goal.index_mut-requires
index_mut-requires c =
    let stored : c.in-Some.frame.place < length c.args.self.now.states.items = end_stored c.args.forms.now c.args.self.now c.pop.new.self.items c.in-Some.frame c.requires.sound c.in-Some.ensures.items in
    omega (arith, c.args.self.now.states.ok.0)

pub returns-in_ok-push-2-clause-stepped : goal.returns-in_ok-push-2-clause-stepped
returns-in_ok-push-2-clause-stepped c =
    let all : length c.in-Some.frame.named.items ≤ c.in-Some.frame.visited = omega (arith, c.len.ensures, c.in-Some.frame.named.ok.0) in
    ended c.args.forms.now c.args.self.now _ c.pop.new.self.items c.in-Some.frame c.requires.sound c.in-Some.ensures.items refl all refl c.in_ok-push-2.ensures.items
