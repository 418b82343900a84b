use Rattle.std.specs.List.{Any}
use Rattle.std.proofs.lemmas.List.Sorted.{All-permutation}
use Rattle.cl_listeners.specs.Hearing.{WentDeaf}
use Rattle.cl_listeners.proofs.Parting.{nothing_told, no_events_told, more_told, each_stays, each_leaves, numbers_by}
use Rattle.cl_listeners.proofs.laws.events_told_in_turn.Goals as goal

pub returns-clause-nothing : goal.returns-clause-nothing
returns-clause-nothing c = nothing_told

pub returns-clause-silence : goal.returns-clause-silence
returns-clause-silence c = no_events_told

pub returns-clause-more : goal.returns-clause-more
returns-clause-more c = more_told

pub returns-clause-prefix : goal.returns-clause-prefix
returns-clause-prefix c events before now t =
    (each_stays events t.parted, t.gone, t.deaf, All-permutation (λ l. Any (λ b. WentDeaf events b l) before.active) t.left t.gone t.same (each_leaves events t.parted))

pub returns-clause-everyone : goal.returns-clause-everyone
returns-clause-everyone c events before now t = numbers_by events before now t.left t.gone t.parted t.same t.deaf
