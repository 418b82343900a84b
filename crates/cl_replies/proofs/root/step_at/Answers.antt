use Rattle.cl_replies.proofs.SteppedFiles.{follows, reached_next}
use Rattle.cl_replies.proofs.root.step_at.Goals as goal

pub step-requires : goal.step-requires
step-requires c = record {
  rises = follows c.args.costs.now c.args.file.now c.heights_are_those_of_the_file.ensures c.entries-entries.result.now c.args.place c.args.node.now c.index-entries-place.result c.entries-entries.ensures.value c.requires.here
      c.index-entries-place.is c.entries-entries.ensures.rising c.requires.before;
}

pub returns : goal.returns
returns c =
    reached_next c.args.costs.now c.args.file.now c.nodes_are_known_in_one_way.ensures c.entries-entries.result.now c.args.place c.args.node.now c.step.new.self c.index-entries-place.result c.in_ok-given.given
    c.entries-entries.ensures.value c.requires.here c.index-entries-place.is c.step.ensures.parts c.in_ok-given.ensures.steps c.requires.before
