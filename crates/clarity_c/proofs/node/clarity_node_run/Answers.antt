use Rattle.std.proofs.Common.{◌≡◌, Some}
use Rattle.cl_exports.specs.Nodes.{RunEnds}
use Rattle.clarity_c.proofs.Numbers.{on_open}
use Rattle.clarity_c.proofs.node.clarity_node_run.Goals as goal

pub returns : goal.returns
returns c =
    let opens : c.args.node.now.kept ≡ Some c.deref_mut.result.now = cc (c.in-Some.ensures, c.replace.ensures.value, c.deref_mut.ensures.value) in
    on_open (RunEnds c.args.file.now) c.number_of.result c.args.node.now.kept c.from_box.result.kept c.deref_mut.result.now c.run-outcome.new.session c.run-outcome.result opens c.from_box.ensures c.number_of.ensures c.run-outcome.ensures
