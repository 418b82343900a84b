use Rattle.std.proofs.Common.{◌≡◌, Some}
use Rattle.cl_session.specs.Calls.{contract_in}
use Rattle.cl_exports.specs.Checking.{CheckEnds, version_of}
use Rattle.clarity_c.proofs.Numbers.{on_open}
use Rattle.clarity_c.proofs.node.clarity_node_check.Goals as goal

pub returns : goal.returns
returns c =
    let opens : c.args.node.now.kept ≡ Some c.deref_mut.result.now = cc (c.in-Some.ensures, c.replace.ensures.value, c.deref_mut.ensures.value) in
    on_open (CheckEnds (contract_in c.args.contract.now) (version_of c.args.version) c.args.source.now) c.number_of.result c.args.node.now.kept c.from_box.result.kept c.deref_mut.result.now c.check_source-outcome.new.session
    c.check_source-outcome.result opens c.from_box.ensures c.number_of.ensures c.check_source-outcome.ensures
