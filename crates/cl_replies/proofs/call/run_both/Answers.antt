use Rattle.cl_replies.proofs.Called.{both_end, first_may, second_may}
use Rattle.cl_replies.proofs.call.run_both.Goals as goal

pub end_entry-requires : goal.end_entry-requires
end_entry-requires c = first_may c.heights_are_those_of_the_file.ensures c.args.costs.now c.args.first.now c.args.second.now c.args.node.now c.requires.first c.requires.rising

pub end_entry-requires-2 : goal.end_entry-requires-2
end_entry-requires-2 c =
    second_may c.heights_are_those_of_the_file.ensures c.nodes_are_known_in_one_way.ensures c.args.costs.now c.args.first.now c.args.second.now c.args.node.now c.end_entry.new.node c.in_ok-deployed.deployed.end c.in_ok-deployed.deployed.text.items
    c.requires.first c.requires.rising c.in_ok-deployed.ensures

pub returns : goal.returns
returns c =
    both_end c.nodes_are_known_in_one_way.ensures c.args.costs.now c.args.first.now c.args.second.now c.args.node.now c.end_entry.new.node c.end_entry-2.new.node
    (record { deployed = c.in_ok-deployed.deployed; called = c.in_ok-called.called }) c.requires.first c.in_ok-deployed.ensures c.in_ok-called.ensures
