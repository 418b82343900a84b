use Rattle.std.proofs.Common.{◌≡◌, ap, subst, sym}
use Rattle.cl_costs.specs.Tables.{function_of}
use Rattle.cl_meaning.specs.Kept.{Kept, Whole}
use Rattle.cl_file.specs.declared.entry.Entry.{Entry}
use Rattle.cl_node_sound.specs.Sound.{HasParts}
use Rattle.cl_contracts.specs.Seen.{deployed_seen}
use Rattle.cl_nodes.specs.Asked.{call_entry}
use Rattle.cl_nodes.specs.Seen.{Seen, seen}
use Rattle.cl_nodes.specs.Steps.{Makes}
use Rattle.cl_engine.specs.contracts.node.Node.{the_view}
use Rattle.cl_engine.proofs.Trials.{trial_made, trial_kept}
use Rattle.cl_engine.proofs.node.Node.trial.Goals as goal

pub returns-clause-makes : goal.returns-clause-makes
returns-clause-makes c =
    let after : Seen = seen c.in_ok-trial.trial.world.stack.top (deployed_seen c.self.inside.contracts.deployed) c.self.inside.height in
    let is : call_entry c.in-Call.invocation ≡ c.args.entry.now = c.in-Call.ensures in
    subst (λ (n : Seen). Makes c.args.costs.now n c.args.entry.now c.in_ok-trial.trial.result (record n { state = c.in_ok-trial.trial.world.stack.top })) c.self.view_is
    (subst (λ (e : Entry). Makes c.args.costs.now (the_view c.self.inside) e c.in_ok-trial.trial.result after) is
    (trial_made c.args.costs.now c.self.inside.contracts.deployed.contracts (the_view c.self.inside) after (function_of c.at.result.now) (ap function_of c.at.ensures) c.self.invariant.sound
    (call_entry c.in-Call.invocation) tt c.in_ok-trial.trial.result c.in_ok-trial.ensures.tried))

pub returns-clause-kept : goal.returns-clause-kept
returns-clause-kept c =
    let after : Seen = seen c.in_ok-trial.trial.world.stack.top (deployed_seen c.self.inside.contracts.deployed) c.self.inside.height in
    let is : call_entry c.in-Call.invocation ≡ c.args.entry.now = c.in-Call.ensures in
    subst (λ (n : Seen). Kept n.contracts Whole c.in_ok-trial.trial.world.stack.top) c.self.view_is
    (trial_kept c.args.costs.now c.self.inside.contracts.deployed.contracts (the_view c.self.inside) after (function_of c.at.result.now) (ap function_of c.at.ensures) c.self.invariant.sound
    c.nodes_stay_sound.ensures.stay (call_entry c.in-Call.invocation) tt (subst HasParts (sym is) c.has_parts.ensures) c.in_ok-trial.trial.result c.in_ok-trial.ensures.tried)
