use Rattle.std.proofs.Common.{◌≡◌, ℕ, ap, ◌∙◌, string_bytes}
use Rattle.cl_events.specs.State.{State}
use Rattle.cl_state.specs.Stack.{Stack}
use Rattle.cl_workload.specs.Summary.{coins, supply_of, balance_of, summary_line}
use Rattle.cl_replies.proofs.Counted.{is_summary}
use Rattle.cl_replies.proofs.generated.workload_line.Goals as goal

pub returns : goal.returns
returns c =
    let n = c.run_workload.new.node in
    let tally = c.in_ok-tally.tally in
    let counted = c.in_ok-tally.ensures in
    let top : c.world-world.result.now.stack.top ≡ n.state = ap (λ (stack : Stack). stack.top) c.world-world.ensures.stack in
    is_summary c.args.seed c.args.count counted.0 tally n (string_bytes c.in_ok-summary.field-0) counted.1
    (c.in_ok-summary.ensures ∙ ap (λ (supply : ℕ). summary_line c.args.count tally supply c.in_ok-held.held) (c.supply.ensures ∙ ap (λ (s : State). supply_of (coins s)) top)
    ∙ ap (λ (held : ℕ). summary_line c.args.count tally (supply_of (coins n.state)) held) (c.in_ok-held.ensures ∙ ap (λ (s : State). balance_of (coins s)) top))
