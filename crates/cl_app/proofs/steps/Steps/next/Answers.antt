use Rattle.cl_app.proofs.Stepping.{entries_next_so, traces_next_so}
use Rattle.cl_app.proofs.steps.Steps.next.Goals as goal

pub returns-in-Entries-clause-next : goal.returns-in-Entries-clause-next
returns-in-Entries-clause-next c = entries_next_so c.in-Entries.entries c.next.new.self c.args.self.now c.next.result c.in-Entries.is c.next.ensures.next

pub returns-in-Traces-clause-next : goal.returns-in-Traces-clause-next
returns-in-Traces-clause-next c = traces_next_so c.in-Traces.traces c.next-in-Traces.new.self c.args.self.now c.next-in-Traces.result c.in-Traces.is c.next-in-Traces.ensures.next
