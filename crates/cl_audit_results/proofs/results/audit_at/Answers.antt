use Rattle.std.proofs.Common.{◌≡◌, List, get_or, subst}
use Rattle.cl_file.specs.declared.entry.Entry.{Entry}
use Rattle.cl_audit_results.proofs.Here.{audited_here}
use Rattle.cl_audit_results.proofs.results.audit_at.Goals as goal

pub returns-clause-right : goal.returns-clause-right
returns-clause-right c =
    let entry_is = subst (λ (es : List Entry). c.index-entries-at.result ≡ get_or es c.args.at c.index-entries-at.result) c.entries.ensures.value c.index-entries-at.is in
    audited_here c.audit_entry.result c.args.costs.now c.args.node.now c.args.file.now.entries c.args.traces.now c.args.at c.audit_entry.new.node c.index-entries-at.result c.index-traces-at.result c.requires.here c.requires.given entry_is c.index-traces-at.is c.audit_entry.ensures.right
