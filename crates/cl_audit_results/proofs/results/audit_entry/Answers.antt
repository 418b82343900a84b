use Rattle.std.proofs.Common.{◌≡◌, ◌≤◌, List, length, w32, refl, ap, subst, arith}
use Rattle.std.proofs.Math.Facts.{Fits-of_lt}
use Rattle.cl_audit.specs.declared.agreeing.Agreement.{Agreement}
use Rattle.cl_audit.specs.declared.agreeing.Agreement.TheVariants.{DiffersAt}
use Rattle.cl_audit_walk.specs.declared.cursor.Claim.{Claim}
use Rattle.cl_audit_entries.specs.Agreeing.{AgreesWith}
use Rattle.cl_audit_results.proofs.Here.{difference_within}
use Rattle.cl_audit_results.proofs.results.audit_entry.Goals as goal

pub overflow_cast-result : goal.overflow_cast-result
overflow_cast-result c =
    let agrees = subst (λ (a : Agreement). AgreesWith c.args.costs.now c.args.node.now c.args.entry.now c.in_ok-audited.audited.result.outcome c.deref.result.now a) c.in-DiffersAt.is c.in_ok-audited.ensures.agrees in
    let within : c.in-DiffersAt.place ≤ length c.deref.result.now = difference_within agrees.told c.deref.result.now c.in-DiffersAt.place agrees.agrees in
    let size : length c.deref.result.now ≡ length c.args.trace.now.claims.items = ap length c.deref.ensures.value in
    Fits-of_lt {w = w32} {n = c.in-DiffersAt.place} (omega (arith, within, size, c.requires.few))

pub returns-in-DiffersAt-clause-refused : goal.returns-in-DiffersAt-clause-refused
returns-in-DiffersAt-clause-refused c =
    let agrees = subst (λ (a : Agreement). AgreesWith c.args.costs.now c.args.node.now c.args.entry.now c.in_ok-audited.audited.result.outcome c.deref.result.now a) c.in-DiffersAt.is c.in_ok-audited.ensures.agrees in (
      refl,
      record {
        result = c.in_ok-audited.audited.result;
        after = c.step.new.self;
        makes = c.in_ok-audited.ensures.steps;
        agrees = subst (λ (cs : List Claim). AgreesWith c.args.costs.now c.args.node.now c.args.entry.now c.in_ok-audited.audited.result.outcome cs (DiffersAt c.in-DiffersAt.place)) c.deref.ensures.value agrees;
      },
    )
