use Rattle.std.proofs.Common.{Some, None, ◌++◌, List, ap, sym, ◌∙◌, append-nil}
use Rattle.std.proofs.lemmas.Result.{on_ok_weaker}
use Rattle.cl_rules.specs.Context.{known_at}
use Rattle.cl_contracts.specs.Seen.{forms_of}
use Rattle.cl_tx.specs.Rebounds.{functions_of}
use Rattle.cl_tx.specs.declared.outcome.Rebound.{Rebound}
use Rattle.cl_bound.proofs.Reaching.{functions_kept, is_shown, no_lines, none_kept}
use Rattle.cl_bound.proofs.block.push_contract.Goals as goal

pub returns-in-Some : goal.returns-in-Some
returns-in-Some c =
    rw (← c.parts-own.ensures) (on_ok_weaker c.push_lines.result (λ pushed table callers shows returns.
    let k = known_at c.parts-own.result.now.principal callers in
    pushed table (functions_of k) (functions_kept table k c.in-Some.bounds.now (is_shown table callers c.args.known.now.contracts.entries c.parts-own.result.now.principal shows (Some c.in-Some.bounds.now) c.in-Some.ensures.value)) returns) c.push_lines.ensures)

pub returns-in-None : goal.returns-in-None
returns-in-None c = rw (← c.parts-own.ensures) (λ table callers shows returns.
    let k = known_at c.parts-own.result.now.principal callers in
    let none = none_kept table k (is_shown table callers c.args.known.now.contracts.entries c.parts-own.result.now.principal shows None c.in-None.ensures.value) in
    sym (append-nil c.args.lines.now.items)
    ∙ ap (λ (more : List Rebound). c.args.lines.now.items ++ more) (sym (no_lines table c.parts-own.result.now.principal (functions_of k) none (forms_of c.parts-own.result.now))))
