use Rattle.std.proofs.Common.{◌≡◌, ◌++◌, ◌∷◌, [], ap, ◌∙◌, arith}
use Rattle.std.specs.List.{sum_by}
use Rattle.std.proofs.lemmas.List.Sums.{sum_by_push}
use Rattle.cl_tx.specs.declared.outcome.TxResult.{TxResult}
use Rattle.cl_workload.specs.Summary.{Counts, ok_of, err_of, runtime_of}
use Rattle.cl_workload.proofs.Counting.{oks, errs, runtimes}
use Rattle.cl_workload.proofs.tally.Tally.add.Goals as goal

pub returns : goal.returns
returns c results small old =
    let r = c.args.given.now in
    let was = c.self.view_is ∙ old in
    let ok_was = ap (λ (k : Counts). k.ok) was in
    let err_was = ap (λ (k : Counts). k.err) was in
    let runtime_was = ap (λ (k : Counts). k.runtime) was in
    let ok_sum = sum_by_push (λ (x : TxResult). ok_of x.outcome) results r in
    let err_sum = sum_by_push (λ (x : TxResult). err_of x.outcome) results r in
    let runtime_sum = sum_by_push (λ (x : TxResult). runtime_of x.cost) results r in
    let ok : c.saturating_add-self-inside.result ≡ sum_by (λ (x : TxResult). ok_of x.outcome) (results ++ r ∷ []) = omega (arith, ok_sum, oks results r small, ok_was, c.saturating_add-self-inside.ensures, c.ok_of.ensures) in
    let err : c.saturating_add-self-inside-2.result ≡ sum_by (λ (x : TxResult). err_of x.outcome) (results ++ r ∷ []) = omega (arith, err_sum, errs results r small, err_was, c.saturating_add-self-inside-2.ensures, c.err_of.ensures) in
    let runtime : c.saturating_add-self-inside-3.result ≡ sum_by (λ (x : TxResult). runtime_of x.cost) (results ++ r ∷ []) = omega (arith, runtime_sum, runtimes results r small, runtime_was, c.saturating_add-self-inside-3.ensures, c.runtime_of.ensures) in
    λ i. record { ok = ok i; err = err i; runtime = runtime i }
