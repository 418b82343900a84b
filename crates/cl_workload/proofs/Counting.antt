-- One more result in the counts.
use Rattle.std.proofs.Common.{ℕ, ◌+◌, ◌*◌, ◌^◌, ◌≤◌, List, [], ◌∷◌, ◌++◌, All, arith}
use Rattle.std.specs.List.{sum_by}
use Rattle.std.proofs.lemmas.List.Elements.{All-weaker}
use Rattle.std.proofs.lemmas.List.Sums.{sum_by_push, sum_by-le}
use Rattle.cl_tx.specs.declared.outcome.Outcome.{Outcome}
use Rattle.cl_tx.specs.declared.outcome.Outcome.TheVariants.{Moved, Done, Good, Bad, Plain, Aborted, Refused}
use Rattle.cl_tx.specs.declared.outcome.TxResult.{TxResult}
use Rattle.cl_workload.specs.Summary.{ok_of, err_of, runtime_of, IsCheap, AreSmall}

ok_once : (o : Outcome) → ok_of o ≤ 1
ok_once Moved = omega arith
ok_once Done = omega arith
ok_once (Good v) = omega arith
ok_once (Bad v) = omega arith
ok_once (Plain v) = omega arith
ok_once (Aborted why) = omega arith
ok_once (Refused why) = omega arith

err_once : (o : Outcome) → err_of o ≤ 1
err_once Moved = omega arith
err_once Done = omega arith
err_once (Good v) = omega arith
err_once (Bad v) = omega arith
err_once (Plain v) = omega arith
err_once (Aborted why) = omega arith
err_once (Refused why) = omega arith

module _ (results : List TxResult) (r : TxResult) (small : AreSmall (results ++ r ∷ [])) where
  -- a sum of what is at most once for each result
  once : (f : TxResult → ℕ) → ((x : TxResult) → f x ≤ 1) → sum_by f results + f r ≤ 2 ^ 32
  once f most =
      let all : All (λ x. f x ≤ 1) (results ++ r ∷ []) = All-weaker IsCheap (λ x. f x ≤ 1) (λ x h. most x) (results ++ r ∷ []) small.cheap in
      let sum = sum_by-le f 1 (results ++ r ∷ []) all in
      let parts = sum_by_push f results r in
      omega (arith, sum, parts, small.few)

  pub oks : sum_by (λ (x : TxResult). ok_of x.outcome) results + ok_of r.outcome ≤ 2 ^ 32
  oks = once (λ x. ok_of x.outcome) (λ x. ok_once x.outcome)

  pub errs : sum_by (λ (x : TxResult). err_of x.outcome) results + err_of r.outcome ≤ 2 ^ 32
  errs = once (λ x. err_of x.outcome) (λ x. err_once x.outcome)

  pub runtimes : sum_by (λ (x : TxResult). runtime_of x.cost) results + runtime_of r.cost ≤ 2 ^ 32 * 2 ^ 64
  runtimes =
      let sum = sum_by-le (λ (x : TxResult). runtime_of x.cost) (2 ^ 64) (results ++ r ∷ []) small.cheap in
      let parts = sum_by_push (λ (x : TxResult). runtime_of x.cost) results r in
      omega (arith, sum, parts, small.few)
