use Rattle.std.proofs.Common.{◌<◌, ◌≤◌, ◌∙◌, ◌∷◌, ◌++◌, [], length, ap, arith}
use Rattle.std.proofs.lemmas.Result.{err_from_is_err_and}
use Rattle.cl_audit_walk.proofs.Applying.{binds_turn, binds_unpaid, binds_not, binds_past, binds_short, binds_end}
use Rattle.cl_audit_walk.proofs.calls.bind.Goals as goal

pub returns-then-place-params-clause-bound : goal.returns-then-place-params-clause-bound
returns-then-place-params-clause-bound c body r x same handed =
    let past : length c.args.params.now ≤ c.loop-place.place = omega arith in
    let here : c.loop-place.place < length c.args.values.now = omega arith in
    binds_past c.args.scope.now c.args.params.now c.args.values.now _ _ _ _ _ past here c.index-values-place.is c.loop-place.invariant.leads body r x same handed

pub returns-in_err-pay-clause-bound : goal.returns-in_err-pay-clause-bound
returns-in_err-pay-clause-bound c =
    let few : c.loop-place.place < length c.args.params.now = omega arith in
    let here : c.loop-place.place < length c.args.values.now = omega arith in
    binds_not c.args.scope.now c.args.params.now c.args.values.now _ _ _ _ (err_from_is_err_and c.from_residual.result c.from_residual.ensures.1) (binds_unpaid c.args.scope.now c.args.params.now c.args.values.now _ _ _ _ _ _ _ _ _ few c.index-params-place.is here c.index-values-place.is c.of.ensures c.in_err-pay.ensures c.loop-place.invariant.leads)

pub loop-place-preserved : goal.loop-place-preserved
loop-place-preserved c =
    let few : c.loop-place.place < length c.args.params.now = omega arith in
    let here : c.loop-place.place < length c.args.values.now = omega arith in
    record {
      leads = binds_turn c.args.scope.now c.args.params.now c.args.values.now _ _ _ _ _ _ _ _ _ _ few c.index-params-place.is here c.index-values-place.is c.of.ensures (c.in_ok-push.ensures.added ∙ ap (λ v. c.loop-place.own ++ (c.index-params-place.result.0, v) ∷ []) c.in_ok-copy.ensures) c.in_ok-pay.ensures c.loop-place.invariant.leads;
      world = c.in_ok-pay.ensures.world ∙ c.loop-place.invariant.world;
    }

pub returns-then-values-params-clause-bound : goal.returns-then-values-params-clause-bound
returns-then-values-params-clause-bound c body r x same handed =
    let few : c.loop-place.place < length c.args.params.now = omega arith in
    let past : length c.args.values.now ≤ c.loop-place.place = omega arith in
    binds_short c.args.scope.now c.args.params.now c.args.values.now _ _ _ _ past few c.loop-place.invariant.leads body r x same handed

pub returns-clause-bound : goal.returns-clause-bound
returns-clause-bound c body r end e =
    let full : length c.args.params.now ≤ c.loop-place.place = omega arith in
    let past : length c.args.values.now ≤ c.loop-place.place = omega arith in
    binds_end c.args.scope.now c.args.params.now c.args.values.now _ _ _ _ full past c.loop-place.invariant.leads body r end e
