use Rattle.std.proofs.Common.{◌≤◌, ◌<◌, length, ◌∙◌, ap, Err, arith}
use Rattle.cl_types.proofs.Faults.{refused_so}
use Rattle.cl_file.proofs.Handed.{ok_so, refuses_so}
use Rattle.cl_file.proofs.Chain.{then_ok, then_err}
use Rattle.cl_file.proofs.ReadEquations.{epochs_is}
use Rattle.cl_file.proofs.Tests.{tested_yes, tested_no, at_most, more_than}
use Rattle.cl_file.proofs.file.epochs_of.Goals as goal

pub returns-then-list-gt-MOST_EPOCHS-clause-broken : goal.returns-then-list-gt-MOST_EPOCHS-clause-broken
returns-then-list-gt-MOST_EPOCHS-clause-broken c v =
    let above : 64 < length c.args.list.now = omega (arith, c.if-list-gt-MOST_EPOCHS.true) in
    refused_so c.bad_value.result _ _ (λ r h. epochs_is _ _ ∙ then_err _ _ _ (tested_no _ _ (more_than 64 _ above)) ∙ ap Err h) c.bad_value.ensures

pub returns-clause-found : goal.returns-clause-found
returns-clause-found c v =
    let below : length c.args.list.now ≤ 64 = omega (arith, c.if-list-gt-MOST_EPOCHS.false) in
    ok_so c.epochs.result (λ es h. epochs_is _ _ ∙ then_ok _ _ _ (tested_yes _ _ (at_most 64 _ below)) ∙ h) (c.epochs.ensures.found v)

pub returns-clause-broken : goal.returns-clause-broken
returns-clause-broken c v =
    let below : length c.args.list.now ≤ 64 = omega (arith, c.if-list-gt-MOST_EPOCHS.false) in
    refuses_so c.epochs.result (λ r h. epochs_is _ _ ∙ then_ok _ _ _ (tested_yes _ _ (at_most 64 _ below)) ∙ h) (c.epochs.ensures.broken v)

pub returns-clause-few : goal.returns-clause-few
returns-clause-few c = ok_so c.epochs.result (λ es n. omega (arith, n, c.if-list-gt-MOST_EPOCHS.false)) c.epochs.ensures.count

pub returns-clause-rising : goal.returns-clause-rising
returns-clause-rising c = c.epochs.ensures.rising
