use Rattle.std.proofs.Common.{◌≤◌, ◌<◌, length, ◌∙◌, arith}
use Rattle.cl_file.proofs.Handed.{ok_so, refuses_so}
use Rattle.cl_file.proofs.Chain.{then_ok, then_err}
use Rattle.cl_file.proofs.ReadEquations.{entries_is}
use Rattle.cl_file.proofs.Tests.{tested_yes, tested_no, at_most, more_than}
use Rattle.cl_file.proofs.file.entries_of.Goals as goal

pub returns-then-list-gt-MOST_ENTRIES-clause-broken : goal.returns-then-list-gt-MOST_ENTRIES-clause-broken
returns-then-list-gt-MOST_ENTRIES-clause-broken c v =
    let above : 100000 < length c.args.list.now = omega (arith, c.if-list-gt-MOST_ENTRIES.true) in
    entries_is _ _ ∙ then_err _ _ _ (tested_no _ _ (more_than 100000 _ above))

pub returns-clause-found : goal.returns-clause-found
returns-clause-found c v =
    let below : length c.args.list.now ≤ 100000 = omega (arith, c.if-list-gt-MOST_ENTRIES.false) in
    ok_so c.entries.result (λ es h. entries_is _ _ ∙ then_ok _ _ _ (tested_yes _ _ (at_most 100000 _ below)) ∙ h) (c.entries.ensures.found v)

pub returns-clause-broken : goal.returns-clause-broken
returns-clause-broken c v =
    let below : length c.args.list.now ≤ 100000 = omega (arith, c.if-list-gt-MOST_ENTRIES.false) in
    refuses_so c.entries.result (λ r h. entries_is _ _ ∙ then_ok _ _ _ (tested_yes _ _ (at_most 100000 _ below)) ∙ h) (c.entries.ensures.broken v)

pub returns-clause-few : goal.returns-clause-few
returns-clause-few c = ok_so c.entries.result (λ es n. omega (arith, n, c.if-list-gt-MOST_ENTRIES.false)) c.entries.ensures.count

pub returns-clause-rising : goal.returns-clause-rising
returns-clause-rising c = c.entries.ensures.rising
