use Rattle.std.proofs.Common.{true, subst}
use Rattle.std.specs.BTreeSet.{UpdatesBy}
use Rattle.cl_post.specs.Holdings.{parts_cmp}
use Rattle.cl_post.proofs.Kept.{named_more}
use Rattle.cl_post.proofs.named.add_condition.Goals as goal

pub returns : goal.returns
returns c later before =
    named_more c.args.condition.now later c.args.named.now c.insert.new.self before
    (subst (λ k. UpdatesBy parts_cmp (parts_cmp k) c.args.named.now c.insert.new.self true) c.new.ensures c.in_ok-insert.ensures.updates)
