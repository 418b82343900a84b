use Rattle.std.proofs.Common.{◌≡◌, ◌∙◌, sym, subst}
use Rattle.std.specs.Prelude.{Some}
use Rattle.std.specs.BTreeMap.{get, UpdatesBy}
use Rattle.cl_post.specs.Post.{fitting}
use Rattle.cl_post.specs.Holdings.{parts_cmp, sum_found}
use Rattle.cl_post.proofs.Kept.{sums_more}
use Rattle.cl_post.proofs.moved.add_move.Goals as goal

pub returns : goal.returns
returns c later before =
    let made = c.args.made.now in
    let old = c.args.sums.now in
    sums_more made later old c.insert.new.self c.added-sum.result before
    (subst (λ k. UpdatesBy parts_cmp (parts_cmp k) old c.insert.new.self (Some c.added-sum.result)) c.new-holding.ensures c.in_ok-insert.ensures.updates)
    (λ n is. c.added-sum.ensures n (c.sum_in.ensures ∙ (subst (λ k. sum_found (get parts_cmp old k) ≡ fitting n) (sym c.new-holding.ensures) is)))
