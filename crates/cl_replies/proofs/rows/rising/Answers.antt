use Rattle.std.proofs.Common.{ℕ, Vec, Global}
use Rattle.std.specs.Cmp.Lexicographic.{texts_ties}
use Rattle.std.proofs.lemmas.List.Filters.{dedup_is}
use Rattle.cl_lines.proofs.LineOrder.{set_of_sorted}
use Rattle.cl_replies.proofs.rows.rising.Goals as goal

pub returns : goal.returns
returns c =
    set_of_sorted (λ (line : Vec ℕ Global). line.items) _ (λ x y. texts_ties x.items y.items)
    c.args.lines.items c.sort.new.self.items c.dedup.new.self.items c.in_ok-sort.ensures.permutation c.in_ok-sort.ensures.sorted
    (dedup_is _ _ _ c.dedup.ensures.filtered)
