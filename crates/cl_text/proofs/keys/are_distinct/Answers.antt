use Rattle.std.proofs.Common.{ℕ, ◌-◌, List, drop, arith, ap, sym, ◌∙◌}
use Rattle.std.specs.List.{list_any}
use Rattle.std.specs.Str.{bytes_eq}
use Rattle.cl_text.specs.Literal.{are_distinct}
use Rattle.cl_text.proofs.Distinct.{from_place, kept_more, distinct_more, distinct_from}
use Rattle.cl_text.proofs.keys.are_distinct.Goals as goal

pub loop-i-preserved : goal.loop-i-preserved
loop-i-preserved c =
    let from = from_place c.args.keys.now c.loop-i.i c.index-keys-i.result (omega arith) (omega arith) c.index-keys-i.is in
    let rest : List (List ℕ) = drop c.loop-i.i c.args.keys.now in
    record {
      distinct = ap are_distinct from
          ∙ (distinct_more c.loop-i.behind c.index-keys-i.result rest c.loop-i.invariant.kept c.loop-i.invariant.distinct
          ∙ (sym c.in_ok-insert.ensures.added ∙ c.if-not-branch.false));
      kept = λ q. kept_more c.loop-i.behind c.insert.new.self c.index-keys-i.result rest c.loop-i.invariant.kept c.in_ok-insert.ensures.updates.0 q
          ∙ ap (λ (ks : List (List ℕ)). list_any (bytes_eq q) ks) (sym from);
    }

pub returns-then-not-branch : goal.returns-then-not-branch
returns-then-not-branch c =
    let from = from_place c.args.keys.now c.loop-i.i c.index-keys-i.result (omega arith) (omega arith) c.index-keys-i.is in
    let rest : List (List ℕ) = drop c.loop-i.i c.args.keys.now in
    sym (distinct_from c.args.keys.now (c.loop-i.i - 1) (ap are_distinct from
    ∙ (distinct_more c.loop-i.behind c.index-keys-i.result rest c.loop-i.invariant.kept c.loop-i.invariant.distinct
    ∙ (sym c.in_ok-insert.ensures.added ∙ c.if-not-branch.true))))
