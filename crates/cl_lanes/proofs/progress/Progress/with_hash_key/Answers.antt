use Rattle.std.proofs.Common.{List, length, Option, refl, sym, ap, subst, ◌∙◌, arith}
use Rattle.cl_tables.specs.declared.spot.Spot.{Spot}
use Rattle.cl_tx.specs.declared.outcome.TxResult.{TxResult}
use Rattle.cl_lanes.specs.declared.held.Held.{Held}
use Rattle.cl_lanes.specs.Held.{AreLanes, lanes_seen}
use Rattle.cl_lanes.proofs.LanesKept.{none_there, none_seen}
use Rattle.cl_lanes.proofs.progress.Progress.with_hash_key.Goals as goal

pub invariant_of-result : goal.invariant_of-result
invariant_of-result c =
    subst (λ (x : List TxResult × List (Option (List Spot)) × List (Option Held)). AreLanes c.in_ok-node.node (length x.0) x.1 x.2) (λ i. (sym c.new.ensures.items i, sym c.new-2.ensures.items i, sym c.in_ok-held.ensures i)) (record {
      as_many = refl;
      few = omega arith;
      each = λ lane h is. absurd (none_there c.args.lanes lane h is);
    })

pub returns : goal.returns
returns c = λ i. record {
  node = c.in_ok-node.ensures.first i;
  results = c.new.ensures.items i;
  wrote = c.new-2.ensures.items i;
  held = (ap lanes_seen c.in_ok-held.ensures ∙ none_seen c.args.lanes) i;
  redone = 0;
  skipped = 0;
}
