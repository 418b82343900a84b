use Rattle.std.proofs.Common.{◌∙◌, ap, sym, take}
use Rattle.std.specs.Prelude.{◌||◌}
use Rattle.std.specs.List.{list_any}
use Rattle.std.proofs.lemmas.List.Folds.{list_any_more}
use Rattle.cl_tables.specs.Spots.{is_entry_at}
use Rattle.cl_tables.proofs.grafts.fronts_of.Goals as goal

pub loop-i-preserved : goal.loop-i-preserved
loop-i-preserved c key =
    c.in_ok-add_front.ensures key ∙ ap (λ b. b || is_entry_at key c.index-spots-i.result) (c.loop-i.invariant key)
    ∙ ap (λ s. list_any (is_entry_at key) (take c.loop-i.i c.args.spots.now) || is_entry_at key s) c.index-spots-i.is
    ∙ sym (list_any_more (is_entry_at key) c.args.spots.now c.loop-i.i c.index-spots-i.result c.loop-i-test.true)
