use Rattle.std.proofs.Common.{◌∙◌, ◌-◌, ap, sym, arith}
use Rattle.std.proofs.lemmas.List.{get_or_default}
use Rattle.cl_tables.specs.Covering.{covers}
use Rattle.cl_state.proofs.history.is_covered.Goals as goal

pub returns : goal.returns
returns c found =
    let notes = c.args.notes.now in
    let later = c.args.later.now in
    let place = c.args.number - 1 in
    record {
      number = place;
      from = omega (arith, c.if-number-low.false);
      within = omega (arith, c.if-number-low.false, c.if-number-notes.false);
      same =
          ap (λ n. covers n later) (get_or_default notes place later c.index-notes-place.result (omega (arith, c.if-number-low.false, c.if-number-notes.false)) ∙ sym c.index-notes-place.is)
          ∙ sym c.covers.ensures ∙ found;
    }
