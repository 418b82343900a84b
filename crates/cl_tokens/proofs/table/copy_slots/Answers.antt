use Rattle.std.proofs.Common.{◌∙◌, ap, arith, ◌<◌, length, take}
use Rattle.std.specs.Prelude.{nat_eq}
use Rattle.std.specs.Map.{lookup}
use Rattle.std.specs.Cmp.Lexicographic.{pointwise}
use Rattle.std.proofs.lemmas.List.{take_all}
use Rattle.indexmap.proofs.CallerLemmas.{insert_entry-new}
use Rattle.cl_tokens.proofs.Slots.{at_index, fresh_at, copied_step}
use Rattle.cl_tokens.proofs.table.copy_slots.Goals as goal

pub loop-i-preserved : goal.loop-i-preserved
loop-i-preserved g c =
    let es = c.args.slots.now.entries in
    let low : c.loop-i.i < length es = omega (arith, c.loop-i-test.true, c.len-count.ensures.len) in
    let is = at_index es c.loop-i.i (c.in-Some.key.now, c.in-Some.slot.now) c.in-Some.ensures.entry in
    let none =
    ap (λ xs. lookup (pointwise nat_eq c.in_ok-key.key) xs) c.loop-i.invariant.slots ∙ ap (λ k. lookup (pointwise nat_eq k) (take c.loop-i.i es)) c.in_ok-key.ensures
    ∙ fresh_at es c.loop-i.i (c.in-Some.key.now, c.in-Some.slot.now) c.len-count.ensures.unique low is in
    record {
      within = omega (arith, c.loop-i-test.true);
      slots = copied_step es c.loop-i.copy.entries c.insert.new.self.entries c.loop-i.i c.in-Some.key.now c.in_ok-key.key c.in-Some.slot.now c.in_ok-value.value low is c.loop-i.invariant.slots c.in_ok-key.ensures c.in_ok-value.ensures
          (c.in_ok-insert.ensures.entries ∙ insert_entry-new (pointwise nat_eq) c.loop-i.copy c.in_ok-key.key c.in_ok-value.value none);
    }

pub returns : goal.returns
returns g c = c.loop-i.invariant.slots ∙ take_all c.loop-i.i c.args.slots.now.entries (omega (arith, c.loop-i-test.false, c.len-count.ensures.len))
