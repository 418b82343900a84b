use Rattle.std.proofs.Common.{rules, ◌<◌, ◌≤◌, length, arith}
use Rattle.std.proofs.Math.ListN.{length-set}
use Rattle.cl_listeners.proofs.Underway.{begun, stay, left_by, still_within, ended}
use Rattle.cl_listeners.proofs.Parting.{still_distinct}
use Rattle.cl_listeners.proofs.telling.dispatch.Goals as goal

pub loop-i-init : goal.loop-i-init
loop-i-init g c = record {
  room = c.listeners.invariant.room;
  within = omega arith;
  told = begun _ _ _ _;
}

pub loop-i-preserved-then-tell : goal.loop-i-preserved-then-tell
loop-i-preserved-then-tell g c =
    let below : c.loop-i.i < length c.loop-i.listeners-inside.active.items = search (rules, c.loop-i-test.true, c.len.ensures) in
    record {
      room = c.loop-i.invariant.room;
      within = let long = length-set c.loop-i.listeners-inside.active.items c.loop-i.i (record { number = c.index_mut.result.now.number; listener = c.tell.new.listener }) in omega (arith, below, long);
      told = stay _ _ _ _ _ _ _ c.index_mut.result.now (record { number = c.index_mut.result.now.number; listener = c.tell.new.listener }) c.loop-i.invariant.told below c.index_mut.ensures.value
          (c.tell.ensures.heard c.index_mut.result.now.number c.if-tell.true);
    }

pub loop-i-preserved : goal.loop-i-preserved
loop-i-preserved g c =
    let below : c.loop-i.i < length c.loop-i.listeners-inside.active.items = search (rules, c.loop-i-test.true, c.len.ensures) in
    record {
      room = omega (arith, c.loop-i.invariant.room, c.remove-left.ensures.len, c.in-Ok.ensures.len, c.push.ensures.lower_bound, c.push.ensures.capacity);
      within = still_within _ _ c.loop-i.i (record { number = c.index_mut.result.now.number; listener = c.tell.new.listener }) below c.remove-left.ensures.by_index.2;
      told = left_by _ _ _ _ _ _ _ _ _ c.index_mut.result.now (record { number = c.index_mut.result.now.number; listener = c.tell.new.listener }) c.remove-left.result c.loop-i.invariant.told below
          c.index_mut.ensures.value (c.tell.ensures.deaf c.index_mut.result.now.number c.if-tell.false) c.remove-left.ensures.by_index.2 c.remove-left.ensures.value c.in-Ok.ensures.items;
    }

pub invariant_of-listeners : goal.invariant_of-listeners
invariant_of-listeners g c =
    let past : length c.loop-i.listeners-inside.active.items ≤ c.loop-i.i = search (rules, c.loop-i-test.false, c.len.ensures) in
    record {
      room = c.loop-i.invariant.room;
      own = still_distinct _ _ _ (ended _ _ _ _ _ _ _ c.loop-i.invariant.told past) c.listeners.invariant.own;
    }
