use Rattle.std.proofs.Common.{◌≡◌, ◌+◌, ◌-◌, length, take, refl, arith}
use Rattle.std.specs.Vec.{with_item}
use Rattle.std.proofs.lemmas.List.{nil_from_length}
use Rattle.std.proofs.lemmas.Result.{IfOk-weaker}
use Rattle.cl_sexpr.specs.Progress.{TakesItem, LevelTakes}
use Rattle.cl_sexpr.proofs.Levels.{top_gains, innermost, innermost_set, level_takes}
use Rattle.cl_sexpr.proofs.reading.Reading.add.Goals as goal

pub returns-in_ok-push-in-None : goal.returns-in_ok-push-in-None
returns-in_ok-push-in-None c =
    let none = nil_from_length c.args.self.now.open.items (omega (arith, c.in-None.ensures.item.3)) in
    top_gains c.args.self.now (record { items = c.push.new.self; «open» = c.args.self.now.open }) c.args.item none none c.in_ok-push-in-None.ensures.items

pub returns-in-Some : goal.returns-in-Some
returns-in-Some c =
    let levels = c.args.self.now.open in
    let n = levels.len - 1 in
    let level = c.in-Some.level.now in
    let last : n + 1 ≡ length levels.items = omega (arith, c.in-Some.ensures.item.3.0, levels.ok.0) in
    IfOk-weaker c.add.result (LevelTakes level c.add.new.self c.args.item) (TakesItem c.args.self.now (record { items = c.args.self.now.items; «open» = with_item levels n c.add.new.self }) c.args.item)
    (level_takes c.args.self.now (record { items = c.args.self.now.items; «open» = with_item levels n c.add.new.self }) (take n levels.items) level c.add.new.self c.args.item (innermost levels.items n level last c.in-Some.ensures.value) (innermost_set levels.items n c.add.new.self last) refl)
    c.add.ensures
