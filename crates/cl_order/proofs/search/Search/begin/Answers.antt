use Rattle.std.proofs.Common.{refl}
use Rattle.cl_order.proofs.Stepping.{begun_done, begun_on_path, begun_new, told_unseen}
use Rattle.cl_order.proofs.search.Search.begin.Goals as goal

pub returns-in-Done-clause-begun : goal.returns-in-Done-clause-begun
returns-in-Done-clause-begun c = begun_done c.args.forms.now c.args.self.now c.args.place c.index.result.now c.requires.sound c.requires.there c.index.ensures c.in-Done.is

pub returns-in_ok-cycle-in-OnPath-clause-cycle : goal.returns-in_ok-cycle-in-OnPath-clause-cycle
returns-in_ok-cycle-in-OnPath-clause-cycle c =
    begun_on_path c.args.forms.now c.args.self.now c.args.place c.index.result.now c.in_ok-cycle-in-OnPath.field-0.items c.requires.sound c.requires.there c.index.ensures c.in-OnPath.is c.in_ok-cycle-in-OnPath.ensures

pub returns-in_ok-push-in-New-clause-begun : goal.returns-in_ok-push-in-New-clause-begun
returns-in_ok-push-in-New-clause-begun c =
    let told = told_unseen c.args.forms.now c.args.self.now c.args.place c.index.result.now c.requires.sound c.requires.there c.index.ensures c.in-New.is in
    begun_new c.args.forms.now c.args.self.now c.push.new.self c.args.place (record { place = c.args.place; named = c.in_ok-named-in-New.named; visited = 0 })
    c.requires.sound c.requires.there refl refl c.in_ok-named-in-New.ensures c.in_ok-push-in-New.ensures.path c.in_ok-push-in-New.ensures.states c.in_ok-push-in-New.ensures.done told.0 told.1
