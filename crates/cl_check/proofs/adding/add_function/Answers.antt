use Rattle.std.proofs.Common.{map, sym, ap, ◌∙◌}
use Rattle.std.specs.Prelude.{◌||◌}
use Rattle.std.specs.List.{list_any}
use Rattle.cl_rules.specs.Context.{same, is_named}
use Rattle.cl_judging.specs.Seen.{seen_under, shown_entry}
use Rattle.cl_check.proofs.AddedNames.{names_more, at_end, top_free, map_end}
use Rattle.cl_check.proofs.adding.add_function.Goals as goal

pub returns-clause-names : goal.returns-clause-names
returns-clause-names c y h =
    names_more (λ b. is_named y c.args.ctx.now.constants.entries || is_named y c.args.ctx.now.variables.entries || is_named y c.args.ctx.now.maps.entries || list_any (same y) c.args.ctx.now.fungibles.keys || is_named y c.args.ctx.now.nonfungibles.entries || b) y c.args.name c.args.function c.args.ctx.now.functions.entries c.insert.new.self.entries (at_end c.args.name c.args.function c.args.ctx.now.functions c.insert.new.self.entries (top_free c.args.ctx.now c.args.name c.requires).functions c.in_ok-insert.ensures.entries) h

pub returns-clause-shown : goal.returns-clause-shown
returns-clause-shown c G f h one = record { principal = h.principal; version = h.version; deployed = h.deployed; constants = h.constants; variables = h.variables; maps = h.maps; fungibles = h.fungibles; nonfungibles = h.nonfungibles; functions = map_end seen_under shown_entry G.functions c.args.ctx.now.functions.entries f (c.args.name, c.args.function) h.functions one ∙ ap (map shown_entry) (sym (at_end c.args.name c.args.function c.args.ctx.now.functions c.insert.new.self.entries (top_free c.args.ctx.now c.args.name c.requires).functions c.in_ok-insert.ensures.entries)) }
