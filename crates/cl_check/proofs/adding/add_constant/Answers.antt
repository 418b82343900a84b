use Rattle.std.proofs.Common.{[], ◌∷◌, ◌++◌, sym, ap, ◌∙◌}
use Rattle.std.specs.Prelude.{◌||◌}
use Rattle.std.specs.List.{list_any}
use Rattle.cl_rules.specs.Context.{same, is_named}
use Rattle.cl_check.proofs.AddedNames.{names_more, at_end, top_free}
use Rattle.cl_check.proofs.adding.add_constant.Goals as goal

pub returns-clause-names : goal.returns-clause-names
returns-clause-names c y h =
    names_more (λ b. b || is_named y c.args.ctx.now.variables.entries || is_named y c.args.ctx.now.maps.entries || list_any (same y) c.args.ctx.now.fungibles.keys || is_named y c.args.ctx.now.nonfungibles.entries || is_named y c.args.ctx.now.functions.entries) y c.args.name c.args.ty c.args.ctx.now.constants.entries c.insert.new.self.entries (at_end c.args.name c.args.ty c.args.ctx.now.constants c.insert.new.self.entries (top_free c.args.ctx.now c.args.name c.requires).constants c.in_ok-insert.ensures.entries) h

pub returns-clause-shown : goal.returns-clause-shown
returns-clause-shown c G h = record { principal = h.principal; version = h.version; deployed = h.deployed; constants = ap (λ es. es ++ (c.args.name, c.args.ty) ∷ []) h.constants ∙ sym (at_end c.args.name c.args.ty c.args.ctx.now.constants c.insert.new.self.entries (top_free c.args.ctx.now c.args.name c.requires).constants c.in_ok-insert.ensures.entries); variables = h.variables; maps = h.maps; fungibles = h.fungibles; nonfungibles = h.nonfungibles; functions = h.functions }
