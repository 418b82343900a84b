use Rattle.std.proofs.Common.{map, sym, subst}
use Rattle.cl_typing.specs.declared.uses.Usable.{Usable as CodeUsable}
use Rattle.cl_typing.specs.Verdicts.{Rules}
use Rattle.cl_typing.proofs.UseRows.{row_used, rules_used}
use Rattle.cl_typing.proofs.uses.use_type.Goals as goal

pub returns-in-Function : goal.returns-in-Function
returns-in-Function c =
    rules_used (map (λ t. t.now) c.args.types.now) c.args.used.now c.call_type.result (subst (λ (x : CodeUsable). Rules (row_used x (map (λ t. t.now) c.args.types.now)) c.call_type.result) (sym c.in-Function.is) c.call_type.ensures)
