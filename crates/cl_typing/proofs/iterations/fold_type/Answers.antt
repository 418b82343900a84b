use Rattle.std.proofs.Common.{◌≡◌, ap, sym, subst}
use Rattle.cl_rules.specs.Context.{Signature}
use Rattle.cl_rules.specs.CallShapes.{fold_function}
use Rattle.cl_typing.specs.declared.uses.Usable.{Usable as CodeUsable}
use Rattle.cl_typing.specs.Verdicts.{Rules}
use Rattle.cl_typing.proofs.UseRows.{native_used}
use Rattle.cl_typing.proofs.IterationRows.{fold_of_function, params_used, returns_used}
use Rattle.cl_typing.proofs.iterations.fold_type.Goals as goal

pub returns-in-Function : goal.returns-in-Function
returns-in-Function c =
    fold_of_function c.args.used.now c.args.s.now c.args.initial.now c.fold_by_function.result (ap native_used c.in-Function.is)
    (subst (λ (x : CodeUsable). (f : Signature) → f.params ≡ params_used x → f.returns ≡ returns_used x → Rules (fold_function f c.args.s.now c.args.initial.now) c.fold_by_function.result) (sym c.in-Function.is) c.fold_by_function.ensures)
