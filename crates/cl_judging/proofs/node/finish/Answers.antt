use Rattle.std.proofs.Common.{List, map, Result, Ok, Err, sym, ap, subst, ◌∙◌}
use Rattle.cl_types.specs.declared.fault.Fault.{Fault}
use Rattle.cl_sexpr.specs.declared.rule.Rule.{Rule}
use Rattle.cl_sexpr.specs.Tree.{Tree}
use Rattle.cl_code.specs.Expression.{expression}
use Rattle.cl_code.specs.Nodes.{versions_of}
use Rattle.cl_code.specs.Typed.{Typed, TypedAs, typeds, expression_of}
use Rattle.cl_typing.specs.declared.concluding.Concluded.{Concluded}
use Rattle.cl_judging.specs.Walking.{FinishesAt}
use Rattle.cl_judging.proofs.Finishing.{finish_holds, finish_fails, texts_codes}
use Rattle.cl_judging.proofs.node.finish.Goals as goal

pub returns-in_ok-trees-in-Ok-clause-found : goal.returns-in_ok-trees-in-Ok-clause-found
returns-in_ok-trees-in-Ok-clause-found c G goes =
    let e : Tree = expression c.args.op (map expression_of c.in_ok-trees-in-Ok.field-0.items) c.args.span in
    subst (λ (r : Result Concluded (Fault Rule)). FinishesAt G c.args.parts.items r c.args.span (Ok c.node.result)) (sym c.in-Ok.is)
    (finish_holds G c.args.parts.items c.in-Ok.concluded c.args.span c.node.result e c.args.op goes c.node.ensures.facts (c.node.ensures.code ∙ ap (λ (qs : List Typed). TypedAs e c.in-Ok.concluded.ty (versions_of c.args.op) (typeds qs)) c.in_ok-trees-in-Ok.ensures))

pub returns-in_ok-trees-in-Ok-clause-text : goal.returns-in_ok-trees-in-Ok-clause-text
returns-in_ok-trees-in-Ok-clause-text c = ap expression_of c.node.ensures.code ∙ ap (λ (es : List Tree). expression c.args.op es c.args.span) (texts_codes c.args.parts.items _ c.in_ok-trees-in-Ok.ensures)

pub returns-in-Err-clause-found : goal.returns-in-Err-clause-found
returns-in-Err-clause-found c G goes =
    subst (λ (r : Result Concluded (Fault Rule)). FinishesAt G c.args.parts.items r c.args.span (Err c.at.result)) (sym c.in-Err.is)
    (finish_fails G c.args.parts.items c.in-Err.fault c.args.span c.at.result c.at.ensures)
