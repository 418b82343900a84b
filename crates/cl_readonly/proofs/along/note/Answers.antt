use Rattle.std.proofs.Common.{Bool, sym, ap, subst, ◌∙◌, if◌then◌else◌}
use Rattle.indexmap.specs.IndexSet.{insert_key}
use Rattle.cl_forms.specs.Names.{same}
use Rattle.cl_code.specs.declared.definition.Definition.{Definition}
use Rattle.cl_rules.specs.Acceptance.{calls_public}
use Rattle.cl_contracts.specs.Standings.{StandsAs}
use Rattle.cl_readonly.proofs.InOrder.{IsWith, other_with, not_function, function_with}
use Rattle.cl_readonly.proofs.along.note.Goals as goal

pub returns-in_ok-insert-in-Function : goal.returns-in_ok-insert-in-Function
returns-in_ok-insert-in-Function c known D fs knows own stands =
    subst (λ (d : Definition). IsWith (calls_public known c.args.own.now) D d c.args.writing.now.keys c.insert.new.self.keys) (sym c.in-Function.is)
    (function_with (calls_public known c.args.own.now) D c.in-Function.function c.args.writing.now.keys c.insert.new.self.keys fs c.tree_writes.result (subst (λ (d : Definition). StandsAs D d fs) c.in-Function.is stands)
    (λ B g s. c.tree_writes.ensures known D.context B g knows own s)
    (c.in_ok-insert-in-Function.ensures.keys ∙ ap (λ (b : Bool). if b then insert_key same c.args.writing.now.keys c.in-Function.function.name else c.args.writing.now.keys) (sym c.if-tree_writes.true)))

pub returns-else-tree_writes : goal.returns-else-tree_writes
returns-else-tree_writes c known D fs knows own stands =
    subst (λ (d : Definition). IsWith (calls_public known c.args.own.now) D d c.args.writing.now.keys c.args.writing.now.keys) (sym c.in-Function.is)
    (function_with (calls_public known c.args.own.now) D c.in-Function.function c.args.writing.now.keys c.args.writing.now.keys fs c.tree_writes.result (subst (λ (d : Definition). StandsAs D d fs) c.in-Function.is stands)
    (λ B g s. c.tree_writes.ensures known D.context B g knows own s)
    (ap (λ (b : Bool). if b then insert_key same c.args.writing.now.keys c.in-Function.function.name else c.args.writing.now.keys) (sym c.if-tree_writes.false)))

pub returns-in_default : goal.returns-in_default
returns-in_default c known D fs knows own stands = other_with (calls_public known c.args.own.now) D c.args.definition.now c.args.writing.now.keys (not_function c.args.definition.now c.in_default.not-Function)
