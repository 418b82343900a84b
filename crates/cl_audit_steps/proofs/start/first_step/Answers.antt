use Rattle.std.proofs.Common.{◌≡◌, ap, ◌∙◌, arith}
use Rattle.std.proofs.lemmas.Int.{ints, to_z-of_z}
use mir.Syntax.{w128}
use mir.Val.{to_z, of_z}
use Rattle.cl_values.specs.Tree.{IntV}
use Rattle.cl_audit_steps.specs.Seen.{seen}
use Rattle.cl_audit_steps.proofs.FormLaws.{starts_eq}
use Rattle.cl_audit_steps.proofs.StartLaws.{int_is, uint_is, atom_is, buff_is, ascii_is, utf8_is, principal_is, local_is, items_are, pairs_are}
use Rattle.cl_audit_steps.proofs.start.first_step.Goals as goal

pub returns-in-Int : goal.returns-in-Int
returns-in-Int c take enter s =
    let same : to_z w128 (of_z w128 c.in-Int.number) ≡ c.in-Int.number = grind (arith, ints, to_z-of_z) in
    int_is take enter (seen c.args.scope.now c.args.names.now.values) s _ _ _ c.item.view_is _ _ c.in-Int.is (c.int_value.ensures ∙ ap IntV same) ∙ c.value_start.ensures (seen c.args.scope.now c.args.names.now.values) take enter s

pub returns-in-Uint : goal.returns-in-Uint
returns-in-Uint c take enter s =
    uint_is take enter (seen c.args.scope.now c.args.names.now.values) s _ _ _ c.item.view_is _ _ c.in-Uint.is c.uint_value.ensures ∙ c.value_start-in-Uint.ensures (seen c.args.scope.now c.args.names.now.values) take enter s

pub returns-in-Atom : goal.returns-in-Atom
returns-in-Atom c = starts_eq (seen c.args.scope.now c.args.names.now.values) _ _ _ (λ take enter s. atom_is take enter (seen c.args.scope.now c.args.names.now.values) s _ _ _ c.item.view_is _ c.in-Atom.is) (c.name_start.ensures (seen c.args.scope.now c.args.names.now.values))

pub returns-in-Buff : goal.returns-in-Buff
returns-in-Buff c = starts_eq (seen c.args.scope.now c.args.names.now.values) _ _ _ (λ take enter s. buff_is take enter (seen c.args.scope.now c.args.names.now.values) s _ _ _ c.item.view_is _ _ c.in-Buff.is c.deref.ensures.value) (c.buff_start.ensures (seen c.args.scope.now c.args.names.now.values))

pub returns-in-Ascii : goal.returns-in-Ascii
returns-in-Ascii c = starts_eq (seen c.args.scope.now c.args.names.now.values) _ _ _ (λ take enter s. ascii_is take enter (seen c.args.scope.now c.args.names.now.values) s _ _ _ c.item.view_is _ _ c.in-Ascii.is c.deref-in-Ascii.ensures.value) (c.ascii_start.ensures (seen c.args.scope.now c.args.names.now.values))

pub returns-in-Utf8 : goal.returns-in-Utf8
returns-in-Utf8 c = starts_eq (seen c.args.scope.now c.args.names.now.values) _ _ _ (λ take enter s. utf8_is take enter (seen c.args.scope.now c.args.names.now.values) s _ _ _ c.item.view_is _ _ c.in-Utf8.is c.deref-in-Utf8.ensures.value) (c.utf8_start.ensures (seen c.args.scope.now c.args.names.now.values))

pub returns-in-List : goal.returns-in-List
returns-in-List c = starts_eq (seen c.args.scope.now c.args.names.now.values) _ _ _ (λ take enter s. items_are take enter (seen c.args.scope.now c.args.names.now.values) s _ _ _ c.item.view_is _ _ c.in-List.is c.deref-in-List.ensures.value) (c.list_start.ensures c.args.names.now.values)

pub returns-in-Tuple : goal.returns-in-Tuple
returns-in-Tuple c = starts_eq (seen c.args.scope.now c.args.names.now.values) _ _ _ (λ take enter s. pairs_are take enter (seen c.args.scope.now c.args.names.now.values) s _ _ _ c.item.view_is _ _ c.in-Tuple.is c.deref-in-Tuple.ensures.value) (c.tuple_start.ensures (seen c.args.scope.now c.args.names.now.values))

pub returns-in-Standing : goal.returns-in-Standing
returns-in-Standing c take enter s = principal_is take enter (seen c.args.scope.now c.args.names.now.values) s _ _ _ c.item.view_is _ c.in-Standing.is ∙ c.principal_start.ensures (seen c.args.scope.now c.args.names.now.values) take enter s

pub returns-in-Local : goal.returns-in-Local
returns-in-Local c take enter s = local_is take enter (seen c.args.scope.now c.args.names.now.values) s _ _ _ c.item.view_is _ c.in-Local.is ∙ c.local_start.ensures (seen c.args.scope.now c.args.names.now.values) take enter s
