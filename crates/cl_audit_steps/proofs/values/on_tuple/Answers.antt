use Rattle.std.proofs.Common.{map, sym, ap, ◌∙◌}
use Rattle.cl_shapes.specs.declared.name.CostName.TheVariants.{Make}
use Rattle.cl_values.specs.Computed.{Gives}
use Rattle.cl_values.specs.Tree.{TupleV}
use Rattle.cl_values.specs.Tuples.{sorted_entries}
use Rattle.cl_meaning.specs.Scope.{sizes}
use Rattle.cl_audit_steps.proofs.ValueLaws.{charged_as, ends_as, no_entry, some_entry, nil_from, not_nil}
use Rattle.cl_audit_steps.proofs.values.on_tuple.Goals as goal

pub returns-then-is_empty : goal.returns-then-is_empty
returns-then-is_empty c S take enter s =
    ends_as _ _ _ S take enter s (no_entry c.args.entries.items s (sym c.as_slice.ensures.value ∙ nil_from _ (sym c.is_empty.ensures ∙ c.if-is_empty.true))) c.uncharged_end.ensures

pub keyed_tuple-requires : goal.keyed_tuple-requires
keyed_tuple-requires c = λ e. not_nil _ (sym c.is_empty.ensures ∙ c.if-is_empty.false) (c.as_slice.ensures.value ∙ e)

pub returns : goal.returns
returns c S take enter s =
    charged_as _ _ _ _ _ _ _ S take enter s (some_entry c.args.entries.items s (λ e. not_nil _ (sym c.is_empty.ensures ∙ c.if-is_empty.false) (c.as_slice.ensures.value ∙ e)))
    (c.in_ok-charge.ensures ∙ ap (λ es. (Make, sizes (map (λ e. e.1) es))) c.deref.ensures.value)
    (c.in_ok-computed_last.ensures (Gives (TupleV (sorted_entries c.args.entries.items))) c.keyed_tuple.ensures S take enter s) c.charged_end.ensures
