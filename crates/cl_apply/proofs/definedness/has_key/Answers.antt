use Rattle.std.proofs.Common.{◌≡◌, ℕ, List, ap, sym, subst, ◌∙◌}
use Rattle.cl_values.specs.Tree.{Tree, TupleV, entries_of}
use Rattle.cl_values.specs.View.{tree_of}
use Rattle.cl_values.specs.Valid.{IsVal}
use Rattle.cl_values.specs.Computed.{is_defined, kept}
use Rattle.cl_values.specs.Tuples.{is_among, part_at}
use Rattle.cl_apply.proofs.PartLaws.{part_is}
use Rattle.cl_apply.proofs.definedness.has_key.Goals as goal

pub returns-in-Tuple : goal.returns-in-Tuple
returns-in-Tuple c =
    let is : TupleV (entries_of c.in-Tuple.entries.items) ≡ c.value.result.now = ap tree_of (sym c.in-Tuple.is) ∙ c.behind-value.view_is in
    let valid : IsVal (TupleV (entries_of c.in-Tuple.entries.items)) = subst IsVal (sym is) c.value.ensures.valid in
    c.is_among.ensures
    ∙ ap (λ (es : List (List ℕ × Tree)). is_among c.args.key.now (entries_of es)) c.deref.ensures.value
    ∙ part_is c.args.key.now (entries_of c.in-Tuple.entries.items) valid.depth valid.size
    ∙ ap (λ (v : Tree). is_defined (kept (part_at c.args.key.now v))) (is ∙ c.value.ensures.tree)
