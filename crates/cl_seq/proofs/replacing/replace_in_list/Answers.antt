use Rattle.std.proofs.Common.{Some, None, Ok, sym, ap, ◌∙◌}
use Rattle.cl_values.specs.Computed.{Gives}
use Rattle.cl_values.specs.Contents.{with_entry}
use Rattle.cl_values.proofs.Applies.{applied_so}
use Rattle.cl_seq.proofs.Exchanges.{was_set, list_set_fine, list_set_shallow, list_set_is}
use Rattle.cl_seq.proofs.replacing.replace_in_list.Goals as goal

pub some_whole-requires-clause-fine : goal.some_whole-requires-clause-fine
some_whole-requires-clause-fine c =
    list_set_fine c.args.values.items c.in-Some.values.items c.args.at c.into_value.result c.requires c.into_value.ensures.valid
    (was_set c.args.at c.into_value.result c.args.values.items c.in-Some.values.items c.in-Some.ensures)

pub some_whole-requires-clause-shallow : goal.some_whole-requires-clause-shallow
some_whole-requires-clause-shallow c =
    list_set_shallow c.args.values.items c.in-Some.values.items c.args.at c.into_value.result c.requires c.into_value.ensures.valid
    (was_set c.args.at c.into_value.result c.args.values.items c.in-Some.values.items c.in-Some.ensures)

pub returns-in-None : goal.returns-in-None
returns-in-None c =
    applied_so _ _ (Ok c.none.result)
    (list_set_is c.args.values.items c.args.at c.args.item None (c.in-None.ensures ∙ ap (λ v. with_entry c.args.at v c.args.values.items) c.into_value.ensures.tree))
    (ap Gives (sym c.none.ensures))

pub returns-in-Some : goal.returns-in-Some
returns-in-Some c =
    applied_so _ _ c.some_whole.result
    (list_set_is c.args.values.items c.args.at c.args.item (Some c.in-Some.values.items) (c.in-Some.ensures ∙ ap (λ v. with_entry c.args.at v c.args.values.items) c.into_value.ensures.tree))
    c.some_whole.ensures
