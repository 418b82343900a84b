use Rattle.std.proofs.Common.{◌∙◌, ap, List, map}
use Rattle.indexmap.specs.IndexMap.{get}
use Rattle.cl_forms.specs.declared.entry.Entry.{Entry}
use Rattle.cl_forms.specs.ItemView.{plain_item}
use Rattle.cl_forms.specs.Names.{same}
use Rattle.cl_forms.specs.Looks.{first_from}
use Rattle.cl_forms.proofs.Firsts.{forms_found, forms_broken}
use Rattle.cl_forms.proofs.Results.{ok_so, refused_so}
use Rattle.cl_forms.proofs.definitions.forms_of.Goals as goal

pub returns-clause-found : goal.returns-clause-found
returns-clause-found c =
    ok_so _ _ c.forms_or_break.result
    (λ v. forms_found c.args.version c.args.items.items c.in_ok-entries.entries.items (get same c.in_ok-first.first) c.in_ok-entries.ensures
    (λ x. c.in_ok-first.ensures x ∙ ap (λ (es : List Entry). first_from 0 (map (λ e. plain_item e.item) es) x) c.deref.ensures.value) v.items)
    c.forms_or_break.ensures.found

pub returns-clause-broken : goal.returns-clause-broken
returns-clause-broken c =
    refused_so _ _ c.forms_or_break.result
    (λ r. forms_broken c.args.version c.args.items.items c.in_ok-entries.entries.items (get same c.in_ok-first.first) c.in_ok-entries.ensures
    (λ x. c.in_ok-first.ensures x ∙ ap (λ (es : List Entry). first_from 0 (map (λ e. plain_item e.item) es) x) c.deref.ensures.value) r)
    c.forms_or_break.ensures.broken
