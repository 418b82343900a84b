use Rattle.std.proofs.Common.{◌≡◌, ℕ, [], ◌∷◌, ◌∙◌, sym, ap, map, length, Some, arith}
use Rattle.std.specs.Vec.Iter.{into_iter_items}
use Rattle.std.proofs.lemmas.List.{length-append, length-map}
use Rattle.indexmap.specs.IndexMap.{get}
use Rattle.cl_forms.specs.Forms.{Form}
use Rattle.cl_forms.specs.Names.{same}
use Rattle.cl_forms.specs.Looks.{plain_entry, break_of, first_broken, form_at}
use Rattle.cl_forms.proofs.Moved.{one_moved, all_moved, one_unbroken, all_unbroken}
use Rattle.cl_forms.proofs.definitions.forms_or_break.Goals as goal

pub loop-entry-preserved : goal.loop-entry-preserved
loop-entry-preserved c =
    let place : c.len-place.result ≡ length c.loop-entry.forms.items = omega (arith, c.len-place.ensures, c.loop-entry.forms.ok.0) in
    record {
      unbroken = one_unbroken c.args.names.now.version (get same c.args.names.now.first) (length c.loop-entry.forms.items) (length c.push.new.self.items) (map plain_entry (into_iter_items c.loop-entry.entry-iterator)) (map plain_entry (into_iter_items c.next.new.self)) (plain_entry c.in-Some.entry)
          (first_broken c.args.names.now.version (get same c.args.names.now.first) 0 (map plain_entry c.args.entries.items))
          (ap length c.in_ok-push-in-Ok.ensures.items ∙ length-append c.loop-entry.forms.items (c.in-Ok.form ∷ [])) (ap (map plain_entry) c.in-Some.ensures.steps.0) (ap (λ (k : ℕ). break_of c.args.names.now.version (get same c.args.names.now.first) k (plain_entry c.in-Some.entry)) (sym place) ∙ c.in-Ok.ensures.found.0) c.loop-entry.invariant.unbroken;
      forms_are = one_moved (λ (f : Form). Some f) form_at c.loop-entry.forms.items c.push.new.self.items c.in-Ok.form (map plain_entry (into_iter_items c.loop-entry.entry-iterator)) (map plain_entry (into_iter_items c.next.new.self)) (plain_entry c.in-Some.entry)
          (map form_at (map plain_entry c.args.entries.items))
          c.in_ok-push-in-Ok.ensures.items (ap (map plain_entry) c.in-Some.ensures.steps.0) (sym c.in-Ok.ensures.found.1) c.loop-entry.invariant.forms_are;
    }

pub returns-clause-found : goal.returns-clause-found
returns-clause-found c =
    let empty : length (map plain_entry (into_iter_items c.loop-entry.entry-iterator)) ≡ 0 =
    length-map (into_iter_items c.loop-entry.entry-iterator) plain_entry ∙ omega (arith, c.loop-entry.entry-iterator.rest.ok.0, c.in-None.ensures.steps.0) in (
      all_unbroken c.args.names.now.version (get same c.args.names.now.first) (length c.loop-entry.forms.items) (map plain_entry (into_iter_items c.loop-entry.entry-iterator)) (first_broken c.args.names.now.version (get same c.args.names.now.first) 0 (map plain_entry c.args.entries.items)) empty c.loop-entry.invariant.unbroken,
      sym (all_moved (λ (f : Form). Some f) form_at c.loop-entry.forms.items (map plain_entry (into_iter_items c.loop-entry.entry-iterator)) (map form_at (map plain_entry c.args.entries.items)) empty c.loop-entry.invariant.forms_are),
    )
