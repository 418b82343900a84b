use Rattle.std.proofs.Common.{List, ap, map, sym, subst, ◌∙◌}
use Rattle.std.specs.List.{flat_map}
use Rattle.std.specs.Prelude.{option_map}
use Rattle.std.specs.Map.Iter.{deref_pair}
use Rattle.cl_c32.specs.declared.principal.Principal.{Principal}
use Rattle.cl_contracts.specs.declared.contract.Contract.{Contract}
use Rattle.cl_contracts.specs.Seen.{contract_seen}
use Rattle.cl_tx.specs.Rebounds.{functions_at, rebounds_of}
use Rattle.cl_bound.specs.Reaches.{AllReturnAs}
use Rattle.cl_bound.proofs.Reaching.{entry_at, lines_of_more, no_more}
use Rattle.cl_bound.proofs.Returning.{all_return}
use Rattle.cl_bound.proofs.block.lines_of.Goals as goal
use Rattle.cl_bound.proofs.block.lines_of.Goals.{in-Some+in_ok-push_contract, in_default}

pub loop-place-preserved : goal.loop-place-preserved
loop-place-preserved c table callers knows are =
    elim c.match-get_index.branch [
      | in-Some+in_ok-push_contract w ↦
          lines_of_more (rebounds_of table callers) c.args.contracts.now.entries c.loop-place.place _ w.in-Some.contract.now c.loop-place.lines.items c.match-get_index.lines.items c.requires w.in-Some.ensures.entry (c.loop-place.invariant table callers knows are)
          ((λ j. (w.lines-is j).items) ∙ w.in_ok-push_contract.ensures table callers (are callers knows)
          (subst (λ (p : Principal). AllReturnAs (functions_at p callers) w.in-Some.contract.now.checked.definitions.items) (sym (entry_at c.args.contracts.now.entries c.loop-place.place (_, w.in-Some.contract.now) c.requires (sym w.in-Some.ensures.entry)).principal)
          (all_return c.what_callers_know.ensures.known (record { contracts = c.args.contracts.now.entries; room = 0 }) callers c.loop-place.place _ w.in-Some.contract.now (record { each = c.requires }) knows c.len-place-end.ensures.unique (sym w.in-Some.ensures.entry))))
      | in_default w ↦
          (λ j. (w.lines-is j).items) ∙ c.loop-place.invariant table callers knows are
          ∙ ap (λ (es : List (Principal × Contract)). flat_map (rebounds_of table callers) (map contract_seen es)) (sym (no_more c.args.contracts.now.entries c.loop-place.place (sym c.get_index.ensures.entry ∙ ap (option_map deref_pair) w.in_default.is)))
    ]
