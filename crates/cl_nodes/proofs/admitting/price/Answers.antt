use Rattle.std.specs.Prelude.{filter_map}
use Rattle.std.proofs.Common.{sym, ap, subst, ◌∙◌}
use Rattle.cl_contracts.specs.declared.parts.Parts.{Parts}
use Rattle.cl_tx.specs.declared.outcome.Bounds.{Bounds}
use Rattle.cl_nodes.specs.Bounded.{IsBounded, IsTooDear, costs_of, entries_of}
use Rattle.cl_nodes.specs.Accepting.{IsDeployRefusal, type_returned}
use Rattle.cl_nodes.proofs.Accepting.{is_too_dear, refused_by}
use Rattle.cl_nodes.proofs.admitting.price.Goals as goal

pub returns-in_ok-told-in-Ok-clause-accepted : goal.returns-in_ok-told-in-Ok-clause-accepted
returns-in_ok-told-in-Ok-clause-accepted c =
    let cs = c.args.contracts.now in
    record {
      new = c.requires.new;
      checked = c.requires.checked;
      bounded = subst (λ (b : Bounds). IsBounded (costs_of cs) (entries_of cs) c.args.checked b) (sym c.in_ok-told-in-Ok.ensures.bounds) c.in-Ok.ensures.priced.bounded;
      types = c.in_ok-told-in-Ok.ensures.types ∙ ap (filter_map type_returned) (c.deref.ensures.value ∙ ap (λ (q : Parts). q.definitions.items) c.parts-own.ensures);
      bounds = c.in-Ok.ensures.priced.kept;
    }

pub returns-in-Err-clause-refused : goal.returns-in-Err-clause-refused
returns-in-Err-clause-refused c =
    let d = c.args.deployment.now in
    let cs = c.args.contracts.now in
    refused_by c.in-Err.fault c.refusal_of.result (IsTooDear cs c.args.checked) (IsDeployRefusal d cs) c.refusal_of.ensures c.in-Err.ensures.broken
    (λ r dear. is_too_dear d cs c.requires.new c.args.checked c.requires.checked r dear)
