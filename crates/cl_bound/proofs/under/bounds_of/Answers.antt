use Rattle.std.proofs.Common.{List, ap, sym, subst, take, ◌+◌, ◌∙◌}
use Rattle.std.specs.Prelude.{option_map}
use Rattle.std.specs.Map.Iter.{deref_pair}
use Rattle.cl_c32.specs.declared.principal.Principal.{Principal}
use Rattle.cl_costs.specs.Tables.{function_of}
use Rattle.cl_contracts.specs.declared.contract.Contract.{Contract}
use Rattle.cl_bound.specs.Known.{AreBounds}
use Rattle.cl_bound.proofs.Reaching.{bounds_of_more, no_more}
use Rattle.cl_bound.proofs.under.bounds_of.Goals as goal
use Rattle.cl_bound.proofs.under.bounds_of.Goals.{in-Some+in_ok-take_in, in_default}

pub loop-place-preserved : goal.loop-place-preserved
loop-place-preserved c =
    elim c.match-get_index.branch [
      | in-Some+in_ok-take_in w ↦
          subst (AreBounds (function_of c.args.costs.now) (take (c.loop-place.place + 1) c.args.contracts.now.entries)) (sym w.known-is)
          (bounds_of_more (function_of c.args.costs.now) c.args.contracts.now.entries c.loop-place.place _ w.in-Some.contract.now c.loop-place.known w.take_in.new.known c.requires w.in-Some.ensures.entry c.loop-place.invariant w.in_ok-take_in.ensures)
      | in_default w ↦
          subst (AreBounds (function_of c.args.costs.now) (take (c.loop-place.place + 1) c.args.contracts.now.entries)) (sym w.known-is)
          (subst (λ (contracts : List (Principal × Contract)). AreBounds (function_of c.args.costs.now) contracts c.loop-place.known) (sym (no_more c.args.contracts.now.entries c.loop-place.place (sym c.get_index.ensures.entry ∙ ap (option_map deref_pair) w.in_default.is))) c.loop-place.invariant)
    ]
