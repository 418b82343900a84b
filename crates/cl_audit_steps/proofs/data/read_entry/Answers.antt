use Rattle.std.proofs.Common.{◌∙◌}
use Rattle.cl_audit_steps.specs.Seen.{seen}
use Rattle.cl_audit_steps.proofs.DataLaws.{has_it, has_none, found_is}
use Rattle.cl_audit_steps.proofs.ValueLaws.{charged_as, ends_as}
use Rattle.std.proofs.Common.{arith}
use Rattle.cl_audit_steps.proofs.data.read_entry.Goals as goal

pub returns-then-not-has_map : goal.returns-then-not-has_map
returns-then-not-has_map c outer take enter = ends_as _ _ _ (seen c.args.scope.now outer) take enter _ (has_none (seen c.args.scope.now outer) c.args.name.now _ _ _ c.has_map.ensures c.if-not-has_map.true) c.uncharged_end.ensures

pub returns : goal.returns
returns c outer take enter = charged_as _ _ _ _ _ _ _ (seen c.args.scope.now outer) take enter _ (has_it (seen c.args.scope.now outer) c.args.name.now _ _ _ c.has_map.ensures c.if-not-has_map.false ∙ found_is (seen c.args.scope.now outer) c.args.name.now c.args.key _ _ _ c.in_ok-found.ensures (omega (arith, c.size.ensures, c.optional_size.ensures.size))) c.in_ok-charge.ensures (c.in_ok-optional_value.ensures (seen c.args.scope.now outer) take enter _) c.charged_end.ensures
