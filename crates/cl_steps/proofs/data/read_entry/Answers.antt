use Rattle.std.proofs.Common.{true, false, sym, ap, ◌∙◌}
use Rattle.std.proofs.lemmas.Result.{err_from_is_err_and}
use Rattle.cl_meaning.specs.Limits.{limited}
use Rattle.cl_meaning.proofs.LimitLaws.{limited-stop}
use Rattle.cl_frames.specs.Seen.{scope}
use Rattle.cl_frames.proofs.Steps.{pay_fails_at, ends_so, native_ends, charge_spent}
use Rattle.cl_frames.proofs.Laws
use Rattle.cl_steps.proofs.data.read_entry.Goals as goal

pub returns-then-not-own_map : goal.returns-then-not-own_map
returns-then-not-own_map c fits =
    ap (limited _ _) (Laws.no_map (scope c.args.context.now c.args.names.now) c.args.name.now _ c.args.world.now.stack.top (sym (c.own_map.ensures c.args.names.now.values fits) ∙ c.if-not-own_map.true)) ∙ limited-stop _ _ _ _

pub returns-in_err-pay : goal.returns-in_err-pay
returns-in_err-pay c fits =
    pay_fails_at _ _ c.in_err-pay.field-0.0 _ _ _ _ _ _ _ _ (err_from_is_err_and c.from_residual-in_err-pay.result c.from_residual-in_err-pay.ensures.1) (Laws.found_size _ _ _ _ (c.from.ensures ∙ c.size.ensures.counted) c.optional_size.ensures.size) (ap (limited _ _) (Laws.entry_at_is (scope c.args.context.now c.args.names.now) c.args.name.now _ _ _ (sym (c.own_map.ensures c.args.names.now.values fits) ∙ c.if-not-own_map.false) c.in_ok-found.ensures)) c.in_err-pay.ensures

pub returns : goal.returns
returns c fits =
    ends_so _ _ _ _ _ (ap (limited _ _) (Laws.entry_at_is (scope c.args.context.now c.args.names.now) c.args.name.now _ _ _ (sym (c.own_map.ensures c.args.names.now.values fits) ∙ c.if-not-own_map.false) c.in_ok-found.ensures) ∙ charge_spent _ _ _ _ _ _ _ (Laws.found_size _ _ _ _ (c.from.ensures ∙ c.size.ensures.counted) c.optional_size.ensures.size) c.in_ok-pay.ensures) (native_ends _ _ _ _ _ c.optional_value.ensures)
