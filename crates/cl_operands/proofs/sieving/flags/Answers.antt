use Rattle.std.proofs.Common.{◌<◌, ◌≤◌, ◌++◌, length, option_map, ap, ◌∙◌, arith}
use Rattle.cl_operands.specs.Sieved.{flags_of}
use Rattle.cl_operands.proofs.SieveLaws.{flags_turn, flags_stop, flags_start, flags_end}
use Rattle.cl_operands.proofs.sieving.flags.Goals as goal

pub returns-in-None : goal.returns-in-None
returns-in-None c =
    let here : c.loop-value.value-index < length c.args.results.now = omega arith in
    flags_stop _ _ _ _ _ _ here c.value-item.is c.in-None.is c.truth_of.ensures c.loop-value.invariant

pub loop-value-init : goal.loop-value-init
loop-value-init c = ap (λ l. option_map (λ bs. l ++ bs) (flags_of c.args.results.now)) c.in_ok-flags.ensures.items ∙ flags_start (flags_of c.args.results.now)

pub loop-value-preserved : goal.loop-value-preserved
loop-value-preserved c =
    let here : c.loop-value.value-index < length c.args.results.now = omega arith in
    flags_turn _ _ _ _ _ _ _ _ here c.value-item.is c.in-Some.is c.truth_of.ensures c.in_ok-push-in-Some.ensures.items c.loop-value.invariant

pub returns : goal.returns
returns c =
    let past : length c.args.results.now ≤ c.loop-value.value-index = omega arith in
    flags_end _ _ _ _ past c.loop-value.invariant
