use Rattle.std.proofs.Common.{arith, ◌∙◌, ◌%◌, ◌*◌, ◌≡◌}
use Rattle.cl_arith.proofs.Powers.{even_step, odd_step, last_step, product_within, square_within}
use Rattle.cl_arith.proofs.uints.checked_power.Goals as goal
use Rattle.cl_arith.proofs.uints.checked_power.Goals.{then-left-eq1+in_ok-power, else-left-eq1}

pub returns-in_err-power : goal.returns-in_err-power
returns-in_err-power c = rw c.from_residual.ensures (λ small. c.in_err-power.ensures (product_within _ _ _ _ _ c.loop-left.invariant small))

pub returns-in_err-square : goal.returns-in_err-square
returns-in_err-square c = rw c.from_residual-in_err-square.ensures (λ small. c.in_err-square.ensures (square_within _ _ _ _ _ c.loop-left.invariant c.loop-left-test.true small))

pub returns : goal.returns
returns c = rw (last_step _ _ _ _ _ c.loop-left.invariant c.loop-left-test.false) c.checked_mul-2.ensures

pub loop-left-preserved : goal.loop-left-preserved
loop-left-preserved c =
    let square : c.in_ok-square.square ≡ c.loop-left.square * c.loop-left.square = c.in_ok-square.ensures.1 in
    rw square (elim c.if-left-eq1.branch [
      | then-left-eq1+in_ok-power w ↦
          rw (w.power-is ∙ w.in_ok-power.ensures.1) (odd_step _ _ _ _ _ c.loop-left.invariant c.loop-left-test.true w.if-left-eq1.true)
      | else-left-eq1 w ↦
          let even : c.loop-left.left % 2 ≡ 0 = omega (arith, w.if-left-eq1.false) in
          rw w.power-is (even_step _ _ _ _ _ c.loop-left.invariant c.loop-left-test.true even)
    ])
