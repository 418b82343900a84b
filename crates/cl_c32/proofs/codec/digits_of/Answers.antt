use Rattle.std.proofs.Common.{◌<◌, ◌∙◌, set, ap, arith}
use Rattle.std.specs.Prelude.{unwrap_or}
use Rattle.cl_c32.specs.Alphabet.{digit_value}
use Rattle.cl_c32.proofs.Padding.{padded_map}
use Rattle.cl_c32.proofs.codec.digits_of.Goals as goal

pub loop-i-preserved : goal.loop-i-preserved
loop-i-preserved c =
    let within : c.loop-i.i < 47 = omega (arith, c.loop-i-test.true, c.requires) in
    ap (set c.loop-i.digits c.loop-i.i) (c.unwrap_or.ensures ∙ ap (λ d. unwrap_or d 0) c.digit_of.ensures)
    ∙ padded_map digit_value 47 c.args.characters.now c.loop-i.digits c.loop-i.i c.loop-i-test.true within c.loop-i.invariant
