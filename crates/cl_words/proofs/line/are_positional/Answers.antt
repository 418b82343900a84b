use Rattle.std.proofs.Common.{◌≤◌, length, ◌∙◌, arith}
use Rattle.cl_words.proofs.SameTexts.{ends_positional}
use Rattle.cl_words.proofs.line.are_positional.Goals as goal

pub returns : goal.returns
returns c =
    let past : length c.args.words.now ≤ c.loop-i.i = omega (arith, c.loop-i-test.false) in
    ends_positional c.args.words.now c.args.expected.now _ _ past ∙ c.loop-i.invariant
