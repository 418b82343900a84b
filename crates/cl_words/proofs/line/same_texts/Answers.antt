use Rattle.std.proofs.Common.{◌≤◌, length, ◌∙◌, arith}
use Rattle.cl_words.proofs.SameTexts.{ends, longer}
use Rattle.cl_words.proofs.line.same_texts.Goals as goal

pub returns-then-at-expected : goal.returns-then-at-expected
returns-then-at-expected c = longer c.args.words.now c.args.expected.now _ _ c.loop-i-test.true c.if-at-expected.true ∙ c.loop-i.invariant

pub returns : goal.returns
returns c =
    let past : length c.args.words.now ≤ c.loop-i.i = omega (arith, c.loop-i-test.false) in
    ends c.args.words.now c.args.expected.now _ _ past ∙ c.loop-i.invariant
