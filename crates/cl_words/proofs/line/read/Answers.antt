use Rattle.std.proofs.Common.{◌∙◌, sym, ap, rules}
use Rattle.cl_words.specs.Words.{texts, same_texts, positional}
use Rattle.cl_words.proofs.SameTexts.{line_is}
use Rattle.cl_words.proofs.line.read.Goals as goal

pub returns-then-are_positional : goal.returns-then-are_positional
returns-then-are_positional c =
    line_is (texts c.args.words.now) _ c.in-Some.flag _ (sym c.keeps_rule.ensures ∙ c.if-not-keeps_rule.false) c.in-Some.ensures (search rules)
    (ap (λ given. same_texts (positional (texts c.args.words.now)) (texts given)) (sym c.as_slice.ensures.value) ∙ sym c.are_positional.ensures ∙ c.if-are_positional.true)
