use Rattle.std.proofs.Common.{◌∙◌, refl, sym}
use Rattle.cl_forms.proofs.Rows.{by_length, other_words, word_native, word_other}
use Rattle.cl_forms.proofs.reserved.is_word.Goals as goal

pub returns-then-is_native : goal.returns-then-is_native
returns-then-is_native c = c.if-is_native.true ∙ word_native c.args.version c.args.name.now (sym c.is_native.ensures ∙ c.if-is_native.true)

pub returns-else-is_native : goal.returns-else-is_native
returns-else-is_native c =
    word_other c.args.version c.args.name.now c.is_one_by_length.result (sym c.is_native.ensures ∙ c.if-is_native.false)
    (c.is_one_by_length.ensures ∙ by_length _ _ other_words 26 c.args.name.now refl refl)
