use Rattle.std.proofs.Common.{ℕ, ◌++◌, ◌∙◌, ap}
use Rattle.cl_text.specs.Printed.{unicode_text}
use Rattle.cl_text.proofs.Written.{one_mapped, all_mapped}
use Rattle.cl_text.proofs.printer.write_characters.Goals as goal

pub loop-character-preserved : goal.loop-character-preserved
loop-character-preserved c =
    one_mapped unicode_text c.args.characters.now c.loop-character.character-index c.loop-character.out.items _ c.loop-character.invariant c.character-item.result c.write_character.new.out.items c.loop-character-test.true
    (c.in_ok-write_character.ensures ∙ ap (λ (x : ℕ). c.loop-character.out.items ++ unicode_text x) c.character-item.is)

pub returns : goal.returns
returns c = all_mapped unicode_text c.args.characters.now c.loop-character.character-index c.loop-character.out.items _ c.loop-character.invariant c.loop-character-test.false
