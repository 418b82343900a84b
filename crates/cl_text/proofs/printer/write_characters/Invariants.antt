use Rattle.std.proofs.Common.{◌≡◌, ◌++◌, drop}
use Rattle.std.specs.List.{flat_map}
use Rattle.cl_text.specs.Printed.{unicode_text}
use Rattle.cl_text.proofs.printer.write_characters.Given as goal

abbrev pub invariant-loop-character : goal.invariant-loop-character
invariant-loop-character l =
    l.initial.out.items ++ flat_map unicode_text l.characters ≡ l.out.items ++ flat_map unicode_text (drop l.character-index l.characters)
