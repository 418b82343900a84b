use Rattle.std.proofs.Common.{◌≡◌, ◌++◌, drop}
use Rattle.std.specs.Prelude.{encode_utf8_all}
use Rattle.cl_codec.proofs.encoder.write_text.Given as goal

abbrev pub invariant-loop-character : goal.invariant-loop-character
invariant-loop-character l =
    l.initial.out.items ++ encode_utf8_all l.characters ≡ l.out.items ++ encode_utf8_all (drop l.character-index l.characters)
