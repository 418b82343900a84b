use Rattle.std.proofs.Common.{ℕ, ◌+◌, List, ◌++◌, ap, sym, ◌∙◌, append-nil, append_assoc, drop}
use Rattle.std.specs.Prelude.{encode_utf8, encode_utf8_all}
use Rattle.std.proofs.lemmas.List.{at_drop_more, at_drop_all}
use Rattle.cl_codec.proofs.encoder.write_text.Goals as goal

pub loop-character-preserved : goal.loop-character-preserved
loop-character-preserved c =
    let rest : List ℕ = encode_utf8_all (drop (c.loop-character.character-index + 1) c.args.characters.now) in
    c.loop-character.invariant
    ∙ ap (λ (bytes : List ℕ). c.loop-character.out.items ++ bytes) (at_drop_more encode_utf8_all c.args.characters.now c.loop-character.character-index c.character-item.result c.loop-character-test.true ∙ ap (λ (character : ℕ). encode_utf8 character ++ rest) (sym c.character-item.is))
    ∙ sym (append_assoc c.loop-character.out.items (encode_utf8 c.character-item.result) rest)
    ∙ ap (λ (out : List ℕ). out ++ rest) (sym c.in_ok-write_character.ensures)

pub returns : goal.returns
returns c =
    sym (c.loop-character.invariant ∙ ap (λ (bytes : List ℕ). c.loop-character.out.items ++ bytes) (at_drop_all encode_utf8_all c.args.characters.now c.loop-character.character-index c.loop-character-test.false) ∙ append-nil c.loop-character.out.items)
