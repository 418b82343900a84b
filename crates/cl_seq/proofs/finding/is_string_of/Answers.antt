use Rattle.std.proofs.Common.{rules, ◌≡◌, ◌∷◌, [], ap, sym, ◌∙◌, length, ◌≢◌, arith, nat_eq, false}
use Rattle.cl_values.specs.Tree.{Utf8V}
use Rattle.cl_values.specs.Valid.{IsVal}
use Rattle.cl_values.specs.Sequences.{equal}
use Rattle.cl_seq.proofs.Alike.{string_single, string_other}
use Rattle.cl_seq.proofs.finding.is_string_of.Goals as goal

pub returns-then-len-eq1 : goal.returns-then-len-eq1
unfolding lib.Utf8.encode
returns-then-len-eq1 c =
    let at : c.args.item.now ≡ Utf8V c.in-Utf8.characters.items = search rules in
    let here : IsVal (Utf8V c.in-Utf8.characters.items) = search rules in
    let own : IsVal (Utf8V (c.args.character ∷ [])) = search rules in
    let one : length c.in-Utf8.characters.items ≡ 1 = omega (arith, c.if-len-eq1.true, c.len.ensures, c.in-Utf8.characters.ok.0) in
    string_single c.one_spelling.ensures.own c.in-Utf8.characters.items c.args.character c.index.result.now own here one c.index.ensures
    ∙ ap (equal (Utf8V (c.args.character ∷ []))) (sym at)

pub returns-else-len-eq1 : goal.returns-else-len-eq1
unfolding lib.Utf8.encode
returns-else-len-eq1 c =
    let at : c.args.item.now ≡ Utf8V c.in-Utf8.characters.items = search rules in
    let here : IsVal (Utf8V c.in-Utf8.characters.items) = search rules in
    let own : IsVal (Utf8V (c.args.character ∷ [])) = search rules in
    let other : length c.in-Utf8.characters.items ≢ 1 = omega (arith, c.if-len-eq1.false, c.len.ensures, c.in-Utf8.characters.ok.0) in
    let off : nat_eq c.len.result 1 ≡ false = grind (arith, c.if-len-eq1.false) in
    off ∙ string_other c.one_spelling.ensures.own c.in-Utf8.characters.items c.args.character own here other ∙ ap (equal (Utf8V (c.args.character ∷ []))) (sym at)
