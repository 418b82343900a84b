use Rattle.std.proofs.Common.{◌≡◌, ◌-◌, ℕ, length, refl, arith, ap, sym, ◌∙◌, nat_cmp}
use Rattle.std.specs.Prelude.{encode_utf8_all}
use Rattle.std.specs.declared.cmp.Ordering.{Ordering}
use Rattle.std.specs.Ordering.{ordering_then}
use Rattle.std.specs.Cmp.Lexicographic.{slice_cmp}
use Rattle.cl_values.specs.Wire.{four_bytes}
use Rattle.cl_values.proofs.Spellings.{long_cmp}
use Rattle.cl_values.proofs.leaves.compare_characters.Goals as goal

pub returns : goal.returns
returns c =
    let n : ℕ = length (encode_utf8_all c.args.a.now) in
    let m : ℕ = length (encode_utf8_all c.args.b.now) in
    let first : c.characters_size-first.result - 5 ≡ n = omega (arith, c.characters_size-first.ensures.counted, c.requires.first) in
    let second : c.characters_size-second.result - 5 ≡ m = omega (arith, c.characters_size-second.ensures.counted, c.requires.second) in
    let counts : c.compare_counts.result ≡ slice_cmp nat_cmp (four_bytes n) (four_bytes m) = c.compare_counts.ensures.order ∙ ap (λ (k : ℕ). slice_cmp nat_cmp (four_bytes k) (four_bytes (c.characters_size-second.result - 5))) first ∙ ap (λ (k : ℕ). slice_cmp nat_cmp (four_bytes n) (four_bytes k)) second in
    c.then.ensures
    ∙ ap (λ (o : Ordering). ordering_then o c.compare_texts.result) counts
    ∙ ap (λ (o : Ordering). ordering_then (slice_cmp nat_cmp (four_bytes n) (four_bytes m)) o) c.compare_texts.ensures
    ∙ sym (long_cmp (four_bytes n) (four_bytes m) (encode_utf8_all c.args.a.now) (encode_utf8_all c.args.b.now) refl)
