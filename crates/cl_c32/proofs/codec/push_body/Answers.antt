use Rattle.std.proofs.Common.{◌≡◌, ◌+◌, ◌-◌, ◌<◌, ◌≤◌, ◌++◌, length, map, take, drop, sym, ap, ◌∙◌, arith, lit≤}
use Rattle.std.specs.List.{All}
use Rattle.std.proofs.lemmas.List.{length-append, length-map, map-append, append_assoc}
use Rattle.std.proofs.lemmas.List.Elements.{All-from_get_or}
use Rattle.cl_c32.specs.Alphabet.{character_of}
use Rattle.cl_c32.specs.Digits.{regrouped_digits}
use Rattle.cl_c32.proofs.Numbers.{number_in-behind}
use Rattle.cl_c32.proofs.Texts.{front-below, regrouped_digits-parts, length-regrouped_digits-le}
use Rattle.cl_c32.proofs.codec.push_body.Goals as goal

pub push_digits-requires-clause-digits : goal.push_digits-requires-clause-digits
push_digits-requires-clause-digits c = front-below c.args.body.now c.leading_zeros-zeros.result c.leading_zeros-zeros.ensures.count

pub push_digits-requires-2-clause-room : goal.push_digits-requires-2-clause-room
push_digits-requires-2-clause-room c =
    let bytes : All (λ b. b < 256) c.args.body.now = All-from_get_or (λ b. b < 256) c.args.body.now 0 (λ i h. c.fits-body i) in
    let number = c.digits_of_bytes-digits.ensures.number ∙ number_in-behind 256 25 1 24 c.copy_from_slice.new.self c.args.body.now (lit≤ tt) (lit≤ tt) c.copy_from_slice.ensures.after in
    let front = take c.leading_zeros-zeros.result c.args.body.now in
    let rest = take (40 - c.leading_zeros-first.result) (drop c.leading_zeros-first.result c.digits_of_bytes-digits.result) in
    let whole : front ++ rest ≡ regrouped_digits 256 32 c.args.body.now =
    regrouped_digits-parts c.args.body.now c.digits_of_bytes-digits.result c.leading_zeros-zeros.result c.leading_zeros-first.result c.digits_of_bytes-digits.ensures.digits number c.leading_zeros-zeros.ensures.count c.leading_zeros-first.ensures.count c.digits_of_bytes-digits.ensures.size in
    let long : length front + length rest ≤ 43 =
    let most = length-regrouped_digits-le c.args.body.now c.told-body bytes in
    let parts = length-append front rest in
    let same = ap length whole in
    omega (arith, most, parts, same)
    in
    let text : length c.push_digits.new.text ≡ length c.args.text.now + length front =
    ap length c.push_digits.ensures ∙ length-append c.args.text.now (map character_of front) ∙ ap (λ n. length c.args.text.now + n) (length-map front character_of) in
    omega (arith, long, text, c.requires)

pub returns : goal.returns
returns c =
    let number = c.digits_of_bytes-digits.ensures.number ∙ number_in-behind 256 25 1 24 c.copy_from_slice.new.self c.args.body.now (lit≤ tt) (lit≤ tt) c.copy_from_slice.ensures.after in
    let front = take c.leading_zeros-zeros.result c.args.body.now in
    let rest = take (40 - c.leading_zeros-first.result) (drop c.leading_zeros-first.result c.digits_of_bytes-digits.result) in
    let whole : front ++ rest ≡ regrouped_digits 256 32 c.args.body.now =
    regrouped_digits-parts c.args.body.now c.digits_of_bytes-digits.result c.leading_zeros-zeros.result c.leading_zeros-first.result c.digits_of_bytes-digits.ensures.digits number c.leading_zeros-zeros.ensures.count c.leading_zeros-first.ensures.count c.digits_of_bytes-digits.ensures.size in
    c.push_digits-2.ensures ∙ ap (λ t. t ++ map character_of rest) c.push_digits.ensures
    ∙ append_assoc c.args.text.now (map character_of front) (map character_of rest)
    ∙ ap (λ t. c.args.text.now ++ t) (sym (map-append character_of front rest) ∙ ap (map character_of) whole)
