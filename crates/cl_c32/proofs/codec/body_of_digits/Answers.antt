use Rattle.std.proofs.Common.{◌≡◌, ◌+◌, ◌-◌, ◌<◌, length, take, drop, replicate, Some, lit<, sym, ap, ◌∙◌, subst, arith}
use Rattle.std.specs.List.{All}
use Rattle.std.proofs.lemmas.List.{take_rest}
use Rattle.std.proofs.lemmas.List.Elements.{All-append, All-replicate}
use Rattle.cl_c32.proofs.Numbers.{put-behind, number_in-behind}
use Rattle.cl_c32.proofs.Texts.{body_of_digits-found, body_of_digits-other_zeros}
use Rattle.cl_c32.proofs.codec.body_of_digits.Goals as goal

pub bytes_of_digits-bytes-requires : goal.bytes_of_digits-bytes-requires
bytes_of_digits-bytes-requires c =
    let k = 48 - length c.args.digits.now in
    let given : All (λ d. d < 32) c.copy_from_slice.new.self = subst (All (λ d. d < 32)) (sym c.copy_from_slice.ensures.after) c.requires.digits in
    subst (All (λ d. d < 32)) (sym (put-behind 48 k (48 - k) c.copy_from_slice.new.self (omega arith) (omega arith)))
    (All-append (λ d. d < 32) (replicate k 0) c.copy_from_slice.new.self (All-replicate (λ d. d < 32) k 0 (lit< tt)) given)

pub returns-then-leading_zeros : goal.returns-then-leading_zeros
returns-then-leading_zeros c =
    let ds = c.args.digits.now in
    let k = 48 - length ds in
    let number = c.bytes_of_digits-bytes.ensures.number ∙ number_in-behind 32 48 k (48 - k) c.copy_from_slice.new.self ds (omega arith) (omega arith) c.copy_from_slice.ensures.after in
    sym (body_of_digits-other_zeros ds c.bytes_of_digits-bytes.result c.bytes_of_digits-bytes.ensures.size c.bytes_of_digits-bytes.ensures.bytes number
    (λ e. c.if-leading_zeros.true (c.leading_zeros.ensures.count ∙ e ∙ sym (ap (λ n. n + 6) c.leading_zeros-2.ensures.count))))

pub returns : goal.returns
returns c =
    let ds = c.args.digits.now in
    let k = 48 - length ds in
    let out = c.bytes_of_digits-bytes.result in
    let size : length out ≡ 30 = c.bytes_of_digits-bytes.ensures.size in
    let number = c.bytes_of_digits-bytes.ensures.number ∙ number_in-behind 32 48 k (48 - k) c.copy_from_slice.new.self ds (omega arith) (omega arith) c.copy_from_slice.ensures.after in
    let zeros = sym c.leading_zeros.ensures.count ∙ c.if-leading_zeros.false ∙ ap (λ n. n + 6) c.leading_zeros-2.ensures.count in
    let rest : take 24 (drop 6 out) ≡ drop 6 out = ap (λ n. take (n - 6) (drop 6 out)) (sym size) ∙ take_rest out 6 in
    ap Some (c.copy_from_slice-2.ensures.after ∙ rest)
    ∙ sym (body_of_digits-found ds out size c.bytes_of_digits-bytes.ensures.bytes number zeros)
