use Rattle.std.proofs.Common.{◌-◌, length, take, drop}
use Rattle.cl_c32.proofs.Characters.{digit_values-below}
use Rattle.cl_c32.proofs.codec.decode.Goals as goal

pub address_of_digits-requires-clause-digits : goal.address_of_digits-requires-clause-digits
address_of_digits-requires-clause-digits c =
    let text = c.args.text.now in
    digit_values-below (take (length text - 1) (drop 1 text)) c.digits_of-digits.result (47 - length (take (length text - 1) (drop 1 text))) (length text - 1) c.digits_of-digits.ensures
