use Rattle.std.proofs.Common.{◌<◌, length, arith}
use Rattle.cl_words.proofs.Few.{none_of_few}
use Rattle.cl_words.proofs.words.command_of.Goals as goal

pub returns-in-empty : goal.returns-in-empty
returns-in-empty c =
    let few : length c.args.words.now < 2 = omega (arith, c.in-empty.len_below) in
    none_of_few c.args.words.now few
