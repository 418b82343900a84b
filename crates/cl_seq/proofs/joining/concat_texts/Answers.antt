use Rattle.std.proofs.Common.{rules, ◌≡◌, ◌+◌, ◌++◌, arith}
use Rattle.std.specs.Int.{w32}
use Rattle.std.proofs.Math.Facts.{Fits-of_lt}
use Rattle.cl_values.specs.Tree.{AsciiV}
use Rattle.cl_values.specs.Valid.{IsVal}
use Rattle.cl_seq.proofs.Bytes.{texts_fine, bytes_short, bytes_counted}
use Rattle.cl_seq.proofs.joining.concat_texts.Goals as goal

pub overflow_cast-size : goal.overflow_cast-size
overflow_cast-size c =
    let second : IsVal (AsciiV c.in-Ascii.others.items) = search rules in
    let whole : c.in_ok-bytes-in-Ascii.bytes.items ≡ c.args.bytes.items ++ c.in-Ascii.others.items = search rules in
    Fits-of_lt {w = w32} {n = c.len.result} (bytes_counted c.len.result (bytes_short c.args.bytes.items c.in-Ascii.others.items c.in_ok-bytes-in-Ascii.bytes.items c.len.result whole c.requires.valid.size second.size (omega (arith, c.len.ensures, c.in_ok-bytes-in-Ascii.bytes.ok.0))))

pub overflow_add-size : goal.overflow_add-size
overflow_add-size c =
    let second : IsVal (AsciiV c.in-Ascii.others.items) = search rules in
    let whole : c.in_ok-bytes-in-Ascii.bytes.items ≡ c.args.bytes.items ++ c.in-Ascii.others.items = search rules in
    Fits-of_lt {w = w32} {n = 5 + c.len.result} (bytes_short c.args.bytes.items c.in-Ascii.others.items c.in_ok-bytes-in-Ascii.bytes.items c.len.result whole c.requires.valid.size second.size (omega (arith, c.len.ensures, c.in_ok-bytes-in-Ascii.bytes.ok.0)))

pub made-requires-clause-fine : goal.made-requires-clause-fine
made-requires-clause-fine c =
    let second : IsVal (AsciiV c.in-Ascii.others.items) = search rules in
    let whole : c.in_ok-bytes-in-Ascii.bytes.items ≡ c.args.bytes.items ++ c.in-Ascii.others.items = search rules in
    texts_fine c.args.bytes.items c.in-Ascii.others.items c.in_ok-bytes-in-Ascii.bytes.items whole c.requires.valid second
