use Rattle.std.proofs.Common.{◌≡◌, ◌++◌, drop}
use Rattle.std.specs.List.{flat_map}
use Rattle.cl_text.specs.Printed.{ascii_text}
use Rattle.cl_text.proofs.printer.write_ascii_bytes.Given as goal

abbrev pub invariant-loop-byte : goal.invariant-loop-byte
invariant-loop-byte l =
    l.initial.out.items ++ flat_map ascii_text l.bytes ≡ l.out.items ++ flat_map ascii_text (drop l.byte-index l.bytes)
