use Rattle.cl_text.specs.Printed.{ascii_text}
use Rattle.cl_text.proofs.Written.{one_mapped, all_mapped}
use Rattle.cl_text.proofs.printer.write_ascii_bytes.Goals as goal

pub loop-byte-preserved : goal.loop-byte-preserved
loop-byte-preserved c = one_mapped ascii_text c.args.bytes.now c.loop-byte.byte-index c.loop-byte.out.items _ c.loop-byte.invariant 0 c.write_ascii_byte.new.out.items c.loop-byte-test.true c.in_ok-write_ascii_byte.ensures

pub returns : goal.returns
returns c = all_mapped ascii_text c.args.bytes.now c.loop-byte.byte-index c.loop-byte.out.items _ c.loop-byte.invariant c.loop-byte-test.false
