use Rattle.std.proofs.Common.{◌≡◌, length}
use Rattle.cl_lines.proofs.addresses.AddressCache.new.Given as goal

abbrev pub invariant-loop : goal.invariant-loop
invariant-loop l = length l.slots.items ≡ l.counter
