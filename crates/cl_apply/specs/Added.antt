-- What a merged tuple has of its first.
use Rattle.std.specs.Prelude.{ℕ, ◌+◌, length, if◌then◌else◌}
use Rattle.cl_values.specs.Tree.{Entries, NoEntry, Entry}
use Rattle.cl_values.specs.Wire.{size_of}
use Rattle.cl_values.specs.Tuples.{is_among}

-- the size of the entries whose keys others don't have
abbrev pub added_size : Entries → Entries → ℕ
added_size NoEntry fs = 0
added_size (Entry k v es) fs = (if is_among k fs then 0 else (1 + length k + size_of v)) + added_size es fs
