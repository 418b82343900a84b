use Rattle.std.proofs.Common.{◌≡◌, drop, map}
use Rattle.cl_forms.specs.Heads.{row_in}
use Rattle.cl_forms.specs.NativeRows.{entry_seen, rows_had}
use Rattle.cl_forms.proofs.natives.row_among.Given as goal

abbrev pub invariant-loop-native : goal.invariant-loop-native
invariant-loop-native l = row_in (rows_had l.version (map entry_seen (drop l.native-index l.natives))) l.name ≡ row_in (rows_had l.version (map entry_seen l.natives)) l.name
