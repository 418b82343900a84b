use Rattle.std.proofs.Common.{◌≡◌, ℕ, ◌++◌, IfOk, sym, subst}
use Rattle.cl_values.specs.Wire.{four_bytes}
use Rattle.cl_values.specs.Rows.{entries_counted}
use Rattle.cl_codec.proofs.encoder.write_entry_count.Goals as goal

pub returns : goal.returns
returns c =
    subst (λ (n : ℕ). IfOk c.write_count.result (λ _. c.write_count.new.out.items ≡ c.args.out.now.items ++ four_bytes n)) (sym (entries_counted c.args.entries.now)) c.write_count.ensures
