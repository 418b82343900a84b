use Rattle.std.proofs.Common.{◌≡◌, ◌++◌}
use Rattle.cl_values.specs.Wire.{name_wire}
use Rattle.cl_events.specs.State.{holder}
use Rattle.cl_tables.proofs.reading.place_from.Goals as goal

pub returns-clause-spelled : goal.returns-clause-spelled
returns-clause-spelled c =
    let contract : holder c.in_ok-contract.contract ≡ c.args.contract.now = c.in_ok-contract.ensures.spelled in
    let name : c.in-Some.name ≡ c.args.name.now = c.in-Some.ensures.1 in
    λ i. contract i ++ name_wire (name i)
