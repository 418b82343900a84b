use Rattle.std.proofs.Common.{sym, subst}
use Rattle.cl_tables.specs.Variables.{key_of}
use Rattle.cl_tables.specs.Spelled.{IsHolder}
use Rattle.cl_tables.specs.Numbered.{by_place, owners_of}
use Rattle.cl_tables.proofs.OwnerKeys.{owner_is_holder}
use Rattle.cl_tables.proofs.tables.Tables.owner.Goals as goal

pub principal_of-requires : goal.principal_of-requires
principal_of-requires c =
    subst IsHolder (sym c.bytes.ensures)
    (owner_is_holder (by_place (owners_of c.args.self.now.nonfungibles.entries)) (key_of c.args.at.now) c.args.id.now c.in-Some.owner.now _ c.requires.spelled.nonfungibles c.nonfungible.ensures c.in-Some.ensures)
