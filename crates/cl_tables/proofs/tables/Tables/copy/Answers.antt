use Rattle.cl_tables.specs.declared.tables.Tables.{Tables}
use Rattle.cl_tables.specs.Tables.{held_in}
use Rattle.cl_tables.proofs.Grafted.{tables_copied, copied_sound, ledgers_placed, owners_placed}
use Rattle.cl_tables.proofs.tables.Tables.copy.Goals as goal

pub returns-clause-state : goal.returns-clause-state
returns-clause-state c =
    let new : Tables = record {
      variables = c.in_ok-copy.field-0;
      entries = c.in_ok-copy-2.field-0;
      fungibles = c.in_ok-copy_tokens.field-0;
      nonfungibles = c.in_ok-copy_tokens-2.field-0;
      stx = c.in_ok-copy-3.field-0;
      fungibles_touched = c.none.result;
      nonfungibles_touched = c.none-2.result;
    } in
    tables_copied c.args.self.now new c.in_ok-copy.ensures c.in_ok-copy-2.ensures c.in_ok-copy_tokens.ensures.same c.in_ok-copy_tokens-2.ensures.same c.in_ok-copy-3.ensures

pub returns-clause-sound : goal.returns-clause-sound
returns-clause-sound c =
    let new : Tables = record {
      variables = c.in_ok-copy.field-0;
      entries = c.in_ok-copy-2.field-0;
      fungibles = c.in_ok-copy_tokens.field-0;
      nonfungibles = c.in_ok-copy_tokens-2.field-0;
      stx = c.in_ok-copy-3.field-0;
      fungibles_touched = c.none.result;
      nonfungibles_touched = c.none-2.result;
    } in
    copied_sound (held_in c.args.self.now) (held_in new) c.requires
    (tables_copied c.args.self.now new c.in_ok-copy.ensures c.in_ok-copy-2.ensures c.in_ok-copy_tokens.ensures.same c.in_ok-copy_tokens-2.ensures.same c.in_ok-copy-3.ensures)
    (ledgers_placed c.in_ok-copy_tokens.field-0.entries c.in_ok-copy_tokens.ensures.placed) (owners_placed c.in_ok-copy_tokens-2.field-0.entries c.in_ok-copy_tokens-2.ensures.placed)
