use Rattle.cl_tables.specs.declared.tables.Tables.{Tables}
use Rattle.cl_tables.specs.Tables.{held_in}
use Rattle.cl_tables.proofs.Grafted.{tables_grafted, grafted_sound, ledgers_placed, owners_placed}
use Rattle.cl_tables.proofs.tables.Tables.grafted.Goals as goal

pub returns-clause-state : goal.returns-clause-state
returns-clause-state c =
    let new : Tables = record {
      variables = c.in_ok-graft_variables.field-0;
      entries = c.in_ok-graft_entries.field-0;
      fungibles = c.in_ok-graft_tokens.field-0;
      nonfungibles = c.in_ok-graft_tokens-2.field-0;
      stx = c.in_ok-graft_stx.field-0;
      fungibles_touched = c.none.result;
      nonfungibles_touched = c.none-2.result;
    } in
    tables_grafted c.args.spots.now c.args.from.now c.args.self.now new c.in_ok-graft_variables.ensures c.in_ok-graft_entries.ensures c.in_ok-graft_tokens.ensures.joined c.in_ok-graft_tokens-2.ensures.joined c.in_ok-graft_stx.ensures

pub returns-clause-sound : goal.returns-clause-sound
returns-clause-sound c =
    let new : Tables = record {
      variables = c.in_ok-graft_variables.field-0;
      entries = c.in_ok-graft_entries.field-0;
      fungibles = c.in_ok-graft_tokens.field-0;
      nonfungibles = c.in_ok-graft_tokens-2.field-0;
      stx = c.in_ok-graft_stx.field-0;
      fungibles_touched = c.none.result;
      nonfungibles_touched = c.none-2.result;
    } in
    grafted_sound c.args.spots.now (held_in c.args.from.now) (held_in c.args.self.now) (held_in new) c.requires.from c.requires.own
    (tables_grafted c.args.spots.now c.args.from.now c.args.self.now new c.in_ok-graft_variables.ensures c.in_ok-graft_entries.ensures c.in_ok-graft_tokens.ensures.joined c.in_ok-graft_tokens-2.ensures.joined c.in_ok-graft_stx.ensures)
    (ledgers_placed c.in_ok-graft_tokens.field-0.entries c.in_ok-graft_tokens.ensures.placed) (owners_placed c.in_ok-graft_tokens-2.field-0.entries c.in_ok-graft_tokens-2.ensures.placed)
