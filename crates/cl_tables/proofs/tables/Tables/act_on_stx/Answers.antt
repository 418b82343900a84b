use Rattle.cl_tables.specs.declared.deed.Deed.TheVariants.{OnStx}
use Rattle.cl_tables.specs.Notes.{state_of}
use Rattle.cl_tables.specs.Tables.{held_in, rooms_in}
use Rattle.cl_tables.proofs.Spelled.{spelled_done}
use Rattle.cl_tables.proofs.Changes.{stx_gives, stx_change}
use Rattle.cl_tables.proofs.tables.Tables.act_on_stx.Goals as goal

pub returns-clause-gives : goal.returns-clause-gives
returns-clause-gives c = stx_gives (state_of (held_in c.args.self.now)) c.args.act c.perform.new.ledger.ledger c.in_ok-perform.ensures.done

pub returns-clause-noted : goal.returns-clause-noted
returns-clause-noted c =
    let state = state_of (held_in c.args.self.now) in
    let spelled = spelled_done (OnStx c.args.act) state _ c.requires.deed c.requires.sound.spelled (stx_gives state c.args.act c.perform.new.ledger.ledger c.in_ok-perform.ensures.done) in
    stx_change (held_in c.args.self.now) (rooms_in c.args.self.now) c.perform.new.ledger c.args.act c.requires.sound spelled c.in_ok-perform.ensures.back c.in_ok-perform.ensures.giver c.perform.ensures.keeps
