-- What tables hold, and what a change of them is to it.
use Rattle.std.specs.Prelude.{◌≡◌, map}
use Rattle.cl_tables.specs.declared.tables.Tables.{Tables}
use Rattle.cl_tables.specs.declared.note.Note.{Note}
use Rattle.cl_tables.specs.Numbered.{ledgers_of, owners_of}
use Rattle.cl_tables.specs.Notes.{Held, Rooms, undone, IsReady, Serves, IsSound, fungibles_in, nonfungibles_in}

abbrev pub held_in : Tables → Held
held_in t = record {
  variables = t.variables.content;
  entries = t.entries.content;
  fungibles = ledgers_of t.fungibles.entries;
  nonfungibles = owners_of t.nonfungibles.entries;
  stx = t.stx.ledger;
}

abbrev pub rooms_in : Tables → Rooms
rooms_in t = record {
  variables = t.variables.room;
  entries = t.entries.room;
  fungibles = map (λ e. e.1.room) t.fungibles.entries;
  nonfungibles = map (λ e. e.1.room) t.nonfungibles.entries;
  stx = t.stx.room;
}

-- a change of what is held, and of the room for it, which the note undoes
pub record IsChange (note : Note) (old new : Held) (room more : Rooms) : Type 0 where
  pub back : undone note new ≡ old
  pub ready : IsReady more 0 0 note
  pub rooms : Serves 0 0 (fungibles_in note) (nonfungibles_in note) room more
  pub sound : IsSound new

-- nothing changed but the room, of which there may be more
pub record IsAsBefore (old new : Held) (room more : Rooms) : Type 0 where
  pub held : new ≡ old
  pub rooms : Serves 0 0 0 0 room more

abbrev pub Changes : Note → Tables → Tables → Type 0
Changes note old new = IsChange note (held_in old) (held_in new) (rooms_in old) (rooms_in new)

abbrev pub Stays : Tables → Tables → Type 0
Stays old new = IsAsBefore (held_in old) (held_in new) (rooms_in old) (rooms_in new)
