-- What seats know, and of which table they are.
use Rattle.std.specs.Prelude.{◌≡◌, ℕ, ◌+◌, length}
use Rattle.rom_lr.specs.declared.note.Note.{Note}
use Rattle.rom_lr.specs.declared.seats.Seat.{Seat}
use Rattle.rom_lr.specs.declared.seats.WriterSeat.{WriterSeat}
use Rattle.rom_lr.specs.declared.shared.Shared.{Shared}
use Rattle.rom_rule.specs.Views.{base_of, plan_of}
use Rattle.rom_rule.specs.declared.views.Base.{Base}
use Rattle.rom_rule.specs.declared.views.Plan.{Plan}
use Rattle.rom_rule.specs.declared.views.View.{View}

-- what a caller knows
abbrev pub view : Seat → View
view s = s.token.me.0

-- what the writer knows
abbrev pub writer_view : WriterSeat → View
writer_view s = s.token.me.0

-- the writer's plan, which has the published history, the records, both sides, and this pass's found calls
abbrev pub plan : WriterSeat → Plan
plan s = plan_of (writer_view s)

-- how many steps the writer has made
abbrev pub steps_of : WriterSeat → ℕ
steps_of s = (writer_view s).steps

-- what a note tells
abbrev pub noted : Note → View
noted n = n.token.me.0

-- the caller was told what became of each of its calls
abbrev pub IsAnswered : Seat → Type 0
IsAnswered s = length (view s).calls ≡ length (view s).outcomes

-- the caller was told what became of each of its calls but the last one
abbrev pub IsPosted : Seat → Type 0
IsPosted s = length (view s).calls ≡ length (view s).outcomes + 1

-- a call keeps the seat's table, its caller's number, and what the table was opened with
abbrev pub IsSameSeat : Seat → Seat → Type 0
IsSameSeat s t = (t.token.table_id ≡ s.token.table_id) × (t.number ≡ s.number) × ((view t).base ≡ (view s).base)

-- so of the writer's seat, whose view it may change
abbrev pub IsSameWriter : WriterSeat → WriterSeat → Type 0
IsSameWriter s t = (t.token.table_id ≡ s.token.table_id) × (t.token.id ≡ s.token.id)

-- Of the table of an object with these types.
module _ {Object Call Query Reply Answer : Type 0} where
  -- what a table was opened with
  abbrev pub opened_with : Shared Object Call Query Reply Answer → Base
  opened_with shared = base_of shared.table.shared.key

  -- the seat is one of this table, and knows what it was opened with
  abbrev pub IsSeatOf : Shared Object Call Query Reply Answer → Seat → Type 0
  IsSeatOf shared s = (s.token.table_id ≡ shared.table.shared.table_id) × ((view s).base ≡ opened_with shared)

  -- the writer's seat is of this table, and knows what it was opened with
  abbrev pub IsWriterOf : Shared Object Call Query Reply Answer → WriterSeat → Type 0
  IsWriterOf shared s = (s.token.table_id ≡ shared.table.shared.table_id) × ((writer_view s).base ≡ opened_with shared)

  -- the note is one of this table
  abbrev pub IsNoteOf : Shared Object Call Query Reply Answer → Note → Type 0
  IsNoteOf shared n = n.token.table_id ≡ shared.table.shared.table_id
