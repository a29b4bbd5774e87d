use Rattle.std.proofs.Common.{◌≡◌, length}
use Rattle.rom_lr.specs.Opening.{AreNewSeats, dealt_view}
use Rattle.rom_lr.specs.Seats.{IsWriterOf, opened_with, writer_view}
use Rattle.rom_lr.proofs.shared.Shared.deal_all.Given as goal

-- the first callers have their seats
abbrev pub invariant-loop-i : goal.invariant-loop-i
invariant-loop-i g l = IsWriterOf l.fn.self l.writer × (writer_view l.writer ≡ dealt_view (opened_with l.fn.self) l.i)
    × (length l.seats.items ≡ l.i) × AreNewSeats l.fn.self l.seats.items
