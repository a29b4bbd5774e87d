use Rattle.std.proofs.Common.{◌≡◌, length}
use Rattle.rom_lr.specs.Seats.{IsSeatOf}
use Rattle.rom_rows.proofs.crowd.await_answer.Given as goal

abbrev pub invariant-loop : goal.invariant-loop
invariant-loop l = IsSeatOf l.shared l.seat
    × (l.seat.token.me.0.position ≡ l.fn.seat.token.me.0.position)
    × (length l.seat.token.me.0.calls ≡ length l.fn.seat.token.me.0.calls)
    × (length l.seat.token.me.0.outcomes ≡ length l.fn.seat.token.me.0.outcomes)
