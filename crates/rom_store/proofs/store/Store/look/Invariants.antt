use Rattle.std.proofs.Common.{◌≡◌}
use Rattle.rom_lr.specs.Seats.{IsSameSeat}
use Rattle.rom_store.proofs.store.Store.look.Given as goal

-- only the number of steps has changed
abbrev pub invariant-loop-looked : goal.invariant-loop-looked
invariant-loop-looked g l = IsSameSeat l.fn.seat l.seat × (l.seat.token.me.0 ≡ record l.fn.seat.token.me.0 { steps = l.seat.token.me.0.steps })
