use Rattle.std.proofs.Common.{◌≡◌}
use Rattle.rom_lr.specs.Seats.{IsSameSeat}
use Rattle.rom_store.proofs.lone.await_told.Given as goal

abbrev pub invariant-loop : goal.invariant-loop
invariant-loop g l = record {
  can_next : (goal.iterator-loop g).can_next l.iterator';
  is_finite : (goal.iterator-loop g).is_finite l.iterator';
  same : IsSameSeat l.fn.seat l.seat;
  still : l.seat.token.me.0 ≡ record l.fn.seat.token.me.0 { steps = l.seat.token.me.0.steps };
}
