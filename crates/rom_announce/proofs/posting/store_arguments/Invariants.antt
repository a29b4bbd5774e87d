use Rattle.std.proofs.Common.{◌≡◌, ◌+◌, ◌∷◌, take, length}
use Rattle.rom_lr.specs.Seats.{IsSameSeat}
use Rattle.rom_announce.proofs.posting.store_arguments.Given as goal

-- the first words are stored
abbrev pub invariant-loop-i : goal.invariant-loop-i
invariant-loop-i g l = let v = l.fn.seat.token.me.0 in IsSameSeat l.fn.seat l.seat × (l.seat.token.me.0 ≡ record v { laid = length l.words ∷ take l.i l.words; steps = v.steps + l.i })
