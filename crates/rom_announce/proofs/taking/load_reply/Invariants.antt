use Rattle.std.proofs.Common.{◌≡◌, ◌+◌, take, drop, length}
use Rattle.rom_lr.specs.Seats.{IsSameSeat}
use Rattle.rom_rule.specs.CallKinds.{IsLast}
use Rattle.rom_rule.specs.Calls.{answer_words}
use Rattle.rom_rule.specs.Views.{Told}
use Rattle.rom_announce.proofs.taking.load_reply.Given as goal

-- the first words of the reply are loaded
abbrev pub invariant-loop-i : goal.invariant-loop-i
invariant-loop-i g l = let v = l.fn.seat.token.me.0 in IsSameSeat l.fn.seat l.seat × (l.seat.token.me.0 ≡ record v { steps = v.steps + l.i }) × (length l.reply ≡ l.i)
    × ((x : Told) → IsLast v x → length (answer_words x.1) ≡ l.count + 2 → l.reply ≡ take l.i (drop 2 (answer_words x.1)))
