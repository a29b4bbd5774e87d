use Rattle.std.proofs.Common.{◌≡◌, ◌+◌, ◌∷◌, take, length}
use Rattle.rom_announce.specs.Answering.{with_reply}
use Rattle.rom_lr.specs.Writing.{SetsPlan}
use Rattle.rom_rule.specs.CallKinds.{altered}
use Rattle.rom_rule.specs.Views.{plan_of}
use Rattle.rom_announce.proofs.answering.store_reply.Given as goal

-- the first words of the reply are stored
abbrev pub invariant-loop-i : goal.invariant-loop-i
invariant-loop-i g l = (l.seat.token.me.0.steps ≡ l.fn.seat.token.me.0.steps + l.i) × SetsPlan l.fn.seat l.seat (altered l.caller (with_reply (length l.reply ∷ take l.i l.reply)) (plan_of l.fn.seat.token.me.0))
