use Rattle.std.proofs.Common.{◌≡◌, ◌<◌, true}
use Rattle.rom_model.specs.Machine.{on_words}
use Rattle.rom_model.specs.declared.record.Fate.{Fate}
use Rattle.rom_rule.specs.Views.{is_made, plan_of}
use Rattle.rom_lr.specs.Writing.{SetsPlan}
use Rattle.rom_combine.specs.Scanning.{but_requests}
use Rattle.rom_combine.specs.Answering.{HasGiven, IsRecordedBy, SameCalls}
use Rattle.rom_combine.proofs.answering.answer_all.Given as goal

-- the first answers are given
abbrev pub invariant-loop-i : goal.invariant-loop-i
invariant-loop-i g l = SetsPlan l.fn.seat l.seat (plan_of l.seat.token.me.0) × (l.seat.token.me.0.base ≡ l.fn.seat.token.me.0.base)
    × (is_made (plan_of l.fn.seat.token.me.0).mine ≡ true → but_requests (plan_of l.seat.token.me.0) ≡ but_requests (plan_of l.fn.seat.token.me.0))
    × ((fate : Fate) × HasGiven g.O.Object.Contents (on_words g.O.Object.machine) l.fn.seat.token.me.0.base fate l.before l.after (plan_of l.seat.token.me.0) l.i l.answers)
    × (l.i ≡ 0 → plan_of l.seat.token.me.0 ≡ plan_of l.fn.seat.token.me.0)
    × (0 < l.i → IsRecordedBy g.O.Object.Contents (on_words g.O.Object.machine) l.fn.seat.token.me.0.base (plan_of l.fn.seat.token.me.0) (plan_of l.seat.token.me.0) l.before l.after l.answers)
    × SameCalls (plan_of l.fn.seat.token.me.0) (plan_of l.seat.token.me.0)
