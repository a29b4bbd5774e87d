use Rattle.std.proofs.Common.{◌≡◌, ◌+◌, ◌∷◌, length}
use Rattle.rom_model.specs.Machine.{on_words}
use Rattle.rom_announce.specs.Scanning.{with_words}
use Rattle.rom_lr.specs.Writing.{SetsPlan}
use Rattle.rom_rule.specs.CallKinds.{altered}
use Rattle.rom_rule.specs.Records.{IsCall}
use Rattle.rom_rule.specs.Views.{plan_of}
use Rattle.rom_announce.proofs.scanning.load_arguments.Given as goal

-- the first words of the call are loaded
abbrev pub invariant-loop-i : goal.invariant-loop-i
invariant-loop-i g l = (length l.args ≡ l.i) × (l.i ≡ l.count → IsCall (on_words g.O.Object.machine) l.fn.seat.token.me.0.base l.args)
    × (l.seat.token.me.0.steps ≡ l.fn.seat.token.me.0.steps + l.i) × SetsPlan l.fn.seat l.seat (altered l.caller (with_words (l.count ∷ l.args)) (plan_of l.fn.seat.token.me.0))
