use Rattle.std.proofs.Common.{◌≡◌, ℕ, ◌+◌}
use Rattle.rom_model.specs.Machine.{on_words}
use Rattle.rom_rule.specs.Views.{plan_of}
use Rattle.rom_rule.specs.Records.{IsCall}
use Rattle.rom_lr.specs.Writing.{SetsPlan}
use Rattle.rom_combine.specs.Scanning.{IsScan}
use Rattle.rom_combine.proofs.scanning.scan.Given as goal

-- the callers before this one are scanned
abbrev pub invariant-loop-caller : goal.invariant-loop-caller
invariant-loop-caller g l = (last : ℕ) × (last + 1 ≡ l.caller) × IsScan (IsCall (on_words g.O.Object.machine) l.fn.seat.token.me.0.base) (plan_of l.fn.seat.token.me.0) (plan_of l.seat.token.me.0) last l.found.items
    × SetsPlan l.fn.seat l.seat (plan_of l.seat.token.me.0)
