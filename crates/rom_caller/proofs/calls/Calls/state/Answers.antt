use Rattle.std.proofs.Common.{◌≡◌, refl, rules}
use Rattle.rom_caller.proofs.Ending.{began, went_on}
use Rattle.rom_caller.proofs.calls.Calls.state.Goals as goal

pub returns-then-began : goal.returns-then-began
returns-then-began g c = let e = began _ _ _ _ c.enter-began.ensures.began c.if-began.true c.leave.ensures.left in record { looked = (c.enter-began.new.self, c.reads-result.new.arg2, c.enter-began.ensures.entered, search rules, e.0, e.1) }

pub returns-else-began : goal.returns-else-began
returns-else-began g c = let e = went_on _ _ _ _ c.enter-began.ensures.began c.if-began.false refl in record { looked = (c.enter-began.new.self, c.reads-result.new.arg2, c.enter-began.ensures.entered, search rules, e.0, e.1) }
