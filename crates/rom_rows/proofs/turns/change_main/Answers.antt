use Rattle.rom_rule.specs.Views.{plan_of}
use Rattle.rom_rule.specs.declared.views.View.{View}
use Rattle.rom_rows.proofs.Untouched.{may_return}
use Rattle.rom_rows.proofs.turns.change_main.Goals as goal

pub switch-requires-clause-can : goal.switch-requires-clause-can
switch-requires-clause-can g c = let v : View = c.to_main.new.writer.token.me.0 in may_return v.base (plan_of v) c.to_main.ensures.rests
