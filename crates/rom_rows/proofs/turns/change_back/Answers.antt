use Rattle.rom_rule.specs.Views.{plan_of}
use Rattle.rom_rule.specs.declared.views.View.{View}
use Rattle.rom_rows.proofs.Untouched.{may_publish}
use Rattle.rom_rows.proofs.turns.change_back.Goals as goal

pub switch-requires-clause-can : goal.switch-requires-clause-can
switch-requires-clause-can g c = let v : View = c.args.writer.now.token.me.0 in may_publish v.base (plan_of v) c.requires.rests
