use Rattle.rom_rule.specs.Views.{plan_of}
use Rattle.rom_rule.specs.declared.views.View.{View}
use Rattle.rom_rows.proofs.Untouched.{may_publish, at_main, has_waited}
use Rattle.rom_rows.proofs.turns.to_main.Goals as goal

pub switch-requires-clause-can : goal.switch-requires-clause-can
switch-requires-clause-can g c = let v : View = c.args.writer.now.token.me.0 in may_publish v.base (plan_of v) c.requires.rests

pub returns-clause-rests : goal.returns-clause-rests
returns-clause-rests g c = let s = c.switch.ensures.switched in let v : View = c.args.writer.now.token.me.0 in let w : View = c.switch.new.seat.token.me.0 in let x : View = c.settle.new.seat.token.me.0 in let waited = c.settle.ensures.waited in
    has_waited w x waited.version waited.clear x.steps (at_main v w w.steps s.0 s.1 c.requires.rests s.2 s.4.2) waited.writes.2
