use Rattle.rom_rule.specs.Views.{plan_of}
use Rattle.rom_rule.specs.declared.views.View.{View}
use Rattle.rom_rows.proofs.Untouched.{may_return, at_back, has_waited}
use Rattle.rom_rows.proofs.turns.to_back.Goals as goal

pub switch-requires-clause-can : goal.switch-requires-clause-can
switch-requires-clause-can g c = let v : View = c.args.writer.now.token.me.0 in may_return v.base (plan_of v) c.requires.rests

pub returns-clause-rests : goal.returns-clause-rests
returns-clause-rests g c = let v : View = c.args.writer.now.token.me.0 in let w : View = c.switch.new.seat.token.me.0 in let x : View = c.settle.new.seat.token.me.0 in let waited = c.settle.ensures.waited in
    has_waited w x waited.version waited.clear x.steps (at_back v w w.steps c.requires.rests c.switch.ensures.switched.2) waited.writes.2
