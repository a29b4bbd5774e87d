-- Shared main as words for the device.
use Rattle.std.specs.Prelude.{Some}
use Rattle.rom_rule.specs.Views.{plan_of}
use Rattle.rom_rule.specs.declared.views.View.{View}

-- the writer's view but for the number of its steps
abbrev pub unstepped : View → View
unstepped v = record v { plan = Some (plan_of v); steps = 0 }
