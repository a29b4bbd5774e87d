-- What a script's lines ask for.
use Rattle.std.specs.Prelude.{List}
use Rattle.rom_model.specs.declared.call.Call.{Call}
use Rattle.rom_model.specs.declared.call.Query.{Query}
use Rattle.rom_model.specs.declared.line.Step.{Step}
use Rattle.rom_script.specs.declared.script.Script.{Script}

-- what a script's lines ask for, in order
abbrev pub script_steps : Script → List (Step Call Query)
script_steps script = script.lines.items
