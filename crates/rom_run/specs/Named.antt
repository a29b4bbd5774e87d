-- The command that plain words were read as.
use Rattle.std.specs.Prelude.{◌<◌, ◌≤◌, length, Option, Some, None}
use Rattle.rom_model.specs.Blocks.{IsOrder}
use Rattle.rom_run.specs.declared.plain.Plain.{Plain}
use Rattle.rom_run.specs.declared.plain.Plain.TheVariants as plain
use Rattle.rom_run.specs.Plain.{PlainCommand, Try, Run, Follow, Format}

-- the command that was read, if one was
abbrev pub plain_command_read : Option Plain → Option PlainCommand
plain_command_read (Some (plain.Try scripts)) = Some (Try scripts.now)
plain_command_read (Some (plain.Run file scripts)) = Some (Run file.now scripts.now)
plain_command_read (Some (plain.Follow file stream)) = Some (Follow file.now stream.now)
plain_command_read (Some (plain.Format file order)) = Some (Format file.now order)
plain_command_read None = None

-- there are 1 to 16 scripts, and an order that is asked for is one that there is
abbrev pub IsWithin : Plain → Type 0
IsWithin (plain.Try scripts) = (0 < length scripts.now) × (length scripts.now ≤ 16)
IsWithin (plain.Run file scripts) = (0 < length scripts.now) × (length scripts.now ≤ 16)
IsWithin (plain.Follow file stream) = Unit {0}
IsWithin (plain.Format file order) = IsOrder order
