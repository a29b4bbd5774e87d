use Rattle.rom_rule.specs.Views.{base_of}
use Rattle.rom_store.specs.Blank.{no_ships}
use Rattle.rom_store.specs.Start.{device_start}
use Rattle.rom_caller.proofs.running.run_on.Given as goal

abbrev pub ghosts-run_as : goal.ghosts-run_as
ghosts-run_as g a = let shown = g.D.Device.shown in record {
  table = a.opening.table_id;
  base = base_of a.opening.key;
  start = device_start shown a.opening.device;
  since = λ t i. shown.left_since a.opening.device t i;
  ships = no_ships;
}
