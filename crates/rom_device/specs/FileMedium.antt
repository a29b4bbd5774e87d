-- What a contract sees of a file that is a medium.
use Rattle.std.specs.Prelude.{ℕ, Bool, is_none}
use Rattle.rom_device.specs.declared.file_medium.FileMedium.{FileMedium}

-- whether there is no file
abbrev pub has_no_file : FileMedium → Bool
has_no_file medium = is_none medium.file

-- how many calls of it failed
abbrev pub faults_of : FileMedium → ℕ
faults_of medium = medium.failed
