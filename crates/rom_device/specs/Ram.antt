-- What a contract sees of words in memory.
use Rattle.std.specs.Prelude.{ℕ, List}
use Rattle.rom_device.specs.declared.ram.Ram.{Ram}

-- the words
abbrev pub words_of_ram : Ram → List ℕ
words_of_ram ram = ram.words.items

-- how many reads were called
abbrev pub reads_of_ram : Ram → ℕ
reads_of_ram ram = ram.reads

-- how many writes were called
abbrev pub writes_of_ram : Ram → ℕ
writes_of_ram ram = ram.writes

-- how many syncs were called
abbrev pub syncs_of_ram : Ram → ℕ
syncs_of_ram ram = ram.syncs
