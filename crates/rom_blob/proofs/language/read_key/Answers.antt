use Rattle.rom_blob.proofs.Words.{key_read, no_key_read}
use Rattle.rom_blob.proofs.language.read_key.Goals as goal

pub returns-clause-some : goal.returns-clause-some
returns-clause-some c = key_read c.args.text.now c.read_number.result c.read_number.ensures.found

pub returns-clause-none : goal.returns-clause-none
returns-clause-none c = no_key_read c.args.text.now c.read_number.result c.read_number.ensures.none
