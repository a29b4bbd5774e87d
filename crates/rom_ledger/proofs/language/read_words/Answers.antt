use Rattle.rom_ledger.proofs.WordsRead.{heap_asks}
use Rattle.rom_ledger.proofs.language.read_words.Goals as goal

pub returns-in_default : goal.returns-in_default
returns-in_default c =
    let told = c.read_words.ensures.reads in
    record { reads = heap_asks c.args.line.now c.read_words.new.words c.read_words.result told.0 c.in_default.not-Unread told.1 told.2 }
