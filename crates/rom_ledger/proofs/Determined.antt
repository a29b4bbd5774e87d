-- The printed lines determine the results.
use Rattle.rom_text.specs.Determines.{TextDetermines}
use Rattle.rom_text.proofs.Determined as determined
use Rattle.rom_script.proofs.Determined.{answer_named, answer_of}
use Rattle.rom_ledger.specs.Texts.{ledger_texts}
use Rattle.rom_ledger.proofs.Named.{reply_by, reply_named}

-- two runs with the same text have the same results and the same count
pub text_determines : TextDetermines ledger_texts
text_determines = determined.text_determines ledger_texts reply_by answer_of reply_named answer_named
