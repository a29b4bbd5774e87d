use Rattle.rom_combine.proofs.Applies.{was_some}
use Rattle.rom_combine.proofs.applying.apply_one.Goals as goal

pub apply_words_main-requires-clause-call : goal.apply_words_main-requires-clause-call
apply_words_main-requires-clause-call g c = was_some _ _ (c.requires.call c.requires.held.0 0)
