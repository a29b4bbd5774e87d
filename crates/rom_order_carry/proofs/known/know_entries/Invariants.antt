use Rattle.std.proofs.Common.{take}
use Rattle.rom_order_carry.proofs.Fits.{WordsFit}
use Rattle.rom_order_carry.proofs.known.know_entries.Given as goal

-- the words so far
abbrev pub invariant-loop-word : goal.invariant-loop-word
invariant-loop-word l = WordsFit (take l.word-index l.words)
