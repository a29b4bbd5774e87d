use Rattle.std.proofs.Common.{subst, arith}
use Rattle.std.proofs.lemmas.List.{take_all}
use Rattle.rom_order_carry.proofs.Fits.{WordsFit, entries_fit}
use Rattle.rom_order_carry.proofs.known.know_entries.Goals as goal

pub returns : goal.returns
returns c = record {
  fit = λ n s k held. entries_fit n c.args.words.now s k (subst WordsFit (take_all c.loop-word.word-index c.args.words.now (omega arith)) c.loop-word.invariant) held;
}
