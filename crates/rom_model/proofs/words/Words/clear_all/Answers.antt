use Rattle.std.proofs.Common.{arith}
use mathlib.Core.Logic.{dite}
use native.Mathlib.Decide.{dec_le}
use Rattle.rom_model.proofs.words.Words.clear_all.Goals as goal

pub invariant_of-self : goal.invariant_of-self
invariant_of-self g c = let inv = c.loop-i.invariant in let end = c.loop-i-test.false in let same = inv.1 in record {
  within = omega arith;
  whole = inv.0.whole;
  past = λ k _. dite (dec_le c.loop-i.i k) (λ beyond. inv.0.past k (omega arith)) (λ low. inv.2 k (omega arith));
}
