use Rattle.rom_store.proofs.Callers.{new_posted}
use Rattle.rom_store.proofs.lone.Lone.of.Goals as goal

pub invariant_of-result : goal.invariant_of-result
invariant_of-result g c = record {
  behind = c.requires.held;
  named_is = c.requires.named;
  based_is = c.requires.based;
  order_is = c.requires.ordered;
  image_is = c.requires.imaged;
  faults_is = c.requires.counted;
  numbered = record { at = λ i p there. (c.requires.passes.at i p there).numbered };
  many = c.requires.all;
  posted = new_posted g.O.Object.Contents g.N.Label.table g.N.Label.base c.args.passes.items c.requires.passes;
}
