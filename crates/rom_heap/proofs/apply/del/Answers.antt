use Rattle.std.proofs.Common.{◌+◌, arith, refl, sym, ap}
use Rattle.std.specs.FinMap as map
use Rattle.rom_model.specs.State.{del}
use Rattle.rom_map.specs.Map.{with_pairs}
use Rattle.rom_heap.proofs.Steps.{stays, changes}
use Rattle.rom_heap.proofs.apply.del.Goals as goal

pub returns-in-Some : goal.returns-in-Some
returns-in-Some g c =
    let told = c.in-Some.ensures in
    let region = c.requires.region in
    record {
      does = changes (λ s. with_pairs s (map.remove s.pairs c.args.key))
          (λ s j held. ap (del s c.args.key) (sym (told.was s (j + 1) held))) told.contents (omega arith) (told.costs region.state region.count region.contents);
    }

pub returns-in-None : goal.returns-in-None
returns-in-None g c =
    let told = c.in-None.ensures in
    let region = c.requires.region in
    record { does = stays (λ s j held. ap (del s c.args.key) (sym (told.was s (j + 1) held))) refl (told.none region.state region.count region.contents) }
