use Rattle.std.proofs.Common.{◌+◌, arith, refl}
use Rattle.std.specs.FinSet as set
use Rattle.rom_set.specs.Set.{with_members}
use Rattle.rom_heap.proofs.Steps.{add_there, add_new, add_full, stays, changes}
use Rattle.rom_heap.proofs.apply.add.Goals as goal

pub returns-in-New : goal.returns-in-New
returns-in-New g c =
    let told = c.in-New.ensures in
    let region = c.requires.region in
    record {
      does = changes (λ s. with_members s (set.insert s.members c.args.key))
          (λ s j held. add_new c.args.order s j c.args.key (told.contents s (j + 1) held).0 (told.contents s (j + 1) held).1)
          (λ s k held. (told.contents s k held).2) (omega arith) (told.costs region.state region.count region.contents);
    }

pub returns-in-There : goal.returns-in-There
returns-in-There g c =
    let told = c.in-There.ensures in
    let region = c.requires.region in
    record { does = stays (λ s j held. add_there c.args.order s j c.args.key (told.contents s (j + 1) held)) refl (told.kept region.state region.count region.contents) }

pub returns-in-Full : goal.returns-in-Full
returns-in-Full g c =
    let told = c.in-Full.ensures in
    let region = c.requires.region in
    record {
      does = stays (λ s j held. add_full c.args.order s j c.args.key (told.contents s (j + 1) held).0 (told.contents s (j + 1) held).1) refl
          (told.kept region.state region.count region.contents);
    }
