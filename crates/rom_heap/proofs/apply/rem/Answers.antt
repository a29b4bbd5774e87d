use Rattle.std.proofs.Common.{◌+◌, arith, refl}
use Rattle.std.specs.FinSet as set
use Rattle.rom_set.specs.Set.{with_members}
use Rattle.rom_heap.proofs.Steps.{rem_there, rem_absent, stays, changes}
use Rattle.rom_heap.proofs.apply.rem.Goals as goal

pub returns-then-set_remove : goal.returns-then-set_remove
returns-then-set_remove g c =
    let told = c.if-set_remove.ensures in
    let region = c.requires.region in
    record {
      does = changes (λ s. with_members s (set.remove s.members c.args.key))
          (λ s j held. rem_there c.args.order s j c.args.key (told.contents s (j + 1) held).0)
          (λ s k held. (told.contents s k held).1) (omega arith) (told.costs region.state region.count region.contents);
    }

pub returns-else-set_remove : goal.returns-else-set_remove
returns-else-set_remove g c =
    let told = c.if-set_remove.ensures in
    let region = c.requires.region in
    record { does = stays (λ s j held. rem_absent c.args.order s j c.args.key (told.contents s (j + 1) held)) refl (told.kept region.state region.count region.contents) }
