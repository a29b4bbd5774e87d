use Rattle.std.proofs.Common.{◌+◌, arith, refl}
use Rattle.rom_model.specs.State.{written}
use Rattle.rom_map.specs.Map.{with_pairs}
use Rattle.rom_heap.proofs.Steps.{put_was, put_new, put_full, stays, changes, well_formed, stamp_within, stamp_of}
use Rattle.rom_heap.proofs.apply.put.Goals as goal

pub map_put-requires-clause-region : goal.map_put-requires-clause-region
map_put-requires-clause-region g c = well_formed c.requires.region

pub map_put-requires-clause-stamp : goal.map_put-requires-clause-stamp
map_put-requires-clause-stamp g c = stamp_within c.requires.region

pub returns-in-New : goal.returns-in-New
returns-in-New g c =
    let told = c.in-New.ensures in
    let region = well_formed c.requires.region in
    record {
      does = changes (λ s. with_pairs s (written s.pairs c.args.stamp c.args.key c.args.value))
          (λ s j held. put_new c.args.order s j c.args.stamp c.args.key c.args.value (stamp_of c.requires.region j held) (told.contents s (j + 1) held).0 (told.contents s (j + 1) held).1)
          (λ s k held. (told.contents s k held).2) (omega arith) (told.each region.state region.count region.contents);
    }

pub returns-in-Was : goal.returns-in-Was
returns-in-Was g c =
    let told = c.in-Was.ensures in
    let region = well_formed c.requires.region in
    record {
      does = changes (λ s. with_pairs s (written s.pairs c.args.stamp c.args.key c.args.value))
          (λ s j held. put_was c.args.order s j c.args.stamp c.args.key c.args.value c.in-Was.before (stamp_of c.requires.region j held) (told.contents s (j + 1) held).0)
          (λ s k held. (told.contents s k held).1) (omega arith) (told.each region.state region.count region.contents);
    }

pub returns-in-Full : goal.returns-in-Full
returns-in-Full g c =
    let told = c.in-Full.ensures in
    let region = well_formed c.requires.region in
    record {
      does = stays (λ s j held. put_full c.args.order s j c.args.key c.args.value (told.contents s (j + 1) held).0 (told.contents s (j + 1) held).1) refl
          (told.each region.state region.count region.contents);
    }
