use Rattle.std.proofs.Common.{ap, ◌∙◌}
use Rattle.std.specs.Prelude.{is_some}
use Rattle.std.specs.FinMap as map
use Rattle.rom_heap.specs.Fits.{told_or}
use Rattle.rom_heap.proofs.Plan.{has_value, map_is}
use Rattle.rom_heap.proofs.Looking.{looks_none, looks_one}
use Rattle.rom_heap.proofs.fits.in_map.Goals as goal

pub returns-in-Some : goal.returns-in-Some
returns-in-Some g c = record {
  is = λ s j k held done. ap (told_or (is_some (map.get s.pairs c.args.key))) c.in-Some.ensures ∙ map_is c.args.order s j c.args.key c.args.before.now done;
  looks = looks_none;
}

pub returns-in-None : goal.returns-in-None
returns-in-None g c =
    let r = c.requires.region in
    record {
      is = λ s j k held done. c.is_some.ensures ∙ (ap is_some (c.map_get.ensures.is s k held) ∙ has_value s c.args.key ∙ (ap (told_or (is_some (map.get s.pairs c.args.key))) c.in-None.ensures ∙ map_is c.args.order s j c.args.key c.args.before.now done));
      looks = looks_one (c.map_get.ensures.looks r.state r.count r.contents);
    }
