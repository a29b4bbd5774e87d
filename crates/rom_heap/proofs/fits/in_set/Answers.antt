use Rattle.std.proofs.Common.{ap, ◌∙◌}
use Rattle.std.specs.FinSet as set
use Rattle.rom_heap.specs.Fits.{told_or}
use Rattle.rom_heap.proofs.Plan.{set_is}
use Rattle.rom_heap.proofs.Looking.{looks_none, looks_one}
use Rattle.rom_heap.proofs.fits.in_set.Goals as goal

pub returns-in-Some : goal.returns-in-Some
returns-in-Some g c = record {
  is = λ s j k held done. ap (told_or (set.contains s.members c.args.key)) c.in-Some.ensures ∙ set_is c.args.order s j c.args.key c.args.before.now done;
  looks = looks_none;
}

pub returns-in-None : goal.returns-in-None
returns-in-None g c =
    let r = c.requires.region in
    record {
      is = λ s j k held done. c.set_has.ensures.is s k held ∙ (ap (told_or (set.contains s.members c.args.key)) c.in-None.ensures ∙ set_is c.args.order s j c.args.key c.args.before.now done);
      looks = looks_one (c.set_has.ensures.looks r.state r.count r.contents);
    }
