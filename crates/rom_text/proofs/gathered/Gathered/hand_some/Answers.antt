use Rattle.rom_text.proofs.Handing.{handed_on}
use Rattle.rom_text.proofs.gathered.Gathered.hand_some.Goals as goal

pub returns-in-Ok-clause-hands : goal.returns-in-Ok-clause-hands
returns-in-Ok-clause-hands g c = record {
  kept = handed_on _ _ c.args.self.now.block.items c.as_slice.result.now c.args.self.now.handed c.in-Ok.count c.as_slice.ensures.value c.in-Ok.ensures.bytes;
  cause = record { none = c.in-Ok.ensures.counts.faults; failed = tt };
  rest = c.in-Ok.ensures.counts.rest;
}
