use Rattle.std.proofs.Common.{◌∙◌, rules}
use Rattle.rom_text.proofs.Prints.{wrote_on}
use Rattle.rom_text.proofs.print.print_bytes.Goals as goal

pub loop-at-preserved : goal.loop-at-preserved
loop-at-preserved g c = record {
  within = search rules;
  printed = record {
    bytes = wrote_on _ _ _ c.args.bytes.now c.loop-at.at c.in_ok-at.field-0 c.loop-at.invariant.printed.bytes c.in_ok-at.ensures.bytes;
    faults = c.in_ok-at.ensures.counts.faults ∙ c.loop-at.invariant.printed.faults;
    rest = c.in_ok-at.ensures.counts.rest ∙ c.loop-at.invariant.printed.rest;
  };
}
