use Rattle.std.proofs.Common.{◌-◌, ◌≤◌, ◌∙◌, arith, rules, sym, subst, length}
use Rattle.std.proofs.lemmas.Slice.{take-put_mid_below}
use Rattle.std.specs.Io.KnownBytes.{Consumes}
use Rattle.std.proofs.KnownBytes.{Consumes-trans}
use Rattle.rom_text.proofs.Taking.{not_idle}
use Rattle.rom_frame.proofs.Blocks.{filled}
use Rattle.rom_frame.proofs.stream.filling.fill.Goals as goal

pub loop-len-preserved : goal.loop-len-preserved
loop-len-preserved g c =
    let s = g.S.Source.shown in
    let there : c.loop-len.len ≤ length c.loop-len.block = search rules in
    let some : c.in-Ok.count ≤ length c.read.new.buf = c.in-Ok.ensures.within in
    let many : length c.read.new.buf ≤ c.args.to - c.loop-len.len = search rules in
    record {
      from = omega (arith, c.loop-len.invariant.from);
      to = omega (arith, some, many, c.loop-len.invariant.to);
      front = take-put_mid_below c.loop-len.len (c.args.to - c.loop-len.len) c.loop-len.block c.read.new.buf c.args.from c.loop-len.invariant.from there ∙ c.loop-len.invariant.front;
      read = subst (λ bs. Consumes (s.left c.args.source.now) (s.left c.read.new.self) bs) (sym (filled c.args.from c.loop-len.len _ c.in-Ok.count c.loop-len.block c.read.new.buf c.loop-len.invariant.from there some))
          (Consumes-trans _ _ _ _ _ c.loop-len.invariant.read c.in-Ok.ensures.bytes.0);
      idle = not_idle c.in-Ok.count _ _ c.if-count-eq0.false c.in-Ok.ensures.counts.idle ∙ c.loop-len.invariant.idle;
      faults = c.in-Ok.ensures.counts.faults ∙ c.loop-len.invariant.faults;
    }
