use Rattle.std.proofs.Common.{◌≤◌, ◌∙◌, arith, inl, rules, sym, subst, length-append, length-take-le, take}
use Rattle.std.proofs.lemmas.List.{length-take}
use Rattle.std.specs.Io.KnownBytes.{Consumes}
use Rattle.std.proofs.KnownBytes.{Consumes-trans}
use Rattle.rom_text.proofs.Taking.{takes_more, grown_by, not_idle}
use Rattle.rom_text.proofs.read.read_bytes.Goals as goal

pub loop-block-preserved : goal.loop-block-preserved
loop-block-preserved g c =
    let s = g.S.Source.shown in
    let grown = grown_by _ _ c.read.new.buf _ _ c.in_ok-extend_from_slice.ensures.items c.in-Ok.ensures.within in
    record {
      within = search rules;
      read = subst (λ bs. Consumes (s.left c.args.source.now) (s.left c.read.new.self) bs) (sym grown) (Consumes-trans _ _ _ _ _ c.loop-block.invariant.read c.in-Ok.ensures.bytes.0);
      idle = not_idle c.in-Ok.count _ _ c.if-count-eq0.false c.in-Ok.ensures.counts.idle ∙ c.loop-block.invariant.idle;
      faults = c.in-Ok.ensures.counts.faults ∙ c.loop-block.invariant.faults;
    }

pub returns-in_err-extend_from_slice-clause-ends :
    goal.returns-in_err-extend_from_slice-clause-ends
returns-in_err-extend_from_slice-clause-ends g c =
    let many : c.in-Ok.count ≤ c.min-most.result = omega (arith, c.in-Ok.ensures.within, c.read.auto.buf, length-take c.min-most.result c.loop-block.block) in
    let idle = not_idle c.in-Ok.count _ _ c.if-count-eq0.false c.in-Ok.ensures.counts.idle ∙ c.loop-block.invariant.idle in
    record {
      to_its_end = search rules;
      failed = search rules;
      unfailed = search rules;
      too_long = search rules;
      takes = takes_more _ _ _ _ c.loop-block.bytes.items (take c.in-Ok.count c.read.new.buf) c.loop-block.invariant.read c.in-Ok.ensures.bytes.0
          (omega (arith, length-append c.loop-block.bytes.items (take c.in-Ok.count c.read.new.buf), length-take-le c.in-Ok.count c.read.new.buf c.in-Ok.ensures.within));
      asked_once = record { idle = inl idle; faults = search rules };
    }
