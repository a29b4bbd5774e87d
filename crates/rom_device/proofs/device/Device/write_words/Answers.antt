use Rattle.std.proofs.Common.{rules, inr, Result, Ok, Err, OnErr, arith, slice_index}
use Rattle.rom_device.specs.Device.{WritingFailed}
use Rattle.rom_device.proofs.Passing.{writes_up_to}
use Rattle.rom_device.proofs.Many.{many_on, many_only, renewed_on}
use Rattle.rom_device.proofs.device.Device.write_words.Goals as goal

on_err : {T E : Type 0} (result : Result T E) {P : Type 0} → P → OnErr result P
on_err (Ok value) holds = tt
on_err (Err error) holds = holds

pub returns-in_err-write-clause-failed : goal.returns-in_err-write-clause-failed
returns-in_err-write-clause-failed g c =
    let shown = g.Self.Device.shown in
    let failed : WritingFailed shown c.args.at c.args.values.now c.args.self.now c.write.new.self = record {
      k = c.loop-index.index;
      within = c.loop-index-test.true;
      writes_made = search rules;
      words = λ tells. writes_up_to c.args.at c.loop-index.index c.args.values.now (shown.words c.args.self.now) (shown.words c.loop-index.self) (shown.words c.write.new.self)
          (omega (arith, g.met.Self.Device.words_fit c.loop-index.self tells, c.loop-index.invariant.does.size, c.requires, c.loop-index-test.true))
          (c.loop-index.invariant.only tells) (c.loop-index.invariant.written tells) (c.write.ensures.does.words tells);
    } in
    on_err c.from_residual.result failed

pub returns-in_err-write-clause-does : goal.returns-in_err-write-clause-does
returns-in_err-write-clause-does g c =
    many_on g.Self.Device.shown c.args.at c.args.values.now c.loop-index.index c.loop-index-test.true c.args.self.now c.loop-index.self c.write.new.self c.loop-index.invariant.does c.write.ensures.does

pub loop-index-preserved : goal.loop-index-preserved
loop-index-preserved g c =
    record {
      does = many_on g.Self.Device.shown c.args.at c.args.values.now c.loop-index.index c.loop-index-test.true c.args.self.now c.loop-index.self c.write.new.self c.loop-index.invariant.does c.write.ensures.does;
      renews = renewed_on g.Self.Device.shown c.args.at c.loop-index.index c.loop-index.self c.write.new.self c.write.ensures.does.fewer c.loop-index.invariant.renews c.in_ok-write.ensures.renews;
      only = λ tells. many_only c.args.at c.loop-index.index (slice_index c.args.values.now c.loop-index.index) (g.Self.Device.shown.words c.args.self.now) (g.Self.Device.shown.words c.loop-index.self) (g.Self.Device.shown.words c.write.new.self)
          (c.loop-index.invariant.only tells) (inr (c.in_ok-write.ensures.written tells));
      written = search rules;
      reads = omega (arith, c.write.ensures.counts.reads_made, c.loop-index.invariant.reads);
      writes_made = search rules;
      most_writes = search rules;
      syncs = omega (arith, c.write.ensures.counts.syncs_made, c.loop-index.invariant.syncs);
      faults = search rules;
    }
