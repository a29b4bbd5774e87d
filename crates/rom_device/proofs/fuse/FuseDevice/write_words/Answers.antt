use Rattle.std.proofs.Common.{◌≡◌, ◌<◌, ◌+◌, Bool, true, false, is_err, Result, Ok, Err, OnErr, inr, length, nat_lt, slice_index, subst, arith, rules}
use Rattle.std.proofs.lemmas.Bool.Decides.{nat_tests}
use Rattle.rom_device.specs.Device.{WritingFailed}
use Rattle.rom_device.specs.Fuse.{inner_of, calls_left, shown_by_fuse, MadeWrites}
use Rattle.rom_device.proofs.Many.{many_on, many_only, renewed_on}
use Rattle.rom_device.proofs.Passing.{made_writes_on, was_passed, up_to_failed, still_written, now_written, writes_up_to}
use Rattle.rom_device.proofs.fuse.FuseDevice.write_words.Goals as goal

on_err : {T E : Type 0} (result : Result T E) {P : Type 0} → P → OnErr result P
on_err (Ok value) holds = tt
on_err (Err error) holds = holds

pub returns-in_err-write-clause-failed : goal.returns-in_err-write-clause-failed
returns-in_err-write-clause-failed g c =
    let failed : WritingFailed (shown_by_fuse g.D.Device.shown) c.args.at c.args.values.now c.args.self.now c.write.new.self = record {
      k = c.loop-index.index;
      within = c.loop-index-test.true;
      writes_made = search rules;
      words = λ tells. writes_up_to c.args.at c.loop-index.index c.args.values.now (g.D.Device.shown.words (inner_of c.args.self.now)) (g.D.Device.shown.words (inner_of c.loop-index.self)) (g.D.Device.shown.words (inner_of c.write.new.self))
          (omega (arith, g.met.D.Device.words_fit (inner_of c.loop-index.self) tells, c.loop-index.invariant.does.size, c.requires, c.loop-index-test.true))
          (c.loop-index.invariant.only tells) (c.loop-index.invariant.written tells) (c.write.ensures.does.words tells);
    } in
    on_err c.from_residual.result failed

pub returns-in_err-write-clause-does : goal.returns-in_err-write-clause-does
returns-in_err-write-clause-does g c =
    many_on (shown_by_fuse g.D.Device.shown) c.args.at c.args.values.now c.loop-index.index c.loop-index-test.true c.args.self.now c.loop-index.self c.write.new.self c.loop-index.invariant.does c.write.ensures.does

pub returns-in_err-write-clause-passes : goal.returns-in_err-write-clause-passes
returns-in_err-write-clause-passes g c =
    let failed : is_err c.write.result ≡ true = search rules in
    let less : nat_lt c.loop-index.index (length c.args.values.now) ≡ true = grind (arith, nat_tests) in
    record {
      well = c.loop-index.index;
      fails = search rules;
      writes_made = search rules;
      written = λ tells. still_written c.args.at c.loop-index.index (slice_index c.args.values.now c.loop-index.index) c.args.values.now (g.D.Device.shown.words (inner_of c.loop-index.self)) (g.D.Device.shown.words (inner_of c.write.new.self))
          (c.write.ensures.does.words tells) (c.loop-index.invariant.written tells);
      passes = up_to_failed g.D.Device.shown (MadeWrites g.D.Device.shown c.args.at c.args.values.now) c.loop-index.index (length c.args.values.now) 0 1 0 c.args.self.now c.loop-index.self c.write.new.self c.write.result
          c.loop-index-test.true c.loop-index.invariant.left c.loop-index.invariant.own c.write.ensures.passes c.loop-index.invariant.made
          (λ some. subst (λ (t : Bool). MadeWrites g.D.Device.shown c.args.at c.args.values.now (c.loop-index.index + 1) t (inner_of c.args.self.now) (inner_of c.write.new.self)) failed
          (made_writes_on g.D.Device.shown c.args.at c.args.values.now c.loop-index.index c.loop-index-test.true c.args.self.now c.loop-index.self c.write.new.self c.write.result c.loop-index.invariant.made c.write.ensures.does (c.write.ensures.passes.passed some).0));
    }

pub loop-index-preserved : goal.loop-index-preserved
loop-index-preserved g c =
    let well : is_err c.write.result ≡ false = search rules in
    let some : 0 < calls_left c.loop-index.self = was_passed g.D.Device.shown 0 1 0 c.loop-index.self c.write.new.self c.write.result c.write.ensures.passes well in
    let passed = c.write.ensures.passes.passed some in
    record {
      does = many_on (shown_by_fuse g.D.Device.shown) c.args.at c.args.values.now c.loop-index.index c.loop-index-test.true c.args.self.now c.loop-index.self c.write.new.self c.loop-index.invariant.does c.write.ensures.does;
      renews = renewed_on (shown_by_fuse g.D.Device.shown) c.args.at c.loop-index.index c.loop-index.self c.write.new.self c.write.ensures.does.fewer c.loop-index.invariant.renews c.in_ok-write.ensures.renews;
      only = λ tells. many_only c.args.at c.loop-index.index (slice_index c.args.values.now c.loop-index.index) (g.D.Device.shown.words (inner_of c.args.self.now)) (g.D.Device.shown.words (inner_of c.loop-index.self)) (g.D.Device.shown.words (inner_of c.write.new.self))
          (c.loop-index.invariant.only tells) (inr (c.in_ok-write.ensures.written tells));
      written = λ tells. now_written c.args.at c.loop-index.index c.args.values.now (g.D.Device.shown.words (inner_of c.loop-index.self)) (g.D.Device.shown.words (inner_of c.write.new.self))
          (omega (arith, g.met.D.Device.words_fit (inner_of c.loop-index.self) tells, c.loop-index.invariant.does.size, c.requires, c.loop-index-test.true)) (c.in_ok-write.ensures.written tells) (c.loop-index.invariant.written tells);
      reads = search rules;
      writes_made = search rules;
      most_writes = search rules;
      syncs = search rules;
      left = search rules;
      own = search rules;
      faults = search rules;
      made = subst (λ (t : Bool). MadeWrites g.D.Device.shown c.args.at c.args.values.now (c.loop-index.index + 1) t (inner_of c.args.self.now) (inner_of c.write.new.self)) well
          (made_writes_on g.D.Device.shown c.args.at c.args.values.now c.loop-index.index c.loop-index-test.true c.args.self.now c.loop-index.self c.write.new.self c.write.result c.loop-index.invariant.made c.write.ensures.does passed.0);
    }
