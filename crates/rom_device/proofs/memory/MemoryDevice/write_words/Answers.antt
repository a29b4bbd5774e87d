use Rattle.std.proofs.Common.{◌≡◌, ◌+◌, true, false, is_err, length, nat_lt, inr, ℕ, rules, arith, slice_index, subst}
use Rattle.std.proofs.lemmas.Bool.Decides.{nat_tests}
use Rattle.rom_device.specs.Memory.{shown_by_memory, words_of_memory, writes_from}
use Rattle.rom_device.specs.declared.call.LoggedCall.TheVariants.{Write}
use Rattle.rom_device.proofs.Many.{many_on, many_only}
use Rattle.rom_device.proofs.Listing.{SoFar, so_far_next, so_far_failed, so_far_all, write_of, writes_end}
use Rattle.rom_device.proofs.memory.MemoryDevice.write_words.Goals as goal

pub returns-in_err-write-clause-does : goal.returns-in_err-write-clause-does
returns-in_err-write-clause-does c =
    many_on shown_by_memory c.args.at c.args.values.now c.loop-index.index c.loop-index-test.true c.args.self.now c.loop-index.self c.write.new.self c.loop-index.invariant.does c.write.ensures.does

pub returns-in_err-write-clause-lists : goal.returns-in_err-write-clause-lists
returns-in_err-write-clause-lists c =
    let failed : is_err c.write.result ≡ true = search rules in
    let less : nat_lt c.loop-index.index (length c.args.values.now) ≡ true = grind (arith, nat_tests) in
    record {
      well = c.loop-index.index;
      lists = so_far_failed (writes_from c.args.at c.args.values.now) c.loop-index.index (Write (c.args.at + c.loop-index.index) (slice_index c.args.values.now c.loop-index.index) true)
          c.args.self.now c.loop-index.self c.write.new.self c.write.result (write_of c.args.at c.args.values.now c.loop-index.index c.loop-index-test.true) c.loop-index.invariant.listed c.write.ensures.lists failed;
      fails = search rules;
      writes_made = search rules;
    }

pub loop-index-preserved : goal.loop-index-preserved
loop-index-preserved c =
    let well : is_err c.write.result ≡ false = search rules in
    record {
      does = many_on shown_by_memory c.args.at c.args.values.now c.loop-index.index c.loop-index-test.true c.args.self.now c.loop-index.self c.write.new.self c.loop-index.invariant.does c.write.ensures.does;
      only = many_only c.args.at c.loop-index.index (slice_index c.args.values.now c.loop-index.index) (words_of_memory c.args.self.now) (words_of_memory c.loop-index.self) (words_of_memory c.write.new.self)
          c.loop-index.invariant.only (inr (search rules));
      written = search rules;
      reads = search rules;
      writes_made = search rules;
      most_writes = search rules;
      syncs = search rules;
      faults = search rules;
      listed = so_far_next (writes_from c.args.at c.args.values.now) c.loop-index.index (Write (c.args.at + c.loop-index.index) (slice_index c.args.values.now c.loop-index.index) true)
          c.args.self.now c.loop-index.self c.write.new.self c.write.result (write_of c.args.at c.args.values.now c.loop-index.index c.loop-index-test.true) c.loop-index.invariant.listed c.write.ensures.lists well;
    }

pub returns-clause-lists : goal.returns-clause-lists
returns-clause-lists c =
    let all : c.loop-index.index ≡ length c.args.values.now = omega arith in
    let less : nat_lt (length c.args.values.now) (length c.args.values.now) ≡ false = grind (arith, nat_tests) in
    record {
      well = length c.args.values.now;
      lists = so_far_all (writes_from c.args.at c.args.values.now) (length c.args.values.now) c.args.self.now c.loop-index.self (writes_end c.args.at c.args.values.now)
          (subst (λ (n : ℕ). SoFar (writes_from c.args.at c.args.values.now) n c.args.self.now c.loop-index.self) all c.loop-index.invariant.listed);
      fails = search rules;
      writes_made = search rules;
    }
