use Rattle.std.proofs.Common.{◌≡◌, [], ◌+◌, true, false, is_err, length, drop, subst, sym, ℕ, rules}
use Rattle.rom_device.specs.Memory.{reads_from}
use Rattle.rom_device.specs.declared.call.LoggedCall.TheVariants.{Read}
use Rattle.rom_device.proofs.Listing.{SoFar, so_far_next, so_far_failed, so_far_all, read_of, reads_end}
use Rattle.rom_device.proofs.memory.MemoryDevice.read_words.Goals as goal

pub returns-in_default-clause-lists : goal.returns-in_default-clause-lists
returns-in_default-clause-lists c =
    let asked = reads_from c.args.at (length c.args.into.now) in
    let failed : is_err c.read.result ≡ true = search rules in
    so_far_failed asked c.loop-index.index (Read (c.args.at + c.loop-index.index)) c.args.self.now c.loop-index.self c.read.new.self c.read.result
    (read_of c.args.at (length c.args.into.now) c.loop-index.index (search rules)) c.loop-index.invariant.listed c.read.ensures.lists failed

pub loop-index-preserved : goal.loop-index-preserved
loop-index-preserved c =
    let asked = reads_from c.args.at (length c.args.into.now) in
    let well : is_err c.read.result ≡ false = search rules in
    record {
      len = search rules;
      read = search rules;
      only = search rules;
      reads_made = search rules;
      faults = search rules;
      listed = so_far_next asked c.loop-index.index (Read (c.args.at + c.loop-index.index)) c.args.self.now c.loop-index.self c.read.new.self c.read.result
          (read_of c.args.at (length c.args.into.now) c.loop-index.index (search rules)) c.loop-index.invariant.listed c.read.ensures.lists well;
    }

pub returns-clause-lists : goal.returns-clause-lists
returns-clause-lists c =
    let len = length c.args.into.now in
    let all : c.loop-index.index ≡ length c.loop-index.into = search rules in
    let end : drop (length c.loop-index.into) (reads_from c.args.at len) ≡ [] = subst (λ (n : ℕ). drop n (reads_from c.args.at len) ≡ []) (sym c.loop-index.invariant.len) (reads_end c.args.at len) in
    so_far_all (reads_from c.args.at len) (length c.loop-index.into) c.args.self.now c.loop-index.self end
    (subst (λ (n : ℕ). SoFar (reads_from c.args.at len) n c.args.self.now c.loop-index.self) all c.loop-index.invariant.listed)
