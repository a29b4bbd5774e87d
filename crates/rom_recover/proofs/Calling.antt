-- How many calls of the device one recovery makes at most.
use Rattle.std.proofs.Common.{◌≡◌, ℕ, ◌+◌, ◌*◌, ◌≤◌, ◌==◌, Bool, true, false, if◌then◌else◌, Result, Ok, Err, arith, refl, subst, sym}
use Rattle.rom_model.specs.Blocks.{region_len}
use Rattle.rom_model.specs.Faults.{AtMost}
use Rattle.rom_device.specs.Device.{ShownDevice, CountsCalls, Makes}
use Rattle.rom_recover.specs.Calls.{Compares, WithinRecovery, reads_at_most, reads_until}
use Rattle.rom_recover.specs.declared.recovery.RecoverRefused.{RecoverRefused}
use Rattle.rom_recover.specs.declared.recovery.RecoverRefused.TheVariants.{Twins, Device}

most_on : (k m n x y z : ℕ) → k + m ≤ n → AtMost k x y → AtMost m y z → AtMost n x z
most_on k m n x y z fits first second = record { later = omega (arith, first.later, second.later); most = omega (arith, fits, first.most, second.most) }

none_more : (k x y : ℕ) → y ≡ x → AtMost k x y
none_more k x y same = record { later = omega (arith, same); most = omega (arith, same) }

until_most : {T : Type 0} (all : ℕ) (r : Result T RecoverRefused) → reads_until all r ≤ all
until_most all (Ok done) = omega arith
until_most all (Err (Twins offset main back)) = omega arith
until_most all (Err Device) = omega arith

once_or_twice : (idle : Bool) (len : ℕ) → len ≤ (if idle then 2 else 1) * len
once_or_twice true len = omega arith
once_or_twice false len = omega arith

-- behind the sync and the read of the state
module _ {D T E U F : Type 0} (shown : ShownDevice D) (n : ℕ) (a s b : D) (r : Result T E) (q : Result U F) (synced : CountsCalls shown 0 0 1 a s r) (read : Makes shown 1 0 0 s b q) where
  begun_reads : AtMost 1 (shown.reads a) (shown.reads b)
  begun_reads = record { later = omega (arith, synced.reads_made, read.most_reads.later); most = omega (arith, synced.reads_made, read.most_reads.most) }

  begun_writes : AtMost 0 (shown.writes a) (shown.writes b)
  begun_writes = record { later = omega (arith, synced.writes_made, read.most_writes.later); most = omega (arith, synced.writes_made, read.most_writes.most) }

  begun_syncs : AtMost 1 (shown.syncs a) (shown.syncs b)
  begun_syncs = record { later = omega (arith, synced.syncs_made, read.most_syncs.later); most = omega (arith, synced.syncs_made, read.most_syncs.most) }

  pub begun_within : WithinRecovery shown n a b
  begun_within = record {
    most_reads = most_on 1 0 _ _ _ _ (omega arith) begun_reads (none_more 0 _ _ refl);
    most_writes = most_on 0 0 _ _ _ _ (omega arith) begun_writes (none_more 0 _ _ refl);
    most_syncs = most_on 1 0 _ _ _ _ (omega arith) begun_syncs (none_more 0 _ _ refl);
  }

  module _ {V : Type 0} (c : D) where
    -- a comparison
    pub compared_within : (p : Result V RecoverRefused) → Compares shown (2 * region_len n) b c p → WithinRecovery shown n a c
    compared_within p compares = record {
      most_reads = most_on 1 (reads_until (2 * region_len n) p) _ _ _ _ (omega (arith, until_most (2 * region_len n) p)) begun_reads compares.most_reads;
      most_writes = most_on 0 0 _ _ _ _ (omega arith) begun_writes (none_more 0 _ _ compares.only.writes);
      most_syncs = most_on 1 0 _ _ _ _ (omega arith) begun_syncs (none_more 0 _ _ compares.only.syncs);
    }

    pub compared_most : (state : ℕ) → state ≡ 0 → (p : Result V RecoverRefused) → Compares shown (2 * region_len n) b c p → AtMost (reads_at_most n state) (shown.reads a) (shown.reads c)
    compared_most state idle p compares = subst (λ (k : ℕ). AtMost (reads_at_most n k) (shown.reads a) (shown.reads c)) (sym idle) (compared_within p compares).most_reads

    -- a copy
    pub redone_within : {F : Type 0} (p : Result V F) → Makes shown (region_len n) (region_len n + 2) 3 b c p → WithinRecovery shown n a c
    redone_within p makes = record {
      most_reads = most_on 1 (region_len n) _ _ _ _ (omega arith) begun_reads makes.most_reads;
      most_writes = most_on 0 (region_len n + 2) _ _ _ _ (omega arith) begun_writes makes.most_writes;
      most_syncs = most_on 1 3 _ _ _ _ (omega arith) begun_syncs makes.most_syncs;
    }

    pub redone_most : {F : Type 0} (state : ℕ) (p : Result V F) → Makes shown (region_len n) (region_len n + 2) 3 b c p → AtMost (reads_at_most n state) (shown.reads a) (shown.reads c)
    redone_most state p makes = most_on 1 (region_len n) _ _ _ _ (omega (arith, once_or_twice (state == 0) (region_len n))) begun_reads makes.most_reads
