-- What holds of the images of words that an earlier program left, by which a device of them meets the laws of a device.
use Rattle.std.proofs.Common.{◌≡◌, inl, inr, ℕ, Bool, List, [], ◌∷◌, length, refl, sym, ◌∙◌, arith}
use Rattle.rom_device.specs.Device.{TellsDoubts}
use Rattle.rom_device.specs.Images.{may_leave_words, length-words_after, length-MayLeave}
use Rattle.rom_device.specs.Log.{words_after}
use Rattle.rom_device.specs.Memory.{start_of}
use Rattle.rom_device.specs.Older.{IsOver, MayLeaveOlder, MayLeaveOlderSince, stale}
use Rattle.rom_device.specs.Resumed.{older_of, log_of, shown_by_resumed}
use Rattle.rom_device.specs.declared.call.LoggedCall.{LoggedCall}

-- any words are an image of themselves, with no older word put in
pub over_same : (kept : ℕ → Bool) (older x : List ℕ) → IsOver kept older x x
over_same kept older x = record { as_long = refl; each = λ k. inl refl }

-- a stop may leave the words as they read
pub older_reads : (older base : List ℕ) (log : List LoggedCall) → MayLeaveOlder older base log (words_after base log)
older_reads older base log = record { words = words_after base log; was = may_leave_words base log; over = over_same (stale older base log) older (words_after base log) }

-- a stop does not change how many words there are
pub older_long : (older base : List ℕ) (log : List LoggedCall) (i : List ℕ) → MayLeaveOlder older base log i → length i ≡ length (words_after base log)
older_long older base log i may = may.over.as_long ∙ length-MayLeave base log may.words may.was ∙ sym (length-words_after base log)

-- an image that a stop may leave now is among those that a stop since any moment might have left
pub older_counts_now : (older base : List ℕ) (t : ℕ) (log : List LoggedCall) (i : List ℕ) → MayLeaveOlder older base log i → MayLeaveOlderSince older base t log i
older_counts_now older base t [] i may = may
older_counts_now older base t (made ∷ log) i may = inl may

-- since this moment a stop might have left no more than it may leave now
pub older_only_now : (older base : List ℕ) (log : List LoggedCall) (i : List ℕ) → MayLeaveOlderSince older base (length log) log i → MayLeaveOlder older base log i
older_only_now older base [] i since = since
older_only_now older base (made ∷ log) i (inl may) = may
older_only_now older base (made ∷ log) i (inr earlier) = absurd (omega (arith, earlier.0))

-- a resumed memory keeps the laws of a device that tells images with words in doubt
pub resumed_told : TellsDoubts shown_by_resumed
resumed_told = record {
  words = refl;
  reads_image = λ r. older_reads (older_of r) (start_of r.memory) (log_of r);
  images_fit = λ r. older_long (older_of r) (start_of r.memory) (log_of r);
  counts_now = λ r t i le. older_counts_now (older_of r) (start_of r.memory) t (log_of r) i;
  only_now = λ r. older_only_now (older_of r) (start_of r.memory) (log_of r);
}
