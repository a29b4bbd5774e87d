-- What holds of the words and images of a list of calls, by which a memory device meets the laws of a
-- device.
use Rattle.std.proofs.Common.{◌≡◌, inl, inr, ℕ, true, false, List, [], ◌∷◌, length, refl, arith, length-set, ap, ◌∙◌}
use Rattle.rom_device.specs.Device.{WritesWord}
use Rattle.rom_device.specs.Log.{words_after, MayLeave, MayLeaveSince}
use Rattle.rom_device.specs.declared.call.LoggedCall.{LoggedCall}
use Rattle.rom_device.specs.declared.call.LoggedCall.TheVariants.{Read, Write, Sync}

-- a stop may leave the words as they read
pub may_leave_words : (base : List ℕ) (log : List LoggedCall) → MayLeave base log (words_after base log)
may_leave_words base [] = refl
may_leave_words base (Read at ∷ log) = may_leave_words base log
may_leave_words base (Write at value true ∷ log) = record { from = words_after base log; was = may_leave_words base log; by = inr refl }
may_leave_words base (Write at value false ∷ log) = record { from = words_after base log; was = may_leave_words base log; by = inl refl }
may_leave_words base (Sync true ∷ log) = refl
may_leave_words base (Sync false ∷ log) = may_leave_words base log

-- calls do not change how many words there are
pub length-words_after : (base : List ℕ) (log : List LoggedCall) → length (words_after base log) ≡ length base
length-words_after base [] = refl
length-words_after base (Read at ∷ log) = length-words_after base log
length-words_after base (Write at value true ∷ log) = length-set (words_after base log) at value ∙ length-words_after base log
length-words_after base (Write at value false ∷ log) = length-words_after base log
length-words_after base (Sync done ∷ log) = length-words_after base log

-- a stop does not change how many words there are
pub length-MayLeave : (base : List ℕ) (log : List LoggedCall) (i : List ℕ) → MayLeave base log i → length i ≡ length base
length-MayLeave base [] i is = ap length is
length-MayLeave base (Read at ∷ log) i may = length-MayLeave base log i may
length-MayLeave base (Write at value lands ∷ log) i may = Writes_length at value may.from i may.by ∙ length-MayLeave base log may.from may.was
  where
    Writes_length : (at value : ℕ) (old new : List ℕ) → WritesWord at value old new → length new ≡ length old
    Writes_length at value old new (inl same) = ap length same
    Writes_length at value old new (inr set_there) = ap length set_there ∙ length-set old at value
length-MayLeave base (Sync true ∷ log) i is = ap length is ∙ length-words_after base log
length-MayLeave base (Sync false ∷ log) i may = length-MayLeave base log i may

-- an image that a stop may leave now is among those that a stop since any moment might have left
pub since_counts_now : (base : List ℕ) (t : ℕ) (log : List LoggedCall) (i : List ℕ) → MayLeave base log i → MayLeaveSince base t log i
since_counts_now base t [] i may = may
since_counts_now base t (made ∷ log) i may = inl may

-- since this moment a stop might have left no more than it may leave now
pub since_only_now : (base : List ℕ) (log : List LoggedCall) (i : List ℕ) → MayLeaveSince base (length log) log i → MayLeave base log i
since_only_now base [] i since = since
since_only_now base (made ∷ log) i (inl may) = may
since_only_now base (made ∷ log) i (inr earlier) = absurd (omega (arith, earlier.0))
