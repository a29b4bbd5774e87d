-- What a stop may leave of words of which older ones may still be there.
use Rattle.std.specs.Prelude.{◌≡◌, ◌⊎◌, ℕ, ◌≤◌, Bool, true, false, not, ◌&&◌, ◌||◌, ◌==◌, IsTrue, List, [], ◌∷◌, length, slice_index}
use Rattle.rom_device.specs.Log.{MayLeave}
use Rattle.rom_device.specs.declared.call.LoggedCall.{LoggedCall}
use Rattle.rom_device.specs.declared.call.LoggedCall.TheVariants.{Read, Write, Sync}

-- whether the word at that place was written by one of these calls
abbrev pub handed : List LoggedCall → ℕ → Bool
handed [] at = false
handed (Read place ∷ log) at = handed log at
handed (Write place value lands ∷ log) at = (lands && (place == at)) || handed log at
handed (Sync done ∷ log) at = handed log at

-- Whether a stop may leave the older word: it is another one than the earlier program left (a missing one is 0), and no sync that succeeded came behind a write. A log has the newest call first.
abbrev pub stale : List ℕ → List ℕ → List LoggedCall → ℕ → Bool
stale older base [] at = not (slice_index older at == slice_index base at)
stale older base (Read place ∷ log) at = stale older base log at
stale older base (Write place value lands ∷ log) at = stale older base log at
stale older base (Sync true ∷ log) at = stale older base log at && not (handed log at)
stale older base (Sync false ∷ log) at = stale older base log at

-- each word is as it is there, or the older one where a stop may leave that
pub record IsOver (kept : ℕ → Bool) (older words image : List ℕ) : Type 0 where
  pub as_long : length image ≡ length words
  pub each : (k : ℕ) → (slice_index image k ≡ slice_index words k) ⊎ (IsTrue (kept k) × (slice_index image k ≡ slice_index older k))

-- a stop may leave an image of the calls made since, or that with older words
pub record MayLeaveOlder (older base : List ℕ) (log : List LoggedCall) (image : List ℕ) : Type 0 where
  pub words : List ℕ
  pub was : MayLeave base log words
  pub over : IsOver (stale older base log) older words image

-- a stop at some moment since t might have left it; the moment is the number of calls made
abbrev pub MayLeaveOlderSince : List ℕ → List ℕ → ℕ → List LoggedCall → List ℕ → Type 0
MayLeaveOlderSince older base t [] i = MayLeaveOlder older base [] i
MayLeaveOlderSince older base t (made ∷ log) i = MayLeaveOlder older base (made ∷ log) i ⊎ ((t ≤ length log) × MayLeaveOlderSince older base t log i)
