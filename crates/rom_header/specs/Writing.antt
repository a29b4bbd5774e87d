-- What writes change.
use Rattle.std.specs.Prelude.{◌≡◌, ◌≢◌, ℕ, ◌+◌, ◌<◌, ◌≤◌, List, IsTrue, length, slice_index}
use Rattle.rom_device.specs.Device.{ShownDevice}
use Rattle.rom_header.specs.Layout.{STATE}

-- The words change by this step alone, where the device tells them. What a stop may leave of them is another matter.
pub record Alters {D : Type 0} (shown : ShownDevice D) (step : List ℕ → List ℕ → Type 0) (old new : D) : Type 0 where
  pub size : shown.size new ≡ shown.size old
  pub words : IsTrue shown.tells_words → step (shown.words old) (shown.words new)

-- Only the state and so many words from that place behind it on differ.
pub record StateOrWithin (at len : ℕ) (old new : List ℕ) : Type 0 where
  pub as_long : length new ≡ length old
  pub before : (k : ℕ) → k < at → k ≢ STATE → slice_index new k ≡ slice_index old k
  pub behind : (k : ℕ) → at + len ≤ k → slice_index new k ≡ slice_index old k
