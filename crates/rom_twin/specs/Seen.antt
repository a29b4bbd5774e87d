-- What a contract sees of a twin.
use Rattle.std.specs.Prelude.{◌≡◌, ◌⊎◌, ℕ, ◌≤◌, List, IsTrue}
use Rattle.rom_device.specs.Device.{ShownDevice}
use Rattle.rom_header.specs.Layout.{words_needed, main_of, back_of}
use Rattle.rom_twin.specs.Images.{ImageOf}
use Rattle.rom_twin.specs.declared.phase.Phase.{Phase}
use Rattle.rom_twin.specs.declared.phase.Phase.TheVariants.{Clean, Copied, Undo, Doubt, Redo}

-- what a contract sees of a twin: its device, its heap's order, and how far a batch has come
pub record Seen (D : Type 0) : Type 0 where
  pub device : D
  pub order : ℕ
  pub phase : Phase

-- The committed image is read from back, and from main once the copy to back has begun.
abbrev pub committed_in : Phase → ℕ → List ℕ → List ℕ
committed_in Copied n words = main_of n words
committed_in Redo n words = main_of n words
committed_in other n words = back_of n words

-- the committed image, as it is read from the device's words
abbrev pub committed : {D : Type 0} → ShownDevice D → Seen D → List ℕ
committed shown twin = committed_in twin.phase twin.order (shown.words twin.device)

-- what main reads, which is the new image from `Persisted` on
abbrev pub main_now : {D : Type 0} → ShownDevice D → Seen D → List ℕ
main_now shown twin = main_of twin.order (shown.words twin.device)

-- Each image that a stop may leave now is of the phase. The new image is that of the batch; in
-- `Doubt` it is no more to be read from the words once a repair has begun.
pub record InPhase {D : Type 0} (shown : ShownDevice D) (twin : Seen D) : Type 0 where
  pub new : List ℕ
  pub each : (i : List ℕ) → shown.leaves twin.device i → ImageOf twin.phase twin.order (committed shown twin) new i

-- the phases that a fault leaves, from which a repair leads to `Clean`
abbrev pub NeedsRepair : Phase → Type 0
NeedsRepair phase = (phase ≡ Undo) ⊎ ((phase ≡ Doubt) ⊎ (phase ≡ Redo))

-- the phases in which no batch is under way
abbrev pub Rests : Phase → Type 0
Rests phase = (phase ≡ Clean) ⊎ NeedsRepair phase

-- what holds of every twin
pub record IsTwin {D : Type 0} (shown : ShownDevice D) (twin : Seen D) : Type 0 where
  pub fits : words_needed twin.order ≤ shown.size twin.device
  pub images : IsTrue shown.tells_images → InPhase shown twin

-- What each call of a batch, and a repair, keeps: the heap's sizes and the device's, and that a stop leaves an image of the phase. The committed image is this one then.
pub record KeepsHeap {D : Type 0} (shown : ShownDevice D) (image : List ℕ) (old new : Seen D) : Type 0 where
  pub order : new.order ≡ old.order
  pub size : shown.size new.device ≡ shown.size old.device
  pub committed_is : IsTrue shown.tells_images → committed shown new ≡ image
  pub images : IsTrue shown.tells_images → InPhase shown new
