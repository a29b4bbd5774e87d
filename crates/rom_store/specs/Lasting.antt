-- What a pass published lasts: from its commit on, whatever a stop leaves holds it.
use Rattle.std.specs.Prelude.{◌⊎◌, ℕ, ◌<◌, ◌≤◌, List, [], ◌∷◌, Option, IsTrue}
use Rattle.rom_model.specs.Story.{Story}
use Rattle.rom_model.specs.declared.record.PassRecord.{PassRecord}
use Rattle.rom_device.specs.Device.{ShownDevice}
use Rattle.rom_combine.specs.Session.{AtBoundary, AtDoubt}
use Rattle.rom_store.specs.Traced.{ArePassesOn}

module _ {D S : Type 0} (shown : ShownDevice D) (Contents : ℕ → List ℕ → S → ℕ → Type 0) (step : ℕ → S → ℕ → List ℕ → Option (S × List ℕ)) (story : Story S) where
  -- An image of the session that holds no less of the history than this much: all up to a boundary there or behind it, and then nothing, or the batch of a pass in doubt.
  abbrev pub HoldsAtLeast : ℕ → List ℕ → Type 0
  HoldsAtLeast len i = ((at : AtBoundary Contents step story i) × (len ≤ at.len)) ⊎ ((at : AtDoubt Contents step story i) × (len ≤ at.pass.len))

  -- By this moment the history was certain up to this length: so much is held by each image that a stop has left since.
  pub record Lasts (len moment : ℕ) (now : D) : Type 0 where
    pub passed : moment ≤ shown.clock now
    pub since : (i : List ℕ) → shown.left_since now moment i → HoldsAtLeast len i

  -- So it is with each of these passes that added to the history, from its commit on, up to the last device.
  abbrev pub AreLasting : D → (len : ℕ) (rs : List PassRecord) (was now : D) → ArePassesOn shown Contents step story len rs was now → Type 0
  AreLasting last len [] was now same = Unit {0}
  AreLasting last len (r ∷ rs) was now on = (len < r.len → Lasts r.len (shown.clock on.1.mid) last) × AreLasting last r.len rs on.0 now on.2

  -- and with all passes of the story, from wherever and by whichever way the device went through them
  abbrev pub HasLasted : D → Type 0
  HasLasted now = (first : D) (passes : ArePassesOn shown Contents step story 0 story.records first now) → IsTrue shown.tells_images → AreLasting now 0 story.records first now passes
