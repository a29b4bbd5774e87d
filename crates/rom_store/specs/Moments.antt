-- The moments of commits: what a pass made lasts since its commit.
use Rattle.std.specs.Prelude.{◌≡◌, ℕ, ◌+◌, List, ◌++◌, length, Option, IsTrue}
use Rattle.rom_model.specs.Moments.{moments_of}
use Rattle.rom_model.specs.Story.{Story, len_after}
use Rattle.rom_model.specs.declared.kept.Kept.{Kept}
use Rattle.rom_model.specs.declared.record.PassRecord.{PassRecord}
use Rattle.rom_device.specs.Device.{ShownDevice}
use Rattle.rom_store.specs.Indexed.{Indexed}
use Rattle.rom_store.specs.Lasting.{Lasts}

-- The first passes of the story made so much of the history, and committed its entries at these moments, one for each.
pub record IsCommittedAt {S : Type 0} (story : Story S) (moments : List ℕ) (len : ℕ) : Type 0 where
  pub first : List PassRecord
  pub rest : List PassRecord
  pub stands : story.records ≡ first ++ rest
  pub reaches : len ≡ len_after 0 first
  pub moments_are : moments ≡ moments_of 0 first
  pub one_each : length moments ≡ len

-- All that a caller has seen was committed at the moments that it knows, and lasts: each image that a stop has left since the moment of an entry holds the history up to this entry.
pub record LastsFor {D S : Type 0} (shown : ShownDevice D) (Contents : ℕ → List ℕ → S → ℕ → Type 0) (step : ℕ → S → ℕ → List ℕ → Option (S × List ℕ)) (story : Story S) (now : D) (v : Kept) : Type 0 where
  pub certain : IsCommittedAt story v.moments (length v.seen)
  pub lasts : IsTrue shown.tells_images → Indexed (λ i moment. Lasts shown Contents step story (i + 1) moment now) v.moments
