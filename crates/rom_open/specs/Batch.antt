-- One batch that replaces both regions of a heap.
use Rattle.std.specs.Prelude.{◌≡◌, ◌⊎◌, ℕ, List, [], ◌∷◌, Result, OnOk, OnErr}
use Rattle.rom_model.specs.Blocks.{region_len}
use Rattle.rom_model.specs.Earlier.{Earlier}
use Rattle.rom_model.specs.Faults.{Adds, AtMost, FailedLast, StopsAtFault}
use Rattle.rom_device.specs.Device.{ShownDevice}
use Rattle.rom_header.specs.Regions.{IsCurrentRegion}
use Rattle.rom_ranges.specs.declared.range.Range.{Range}

-- the range of each word of a region of this order
abbrev pub whole_region : ℕ → List Range
whole_region order = record { start = 0; end = region_len order } ∷ []

-- in the image the one region counts, or the other
abbrev pub CountsEither : ℕ → List ℕ → List ℕ → List ℕ → Type 0
CountsEither order old new image = IsCurrentRegion order image old ⊎ IsCurrentRegion order image new

-- Calls of which none reads, and none follows one that failed: after `Ok` exactly so many writes and syncs, of which the last one may have failed, and after an error at most so many.
pub record WritesAndSyncs {D T E : Type 0} (shown : ShownDevice D) (writes syncs : ℕ) (old new : D) (result : Result T E) : Type 0 where
  pub reads : shown.reads new ≡ shown.reads old
  pub writes_made : OnOk result (Adds writes (shown.writes old) (shown.writes new))
  pub syncs_made : OnOk result (Adds syncs (shown.syncs old) (shown.syncs new))
  pub most_writes : AtMost writes (shown.writes old) (shown.writes new)
  pub most_syncs : AtMost syncs (shown.syncs old) (shown.syncs new)
  pub ended : OnOk result (StopsAtFault (shown.faults old) (shown.faults new) (shown.failing new))
  pub failed : OnErr result (FailedLast (shown.faults old) (shown.faults new) (shown.failing new))

-- The region that counted in these words stood for a state and a count in the version before, for which the new one stands in this version.
pub record Renews {S : Type 0} (Contents : ℕ → List ℕ → S → ℕ → Type 0) (earlier : Earlier S) (order : ℕ) (words new : List ℕ) : Type 0 where
  pub region : List ℕ
  pub current : IsCurrentRegion order words region
  pub state : S
  pub count : ℕ
  pub was : earlier.Contents order region state count
  pub is : Contents order new state count
