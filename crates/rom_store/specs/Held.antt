-- What holds behind the lock whenever it is free.
use Rattle.std.specs.Prelude.{◌≡◌, ◌⊎◌, ℕ, ◌≤◌, List, [], length, map, Option, None, IsTrue}
use Rattle.atomic_table.specs.Seated.{TableId}
use Rattle.rom_model.specs.Faults.{Rose}
use Rattle.rom_model.specs.Story.{Story, len_after}
use Rattle.rom_model.specs.declared.entry.Entry.{Entry}
use Rattle.rom_device.specs.Device.{ShownDevice}
use Rattle.rom_twin.specs.Seen.{NeedsRepair}
use Rattle.rom_twin.specs.declared.phase.Phase.TheVariants.{Doubt}
use Rattle.rom_combine.specs.AtRest.{Locked}
use Rattle.rom_combine.specs.Costs.{WithinHeap}
use Rattle.rom_combine.specs.Histories.{Doubted, ImageAt}
use Rattle.rom_combine.specs.Session.{SessionImage}
use Rattle.rom_combine.specs.Shipping.{Shipped, Ships, ShownShipper, text_from, update_of}
use Rattle.rom_rule.specs.Views.{plan_of, records_of}
use Rattle.rom_rule.specs.declared.views.Base.{Base}
use Rattle.rom_rule.specs.declared.views.Plan.{Plan}
use Rattle.rom_store.specs.Start.{HasStarted, Start}
use Rattle.rom_store.specs.Traced.{WentThrough}

-- the published history as a story, from the state and the count that the opening image stands for
abbrev pub story_at : {S : Type 0} → Base → S → ℕ → Plan → Story S
story_at base s k p = record { order = base.order; opening = s; opening_count = k; opening_faults = base.faults; history = p.history; records = records_of p; in_doubt = None }

-- Since that start the shipper was handed all updates of this history, which begins at the opening's count, and nothing else.
abbrev pub HasShipped : {S W : Type 0} → (ℕ → List ℕ → S → ℕ → Type 0) → ShownShipper W → Base → Shipped → W → List Entry → Type 0
HasShipped {S} Contents shown base began shipper history = IsTrue shown.tells → (s : S) (k : ℕ) → Contents base.order base.image s k → Ships began (shown.state shipper) (text_from shown.text k (map update_of history))

-- What the lock keeps of a store with this table, this opening and this start of its device; the test tells which images a stop at some moment since another one might have left by the start.
pub record IsBehindLock {D S : Type 0} (shown : ShownDevice D) (Contents : ℕ → List ℕ → S → ℕ → Type 0) (step : ℕ → S → ℕ → List ℕ → Option (S × List ℕ)) (table : TableId) (base : Base) (start : Start) (test : ℕ → List ℕ → Type 0) (c : Locked D) : Type 0 where
  pub table_is : c.table_id ≡ table
  pub base_is : c.view.base ≡ base
  pub order_is : c.twin.order ≡ base.order
  -- the opening image stands for some state and count
  pub formed : (s : S) × (k : ℕ) × Contents base.order base.image s k
  -- the writer keeps of no caller yet what it knew
  pub alone : c.view.joined ≡ []
  -- the last record ends where the history does
  pub ends : len_after 0 (records_of (plan_of c.view)) ≡ length (plan_of c.view).history
  -- in doubt, there is a batch in doubt, since which nothing was published
  pub in_doubt : c.twin.phase ≡ Doubt → (s : S) (k : ℕ) → Contents base.order base.image s k → (d : List Entry) × Doubted Contents step base s k (plan_of c.view) d
  -- the device's count of faults is not below that of the opening, and it needs a repair only where it rose since
  pub no_lower : base.faults ≤ shown.faults c.twin.device
  pub needed : NeedsRepair c.twin.phase → Rose base.faults (shown.faults c.twin.device)
  -- each image that a stop leaves now holds the published history, or, in doubt, that with the batch in doubt
  pub now : IsTrue shown.tells_images → (s : S) (k : ℕ) → Contents base.order base.image s k → (i : List ℕ) → shown.leaves c.twin.device i → ImageAt Contents step base s k c.twin.phase (plan_of c.view) i
  -- the device has its length, and of its words only the state and the two regions of the heap differ
  pub size_is : shown.size c.twin.device ≡ start.size
  pub outside : IsTrue shown.tells_words → WithinHeap base.order start.words (shown.words c.twin.device)
  -- no moment and no image is forgotten, and each image since a moment could be left by the start, or is one of the session
  pub later : IsTrue shown.tells_images → start.clock ≤ shown.clock c.twin.device
  pub keeps : IsTrue shown.tells_images → (t : ℕ) (i : List ℕ) → t ≤ start.clock → test t i → shown.left_since c.twin.device t i
  pub since : IsTrue shown.tells_images → (s : S) (k : ℕ) → Contents base.order base.image s k → (t : ℕ) (i : List ℕ) → shown.left_since c.twin.device t i → test t i ⊎ SessionImage Contents step (story_at base s k (plan_of c.view)) i
  -- the device went through the passes of the records, from the one of the start on, and is left by them so
  pub went : (s : S) (k : ℕ) → Contents base.order base.image s k → WentThrough shown Contents step (story_at base s k (plan_of c.view)) (HasStarted shown base.faults start test) c.twin.device
