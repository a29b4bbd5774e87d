-- What the images of a device hold, in terms of the published history.
use Rattle.std.specs.Prelude.{◌≡◌, ◌≢◌, ◌⊎◌, ℕ, ◌+◌, List, ◌∷◌, ◌++◌, map, length, Option}
use Rattle.std.specs.List.{AllByRecursion}
use Rattle.rom_model.specs.History.{after, batch}
use Rattle.rom_model.specs.declared.entry.Entry.{Entry}
use Rattle.rom_model.specs.declared.record.Fate.{Fate}
use Rattle.rom_model.specs.declared.record.Fate.TheVariants as fate
use Rattle.rom_model.specs.declared.record.PassRecord.{PassRecord}
use Rattle.rom_device.specs.Device.{ShownDevice, Becomes, Runs}
use Rattle.rom_header.specs.Held.{Holds}
use Rattle.rom_twin.specs.declared.phase.Phase.{Phase}
use Rattle.rom_twin.specs.declared.phase.Phase.TheVariants as phase
use Rattle.rom_combine.specs.Images.{MayPublish}
use Rattle.rom_rule.specs.Calls.{found_of}
use Rattle.rom_rule.specs.Views.{records_of}
use Rattle.rom_rule.specs.declared.views.Base.{Base}
use Rattle.rom_rule.specs.declared.views.Plan.{Plan}

-- Of an object; s and n are the state and the count that the opening image stands for.
module _ {S : Type 0} (Contents : ℕ → List ℕ → S → ℕ → Type 0) (step : ℕ → S → ℕ → List ℕ → Option (S × List ℕ)) (b : Base) (s : S) (n : ℕ) where
  -- the image holds the state and the count after this history
  abbrev pub HoldsHistory : List Entry → List ℕ → Type 0
  HoldsHistory history i = Holds Contents b.order i (after step b.order s n history) (n + length history)

  -- the batch of the calls that a pass found, which are the requests of its plan, done behind the published history
  abbrev pub batch_found : Plan → List Entry
  batch_found p = batch step b.order (after step b.order s n p.history) (n + length p.history) (map found_of p.requests)

  -- The batch of the last record in doubt, since which nothing was published.
  pub record Doubted (p : Plan) (d : List Entry) : Type 0 where
    pub earlier : List PassRecord
    pub pass : PassRecord
    pub later : List PassRecord
    pub stands : records_of p ≡ earlier ++ pass ∷ later
    pub fate_is : pass.fate ≡ fate.Doubt
    pub unmoved : pass.len ≡ length p.history
    pub last : AllByRecursion (λ r. r.fate ≢ fate.Doubt) later
    pub batch_is : d ≡ batch step b.order (after step b.order s n p.history) (n + length p.history) pass.found

  -- at rest: the published history, or, in `Doubt`, that followed by the batch in doubt
  abbrev pub ImageAt : Phase → Plan → List ℕ → Type 0
  ImageAt at p i = HoldsHistory p.history i ⊎ ((at ≡ phase.Doubt) × (d : List Entry) × Doubted p d × HoldsHistory (p.history ++ d) i)

  -- Each image that a pass with this fate makes holds the history before it, or that followed by its batch.
  abbrev pub PassMakes : Fate → List Entry → List Entry → List ℕ → Type 0
  PassMakes f history more i = HoldsHistory history i ⊎ (MayPublish f × HoldsHistory (history ++ more) i)

  -- A pass made the one history the other, and its device was this one at its commit. Until then each image that it makes holds the one or the other; what a stop leaves then, and each image that is made from there on, holds the other.
  pub record IsCertainSince {D : Type 0} (shown : ShownDevice D) (history longer : List Entry) (was mid now : D) : Type 0 where
    pub until : Runs shown (Becomes (λ i. HoldsHistory history i ⊎ HoldsHistory longer i)) was mid
    pub certain : (i : List ℕ) → shown.leaves mid i → HoldsHistory longer i
    pub since : Runs shown (Becomes (HoldsHistory longer)) mid now
