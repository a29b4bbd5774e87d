-- What a stop during a pass leaves.
use Rattle.std.specs.Prelude.{◌≢◌, ◌⊎◌, ℕ, List}
use Rattle.rom_model.specs.History.{after}
use Rattle.rom_model.specs.declared.record.Fate.{Fate}
use Rattle.rom_model.specs.declared.record.Fate.TheVariants as fate
use Rattle.rom_header.specs.Held.{Holds}
use Rattle.rom_header.specs.Regions.{IsCurrentRegion}
use Rattle.rom_twin.specs.Images.{HasBack, Repairing}
use Rattle.rom_twin.specs.declared.phase.Phase.{Phase}
use Rattle.rom_twin.specs.declared.phase.Phase.TheVariants as phase

-- in the image this region counts
abbrev pub Counting : ℕ → List ℕ → List ℕ → Type 0
Counting order region i = IsCurrentRegion order i region

-- Each image that is made before COPYING is to be written, by the phase that the batch began in: it is under MUTATING and has the committed region in back, or is one of the repair where that phase needs one.
abbrev pub BeforeCommit : Phase → ℕ → List ℕ → List ℕ → Type 0
BeforeCommit phase.Clean order c i = HasBack order c i
BeforeCommit phase.Begun order c i = HasBack order c i
BeforeCommit phase.Persisted order c i = HasBack order c i
BeforeCommit phase.Committed order c i = HasBack order c i
BeforeCommit phase.Copied order c i = HasBack order c i
BeforeCommit phase.Undo order c i = HasBack order c i ⊎ Repairing phase.Undo order c i
BeforeCommit phase.Doubt order c i = HasBack order c i ⊎ Repairing phase.Doubt order c i
BeforeCommit phase.Redo order c i = HasBack order c i ⊎ Repairing phase.Redo order c i

-- the committed region counts, or the new one, but not where the phase after is `Undo`
abbrev pub Committable : Phase → ℕ → List ℕ → List ℕ → List ℕ → Type 0
Committable after order c m i = IsCurrentRegion order i c ⊎ ((after ≢ phase.Undo) × IsCurrentRegion order i m)

-- a pass that ended so may have left its batch done
abbrev pub MayPublish : Fate → Type 0
MayPublish fate.Failed = ⊥
MayPublish other = Unit {0}

module _ {S : Type 0} (Contents : ℕ → List ℕ → S → ℕ → Type 0) (order : ℕ) where
  -- the region that counts in the image stands for this state and count
  abbrev pub HoldsIn : S → ℕ → List ℕ → Type 0
  HoldsIn s k i = Holds Contents order i s k
