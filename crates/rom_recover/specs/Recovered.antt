-- What recovery leaves and refuses.
use Rattle.std.specs.Prelude.{◌≡◌, ◌≢◌, ◌⊎◌, ℕ, ◌+◌, ◌*◌, ◌<◌, ◌≤◌, List, slice_index}
use Rattle.rom_model.specs.Blocks.{region_len}
use Rattle.rom_device.specs.Device.{Becomes}
use Rattle.rom_header.specs.Headers.{IsIdle, state_word}
use Rattle.rom_header.specs.Layout.{MAIN, back_at, main_of, back_of}
use Rattle.rom_header.specs.Regions.{IsHeap, IsCounted, SameRegion}
use Rattle.rom_header.specs.Writing.{StateOrWithin}
use Rattle.rom_header.specs.declared.header.State.{State}
use Rattle.rom_header.specs.declared.header.State.TheVariants.{Idle, Mutating, Copying}
use Rattle.rom_recover.specs.declared.recovery.RecoverRefused.{RecoverRefused}
use Rattle.rom_recover.specs.declared.recovery.RecoverRefused.TheVariants.{Twins, Device}

-- the state that a word names; any other word counts as IDLE
pub record IsStateOf (word : ℕ) (state : State) : Type 0 where
  pub named : word ≤ 2 → word ≡ state_word state
  pub other : 2 < word → state ≡ Idle

-- from where to where a region is copied in this state: back to main under MUTATING, and main to back under COPYING
abbrev pub IsWay : ℕ → State → ℕ → ℕ → Type 0
IsWay order Idle from to = ⊥
IsWay order Mutating from to = (from ≡ back_at order) × (to ≡ MAIN)
IsWay order Copying from to = (from ≡ MAIN) × (to ≡ back_at order)

-- so many words from the start of each region are the same
abbrev pub AreTwins : ℕ → ℕ → List ℕ → Type 0
AreTwins order count words = (k : ℕ) → k < count → slice_index words (MAIN + k) ≡ slice_index words (back_at order + k)

-- The state is IDLE, and the regions differ at this offset for the first time, with these words in main and in back.
pub record DifferAt (order : ℕ) (words : List ℕ) (offset main back : ℕ) : Type 0 where
  pub idle : IsIdle words
  pub within : offset < region_len order
  pub main_is : slice_index words (MAIN + offset) ≡ main
  pub back_is : slice_index words (back_at order + offset) ≡ back
  pub differ : main ≢ back
  pub first : AreTwins order offset words

-- a refusal by the regions names their first difference
abbrev pub IsFirst : ℕ → List ℕ → RecoverRefused → Type 0
IsFirst order words (Twins offset main back) = DifferAt order words offset main back
IsFirst order words Device = Unit {0}

-- a difference stands at that offset or behind it
abbrev pub StandsFrom : ℕ → RecoverRefused → Type 0
StandsFrom from (Twins offset main back) = from ≤ offset
StandsFrom from Device = Unit {0}

-- The state is IDLE, and both regions are the one that counted.
pub record IsDone (order : ℕ) (old new : List ℕ) : Type 0 where
  pub heap : IsHeap order new
  pub idle : IsIdle new
  pub region : List ℕ
  pub counted : IsCounted order old region
  pub main_is : main_of order new ≡ region
  pub back_is : back_of order new ≡ region

-- Only the state and the regions differ, and each word of a region is as it was or the other region's at the same offset.
pub record TakesTwins (order : ℕ) (old new : List ℕ) : Type 0 where
  pub others : StateOrWithin MAIN (2 * region_len order) old new
  pub main : (k : ℕ) → k < region_len order → (slice_index new (MAIN + k) ≡ slice_index old (MAIN + k)) ⊎ (slice_index new (MAIN + k) ≡ slice_index old (back_at order + k))
  pub back : (k : ℕ) → k < region_len order → (slice_index new (back_at order + k) ≡ slice_index old (back_at order + k)) ⊎ (slice_index new (back_at order + k) ≡ slice_index old (MAIN + k))

-- What recovery leaves at any moment of words that it changes: the region that counts stays.
pub record Mended (order : ℕ) (old new : List ℕ) : Type 0 where
  pub same : SameRegion old new
  pub takes : TakesTwins order old new

-- the words are as they were, or so
abbrev pub Mends : ℕ → List ℕ → List ℕ → Type 0
Mends order old new = Becomes (Mended order old) old new
