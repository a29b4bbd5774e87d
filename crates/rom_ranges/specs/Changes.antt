-- Words that changed, and a log of where.
use Rattle.std.specs.Prelude.{◌≡◌, ℕ, ◌<◌, ◌≤◌, List, [], ◌∷◌, length, slice_index}
use Rattle.std.specs.Coded.{Unit-prop}
use Rattle.std.proofs.Props.{props}
use Rattle.rom_ranges.specs.Log.{Logged}
use Rattle.rom_ranges.specs.Ranges.{AreWithin, IsHeld, held_count}
use Rattle.rom_ranges.specs.declared.range.Range.{Range}

-- Both lists have the same words at the offsets of the second, but perhaps in the ranges.
abbrev pub SameBut : List Range → List ℕ → List ℕ → Type 0
SameBut ranges old image = (k : ℕ) → k < length image → (IsHeld ranges k → ⊥) → slice_index old k ≡ slice_index image k

-- The log holds each offset at which the second words differ from the first, and none past their end. There are no more ranges, and no more offsets in them, than were added.
pub record IsLogOf (old image : List ℕ) (log : Logged) : Type 0 where
  pub within : AreWithin (length image) log.ranges
  pub but : SameBut log.ranges old image
  pub short : length log.ranges ≤ log.added
  pub few : held_count log.ranges ≤ log.added

-- each is a fact, which has one proof at most
within-prop : (len : ℕ) (ranges : List Range) → IsProp (AreWithin len ranges)
within-prop len [] = Unit-prop
within-prop len (range ∷ ranges) = hlevel (props, within-prop len ranges)

-- `IsLogOf` is a fact, which has one proof at most
pub IsLogOf-prop : (old image : List ℕ) (log : Logged) → IsProp (IsLogOf old image log)
IsLogOf-prop old image log = hlevel (props, within-prop)
