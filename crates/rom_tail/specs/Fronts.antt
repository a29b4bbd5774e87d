-- What the bytes of a stream begin with.
use Rattle.std.specs.Prelude.{◌≡◌, ◌⊎◌, ℕ, ◌*◌, ◌<◌, ◌≤◌, List, length, take}
use Rattle.rom_frame.specs.Frames.{IsOfWords, frame}
use Rattle.rom_frame.specs.Messages.{IsCount, IsUnfinished, first_word}
use Rattle.rom_frame.specs.declared.frame.Frame.{Frame}
use Rattle.rom_follow.specs.Taking.{IsNoFrame}
use Rattle.rom_tail.specs.declared.front.Front.{Front}
use Rattle.rom_tail.specs.declared.front.Front.TheVariants.{Whole, Unfinished, Broken}

-- No frame stands there, whatever comes behind: their first word is the number of no message's words, or the message that it makes is no frame.
abbrev pub IsBroken : List ℕ → Type 0
IsBroken bytes = ((8 ≤ length bytes) × (IsCount (first_word bytes) → ⊥)) ⊎ ((8 * first_word bytes ≤ length bytes) × IsNoFrame (take (8 * first_word bytes) bytes))

-- the first bytes, so many, are those of this frame
pub record BeginsWith (bytes : List ℕ) (f : Frame) (len : ℕ) : Type 0 where
  pub of_words : IsOfWords f
  pub some : 0 < len
  pub within : len ≤ length bytes
  pub is : take len bytes ≡ frame f

-- what they begin with
abbrev pub IsFront : List ℕ → Front → Type 0
IsFront bytes (Whole f len) = BeginsWith bytes f len
IsFront bytes Unfinished = IsUnfinished bytes
IsFront bytes Broken = IsBroken bytes
