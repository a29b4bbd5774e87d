-- What is read of a stream, and what waits of it.
use Rattle.std.specs.Prelude.{◌≡◌, ◌⊎◌, ℕ, ◌<◌, List, [], ◌++◌, length}
use Rattle.std.specs.Io.KnownBytes.{Consumes, IsAtEnd}
use Rattle.rom_text.specs.Limits.{CameToEnd}
use Rattle.rom_text.specs.Streams.{ReadFailed, ShownSource}
use Rattle.rom_frame.specs.Messages.{GaveOn, IsUnfinished}
use Rattle.rom_frame.specs.declared.frame.Frame.{Frame}
use Rattle.rom_replica.specs.Turns.{bytes_of_all}
use Rattle.rom_replica.specs.declared.stop.Stop.{Stop}
use Rattle.rom_replica.specs.declared.stop.Stop.TheVariants.{End, Broken, StreamFailed}
use Rattle.rom_tail.specs.Fronts as fronts

module _ {S : Type 0} (source : ShownSource S) where
  -- So many bytes came behind those that waited: none only at the end.
  pub record HasCome (waited waits : List ℕ) (old new : S) (count : ℕ) : Type 0 where
    pub bytes : List ℕ
    pub many : length bytes ≡ count
    pub consumed : Consumes (source.left old) (source.left new) bytes
    pub behind : waits ≡ waited ++ bytes
    pub at_end : count ≡ 0 → IsAtEnd (source.left new)

  -- What waited, and what was read behind it, are the bytes of these frames, and what waits now.
  pub record HasTaken (waited waits : List ℕ) (old new : S) (frames : List Frame) : Type 0 where
    pub bytes : List ℕ
    pub consumed : Consumes (source.left old) (source.left new) bytes
    pub are : waited ++ bytes ≡ bytes_of_all frames ++ waits

  -- Why no frame comes behind what waits: the stream has ended, in the midst of a message or not; there stands no frame; or a read failed.
  abbrev pub IsStopOfStream : List ℕ → S → S → Stop → Type 0
  IsStopOfStream waits old new End = (waits ≡ []) × CameToEnd source old new
  IsStopOfStream waits old new Broken = (fronts.IsBroken waits × GaveOn source old new) ⊎ ((0 < length waits) × IsUnfinished waits × CameToEnd source old new)
  IsStopOfStream waits old new StreamFailed = IsUnfinished waits × ReadFailed source old new
  IsStopOfStream waits old new other = ⊥
