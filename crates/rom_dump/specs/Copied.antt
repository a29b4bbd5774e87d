-- What the command `copy` takes, and what it tells of the new heap.
use Rattle.std.specs.Prelude.{◌≡◌, ℕ, IsTrue, List, Result, OnOk, slice_index}
use Rattle.rom_model.specs.Faults.{HasCause}
use Rattle.rom_device.specs.Device.{ShownDevice, IsSynced}
use Rattle.rom_header.specs.Calls.{format_fault}
use Rattle.rom_header.specs.Layout.{back_of}
use Rattle.rom_header.specs.declared.fresh.FormatRefused.{FormatRefused}
use Rattle.rom_text.specs.Runs.{IsLineWrittenOrCutShort}
use Rattle.rom_text.specs.Streams.{ShownSink}
use Rattle.rom_steady.specs.declared.names.NameWords.{NameWords}
use Rattle.rom_copy.specs.Putting.{BeginsWith, IsPutAnswer}
use Rattle.rom_copy.specs.Whole.{HoldsWhole}
use Rattle.rom_dump.specs.Copying.{put_line, put_status}
use Rattle.rom_dump.specs.declared.copy.Made.{Made}
use Rattle.rom_dump.specs.declared.copy.Taken.{Taken}

-- In both words the same region counts, under one order and with the same words of the name, and its count is the one that is told. In the source back holds it, too, whatever the state.
pub record IsTakenFrom (source : List ℕ) (taken : Taken) : Type 0 where
  pub image : List ℕ
  pub names : NameWords
  pub source_is : HoldsWhole taken.order names image source
  pub back_is : image ≡ back_of taken.order source
  pub copy_is : HoldsWhole taken.order names image taken.words.items
  pub count_is : taken.count ≡ slice_index image 2

-- The words of the heap were put, or not, and what came of it is told.
pub record IsPutTold {D S : Type 0} (shown : ShownDevice D) (sink : ShownSink S) (made : Made) (taken : Taken) (old new : D) (before after : S) (status : ℕ) : Type 0 where
  pub put : Result (Unit {0}) FormatRefused
  pub answer : IsTrue shown.tells_words → IsPutAnswer taken.words.items (shown.words old) put
  pub begins : IsTrue shown.tells_words → OnOk put (BeginsWith taken.words.items (shown.words new))
  pub certain : OnOk put (IsSynced shown new)
  pub cause : HasCause (shown.faults old) (shown.faults new) (shown.failing new) (format_fault put)
  pub line : IsLineWrittenOrCutShort sink before after (put_line made taken.order taken.count put)
  pub status_is : status ≡ put_status put
