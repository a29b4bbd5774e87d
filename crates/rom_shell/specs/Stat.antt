-- What `stat` prints of a heap.
use Rattle.std.specs.Prelude.{List, []}
use Rattle.rom_model.specs.State.{State}
use Rattle.rom_model.specs.Story.{Story}
use Rattle.rom_model.specs.Trio.{trio}
use Rattle.rom_model.specs.declared.kept.Kept.{Kept}
use Rattle.rom_run.specs.Played.{AreAnswered}
use Rattle.rom_text.specs.Streams.{ShownSink}
pub use Rattle.rom_script.specs.Stat.{IsWrittenOrCutShort, stat_text}

-- Nothing was done on the heap, and its text is printed.
pub record IsStatShown {O : Type 0} (sink : ShownSink O) (old new : O) (callers : List Kept) (story : Story State) : Type 0 where
  pub answered : AreAnswered trio [] [] callers story
  pub printed : IsWrittenOrCutShort sink old new (stat_text story.order story.opening story.opening_count)
