-- What one line was told, as it is handed out.
use Rattle.std.specs.Prelude.{ℕ, List, Option}
use Rattle.rom_model.specs.declared.line.LineResult.{LineResult}
use Rattle.rom_model.specs.declared.line.LineResult.TheVariants as outcome
use Rattle.rom_lines.specs.Replies.{SaysResult, done_with, undone_as}
use Rattle.rom_lines.specs.declared.results.Told.{Told}
use Rattle.rom_lines.specs.declared.results.Told.TheVariants as told

module _ {R A : Type 0} (words_reply : List ℕ → Option R) where
  -- what a line was told, with the reply that its words are read as
  abbrev pub result_told : Told A → LineResult R A
  result_told told.Unread = outcome.Unread
  result_told (told.Done words place) = done_with words_reply place (words_reply words.now)
  result_told (told.Undone why) = outcome.Update (undone_as why)
  result_told (told.Read answer front) = outcome.Read answer.now front

  -- where an update was done, its words are those of a reply
  abbrev pub IsTold : Told A → Type 0
  IsTold handed = SaysResult words_reply (result_told handed) handed
