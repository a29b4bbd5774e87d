-- When an update is told `full`.
use Rattle.std.specs.Prelude.{◌≡◌, List, ◌∷◌, ◌++◌, Some}
use Rattle.rom_model.specs.History.{after}
use Rattle.rom_model.specs.Machine.{on_words}
use Rattle.rom_model.specs.Story.{Story}
use Rattle.rom_model.specs.declared.entry.Entry.{Entry}
use Rattle.rom_blob_region.specs.State.{BlobState, MayRefuse}
use Rattle.rom_blob_region.specs.declared.call.BlobCall.{BlobCall}
use Rattle.rom_blob_region.specs.declared.call.BlobReply.TheVariants.{Full}
use Rattle.rom_blob.specs.Blobs.{blobs}
use Rattle.rom_blob.specs.Codes.{blob_call_from_words, blob_reply_words}

-- Each update of the history that was told `full` finds a state, that after the updates before it, in which so many units are in use that there may be no room for what it asks for.
-- It speaks of states and not of regions: of a history only the first and the last region are known.
abbrev pub IsFullWhereCrowded : Story BlobState → Type 0
IsFullWhereCrowded story =
    (before behind : List Entry) (entry : Entry) (call : BlobCall) → story.history ≡ before ++ entry ∷ behind → blob_call_from_words entry.args ≡ Some call → entry.reply ≡ blob_reply_words Full
    → MayRefuse story.order (after (on_words blobs) story.order story.opening story.opening_count before) call
