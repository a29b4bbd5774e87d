-- Two callers' updates, taken in the order of their places.
use Rattle.std.proofs.Common.{◌≡◌, ℕ, List, [], ◌∷◌, refl}
use Rattle.std.specs.Prelude.{map}
use Rattle.rom_model.specs.declared.call.Answer.{Answer}
use Rattle.rom_model.specs.declared.call.Answer.TheVariants as answer
use Rattle.rom_model.specs.declared.call.Call.{Call}
use Rattle.rom_model.specs.declared.call.Call.TheVariants.{Add, Deq, Enq, Rem}
use Rattle.rom_model.specs.declared.call.Query.{Query}
use Rattle.rom_model.specs.declared.call.Query.TheVariants.{Peek}
use Rattle.rom_model.specs.declared.call.Reply.{Reply}
use Rattle.rom_model.specs.declared.call.Reply.TheVariants.{Added, Head, Queued}
use Rattle.rom_model.specs.declared.call.Updated.TheVariants.{Done, Failed}
use Rattle.rom_model.specs.declared.line.LineResult.{LineResult}
use Rattle.rom_model.specs.declared.line.LineResult.TheVariants as outcome
use Rattle.rom_model.specs.declared.line.Step.{Step}
use Rattle.rom_model.specs.declared.line.Step.TheVariants as line
use Rattle.rom_frame.specs.declared.frame.Frame.{Frame}
use Rattle.rom_replica.specs.Merging.{all_updates, merged_frames}

-- one queues a number, looks and takes it out; between these the other, behind a line that is none, adds a number, and then loses an update
abbrev scripts : List (List (Step Call Query))
scripts = (line.Update (Enq 9) ∷ line.Ask Peek ∷ line.Update Deq ∷ []) ∷ (line.Unread ∷ line.Update (Add 4) ∷ line.Update (Rem 4) ∷ []) ∷ []

abbrev results : List (List (LineResult Reply Answer))
results = (outcome.Update (Done Queued 5) ∷ outcome.Read (answer.Head 9) 6 ∷ outcome.Update (Done (Head 9) 7) ∷ [])
    ∷ (outcome.Unread ∷ outcome.Update (Done Added 6) ∷ outcome.Update Failed ∷ []) ∷ []

abbrev shipped : List Frame
shipped = record { place = 5; call = Enq 9; reply = Queued } ∷ record { place = 6; call = Add 4; reply = Added } ∷ record { place = 7; call = Deq; reply = Head 9 } ∷ []

in_turn : merged_frames 8 (all_updates scripts results) ≡ shipped
in_turn = refl
