-- The updates of several callers, taken by their places: at each turn that of the caller whose next one comes first.
use Rattle.std.specs.Prelude.{ℕ, zero, suc, ◌+◌, nat_lt, Bool, true, false, if◌then◌else◌, List, [], ◌∷◌, ◌++◌, drop, set, slice_get, Option, Some, None}
use Rattle.std.specs.Option.{option_map_or}
use Rattle.rom_model.specs.declared.call.Answer.{Answer}
use Rattle.rom_model.specs.declared.call.Call.{Call}
use Rattle.rom_model.specs.declared.call.Query.{Query}
use Rattle.rom_model.specs.declared.call.Reply.{Reply}
use Rattle.rom_model.specs.declared.call.Updated.TheVariants.{Done}
use Rattle.rom_model.specs.declared.line.LineResult.{LineResult}
use Rattle.rom_model.specs.declared.line.LineResult.TheVariants as outcome
use Rattle.rom_model.specs.declared.line.Step.{Step}
use Rattle.rom_model.specs.declared.line.Step.TheVariants as line
use Rattle.rom_frame.specs.declared.frame.Frame.{Frame}

-- the line's update, if it is one and was done
abbrev pub update_by : Step Call Query → LineResult Reply Answer → List Frame
update_by (line.Update call) (outcome.Update (Done reply place)) = record { place = place; call = call; reply = reply } ∷ []
update_by other result = []

-- the updates of a caller that were done, in the order of its lines
abbrev pub updates : List (Step Call Query) → List (LineResult Reply Answer) → List Frame
updates [] results = []
updates (l ∷ lines) [] = []
updates (l ∷ lines) (r ∷ results) = update_by l r ++ updates lines results

-- those of its lines from an index on
abbrev pub frames_left : ℕ → List (Step Call Query) → List (LineResult Reply Answer) → List Frame
frames_left at lines results = updates (drop at lines) (drop at results)

-- those of each caller
abbrev pub all_updates : List (List (Step Call Query)) → List (List (LineResult Reply Answer)) → List (List Frame)
all_updates [] results = []
all_updates (lines ∷ scripts) [] = []
all_updates (lines ∷ scripts) (results ∷ more) = updates lines results ∷ all_updates scripts more

-- whether the line is an update that was done
abbrev pub is_done : Step Call Query → LineResult Reply Answer → Bool
is_done (line.Update call) (outcome.Update (Done reply place)) = true
is_done other result = false

-- whether the first line, if there is one, is such
abbrev pub begins_done : List (Step Call Query) → List (LineResult Reply Answer) → Bool
begins_done [] results = true
begins_done (l ∷ lines) [] = true
begins_done (l ∷ lines) (r ∷ results) = is_done l r

-- the place of the first of a caller's updates, if it has one
abbrev pub next_place : List Frame → Option ℕ
next_place [] = None
next_place (f ∷ fs) = Some f.place

-- of an earlier caller's index and next place and of this one's, those of the lesser place
abbrev pub nearer : Option (ℕ × ℕ) → ℕ → Option ℕ → Option (ℕ × ℕ)
nearer best i None = best
nearer None i (Some place) = Some (i, place)
nearer (Some best) i (Some place) = if nat_lt place best.1 then Some (i, place) else Some best

-- the index and the next place of the caller whose next place is least, among these from an index on and the best before
abbrev pub least_from : ℕ → Option (ℕ × ℕ) → List (List Frame) → Option (ℕ × ℕ)
least_from i best [] = best
least_from i best (queue ∷ queues) = least_from (i + 1) (nearer best i (next_place queue)) queues

-- the index and the next place of the caller whose next place is least of all
abbrev pub least : List (List Frame) → Option (ℕ × ℕ)
least queues = least_from 0 None queues

-- the first update of the caller at this index, and what is left then
abbrev pub first_update : List (List Frame) → ℕ → Option (List Frame) → Option (Frame × List (List Frame))
first_update queues i (Some (f ∷ queue)) = Some (f, set queues i queue)
first_update queues i (Some []) = None
first_update queues i None = None

-- the first update of the caller whose next place is least
abbrev pub next_by : List (List Frame) → Option (ℕ × ℕ) → Option (Frame × List (List Frame))
next_by queues None = None
next_by queues (Some best) = first_update queues best.0 (slice_get queues best.0)

-- the update with the least place of all callers, and what is left then
abbrev pub next_update : List (List Frame) → Option (Frame × List (List Frame))
next_update queues = next_by queues (least queues)

-- so many turns
abbrev pub merged_frames : ℕ → List (List Frame) → List Frame
merged_frames zero queues = []
merged_frames (suc n) queues = option_map_or (λ r. r.0 ∷ merged_frames n r.1) (next_update queues) []
