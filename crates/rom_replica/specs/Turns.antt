-- What becomes of frames that are taken one after another, by their places and the count. So the record of
-- `follow` needs none of the follower's answers, and an equation in it says what the history is.
use Rattle.std.specs.Prelude.{ℕ, ◌+◌, ◌==◌, nat_lt, List, [], ◌∷◌, ◌++◌, flat_map, if◌then◌else◌}
use Rattle.rom_model.specs.Codes.{reply_words}
use Rattle.rom_model.specs.declared.call.Updated.TheVariants as updated
use Rattle.rom_model.specs.declared.entry.Entry.{Entry}
use Rattle.rom_rule.specs.Views.{Told}
use Rattle.rom_frame.specs.Frames.{frame}
use Rattle.rom_frame.specs.declared.frame.Frame.{Frame}
use Rattle.rom_follow.specs.Taking.{entry_at, found_at}

-- the count behind a frame's turn: a frame whose place it is becomes an entry
abbrev pub count_behind : ℕ → Frame → ℕ
count_behind count f = if f.place == count then count + 1 else count

-- the frames whose places are the count at their turns, from a count on
abbrev pub applied : ℕ → List Frame → List Frame
applied count [] = []
applied count (f ∷ fs) = (if f.place == count then f ∷ [] else []) ++ applied (count_behind count f) fs

-- how many frames' places are below it
abbrev pub known : ℕ → List Frame → ℕ
known count [] = 0
known count (f ∷ fs) = (if nat_lt f.place count then 1 else 0) + known (count_behind count f) fs

-- and above it
abbrev pub early : ℕ → List Frame → ℕ
early count [] = 0
early count (f ∷ fs) = (if nat_lt count f.place then 1 else 0) + early (count_behind count f) fs

-- the bytes of frames, one after another
abbrev pub bytes_of_all : List Frame → List ℕ
bytes_of_all frames = flat_map frame frames

-- the entries of updates that one caller does, the first of which is its call of this number
abbrev pub entries_from : ℕ → List Frame → List Entry
entries_from seq [] = []
entries_from seq (f ∷ fs) = entry_at seq f.call f.reply ∷ entries_from (seq + 1) fs

-- those updates as passes find them, each with what it is told: that it is done, with the frame's reply and at its place
abbrev pub tries_from : ℕ → List Frame → List Told
tries_from seq [] = []
tries_from seq (f ∷ fs) = (found_at seq f.call, updated.Done (reply_words f.reply) f.place) ∷ tries_from (seq + 1) fs
