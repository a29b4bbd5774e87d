-- Frames: the entries of a history as bytes that can be sent and kept apart from it.
use Rattle.std.specs.Prelude.{ℕ, ◌+◌, ◌^◌, ◌<◌, List, [], ◌∷◌, ◌++◌, length, flat_map, All}
use Rattle.byteorder.specs.Endian.{little_bytes}
use Rattle.rom_model.specs.Codes.{call_words, reply_words}
use Rattle.rom_model.specs.Groups.{HasFewReplies, HasSize}
use Rattle.rom_model.specs.Singles.{kind_of, reply_kind}
use Rattle.rom_model.specs.declared.entry.Entry.{Entry}
use Rattle.rom_frame.specs.declared.frame.Frame.{Frame}

-- words as bytes, eight of each, the least first
unfoldable pub bytes_of : List ℕ → List ℕ
bytes_of words = flat_map (little_bytes 8) words

-- the words of a frame: how many they are, the entry's place, the words of its call behind their number,
-- and those of its reply behind theirs
abbrev pub frame_words : ℕ → List ℕ → List ℕ → List ℕ
frame_words place args reply = (4 + length args + length reply) ∷ place ∷ length args ∷ (args ++ length reply ∷ reply)

-- the words of the frame of an update that was done at a place
abbrev pub words_of_frame : Frame → List ℕ
words_of_frame f = frame_words f.place (call_words f.call) (reply_words f.reply)

-- its bytes
abbrev pub frame : Frame → List ℕ
frame f = bytes_of (words_of_frame f)

-- Its numbers are 64-bit words, its call is an update alone or a group of two to eight, and its reply tells
-- at most eight: so it is of each frame that a program can have.
-- Words of 64 bits are a premise: numbers of a definition have any size, and 2^64 would have the bytes of 0.
pub record IsOfWords (f : Frame) : Type 0 where
  pub words : All (λ w. w < 2 ^ 64) (words_of_frame f)
  pub members : HasSize (kind_of f.call)
  pub replies : HasFewReplies (reply_kind f.reply)

-- the bytes of the frame of an entry at a place
abbrev pub entry_frame : ℕ → Entry → List ℕ
entry_frame place e = bytes_of (frame_words place e.args e.reply)

-- the frames of a history's entries in order, the first of which is at that place
abbrev pub frames : ℕ → List Entry → List ℕ
frames place [] = []
frames place (e ∷ es) = entry_frame place e ++ frames (place + 1) es
