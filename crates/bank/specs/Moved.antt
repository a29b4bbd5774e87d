-- Calls that move money, and what they are told.
use Rattle.std.specs.Prelude.{◌≡◌, ℕ, ◌==◌, Bool, true, false, List, [], ◌∷◌}
use Rattle.std.specs.List.{count_by}
use Rattle.rom_model.specs.Codes.{call_words}
use Rattle.rom_model.specs.declared.call.Call.TheVariants.{Move}
use Rattle.rom_model.specs.declared.call.Reply.{Reply}
use Rattle.rom_model.specs.declared.call.Reply.TheVariants.{Moved}
use Rattle.rom_model.specs.declared.call.Updated.{Updated}
use Rattle.rom_model.specs.declared.call.Updated.TheVariants.{Done}
use Rattle.rom_model.specs.declared.entry.Entry.{Entry}

-- the words are those of a move
abbrev pub IsMove : List ℕ → Type 0
IsMove args = (a b d : ℕ) × (args ≡ call_words (Move a b d))

-- whether an update was told that money was moved
abbrev pub is_told_moved : Updated Reply → Bool
is_told_moved (Done Moved place) = true
is_told_moved other = false

-- whether a reply, by its words, says that money was moved
abbrev pub is_moved : List ℕ → Bool
is_moved [] = false
is_moved (tag ∷ rest) = tag == 11

-- how many of some entries, with their places, are told so
abbrev pub moved_in : List (ℕ × Entry) → ℕ
moved_in placed = count_by (λ x. is_moved x.1.reply) placed
