-- The head of a named stream as bytes.
use Rattle.std.specs.Prelude.{ℕ, ◌-◌, ◌^◌, ◌<◌, List, [], ◌∷◌, All}
use Rattle.rom_frame.specs.Frames.{bytes_of}
use Rattle.rom_frame.specs.declared.head.Head.{Head}

-- the third word of a head, which is no number of a call's words
abbrev pub MARK : ℕ
MARK = 2 ^ 64 - 1

-- The words of a head: how many they are, the place of the first frame, the mark, the two words of the name, the epoch, and the count at which it began.
abbrev pub head_words : Head → List ℕ
head_words h = 7 ∷ h.first ∷ MARK ∷ h.name.high ∷ h.name.low ∷ h.epoch ∷ h.since ∷ []

-- its bytes
abbrev pub head : Head → List ℕ
head h = bytes_of (head_words h)

-- Its numbers are 64-bit words: so it is of each head that a program can have.
abbrev pub AreWords : Head → Type 0
AreWords h = All (λ w. w < 2 ^ 64) (head_words h)
