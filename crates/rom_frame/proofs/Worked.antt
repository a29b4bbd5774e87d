-- Two updates on a fresh heap, `enq 9` and `deq`, with the words of their frames.
use Rattle.std.proofs.Common.{◌≡◌, List, [], ◌∷◌, length, refl}
use Rattle.rom_model.specs.declared.entry.Entry.{Entry}
use Rattle.rom_frame.specs.Frames.{bytes_of, frames}

abbrev shipped : List Entry
shipped =
    record { caller = 1; seq = 0; args = 1 ∷ 9 ∷ []; reply = 1 ∷ [] }
    ∷ record { caller = 1; seq = 1; args = 2 ∷ []; reply = 3 ∷ 9 ∷ [] } ∷ []

worked : frames 0 shipped ≡ bytes_of (7 ∷ 0 ∷ 2 ∷ 1 ∷ 9 ∷ 1 ∷ 1 ∷ 7 ∷ 1 ∷ 1 ∷ 2 ∷ 2 ∷ 3 ∷ 9 ∷ [])
unfolding bytes_of
worked = refl

worked_long : length (frames 0 shipped) ≡ 112
unfolding bytes_of
worked_long = refl
