-- What a primary ships of a history can be followed.
use Rattle.std.proofs.Common.{ℕ, ◌+◌, ◌^◌, ◌<◌, List, [], ◌∷◌, subst}
use Rattle.std.specs.Prelude.{All}
use Rattle.rom_model.specs.declared.entry.Entry.{Entry}
use Rattle.rom_frame.specs.Frames.{frame_words}
use Rattle.rom_follow.specs.Following.{HasWords}
use Rattle.rom_replica.specs.Shipped.{AreFramed}

pub has_words : (place : ℕ) (history : List Entry) → AreFramed place history → HasWords place history
has_words place [] framed = tt
has_words place (e ∷ es) framed =
    let f = framed.0 in
    (subst (λ (z : ℕ × List ℕ × List ℕ). All (λ w. w < 2 ^ 64) (frame_words z.0 z.1 z.2)) (λ i. (f.place_is i, f.args i, f.reply i)) f.of_words.words, has_words (place + 1) es framed.1)
