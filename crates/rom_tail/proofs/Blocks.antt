-- The bytes that wait in a block, as frames are taken off their front and more come behind.
use Rattle.std.proofs.Common.{◌≡◌, ℕ, List, [], ◌∷◌, ◌++◌, take, drop, sym, ap, ◌∙◌, append_assoc, append-nil}
use Rattle.std.proofs.lemmas.List.{take-append-drop}
use Rattle.rom_frame.specs.Frames.{frame}
use Rattle.rom_frame.specs.declared.frame.Frame.{Frame}
use Rattle.rom_replica.specs.Turns.{bytes_of_all}
use Rattle.rom_replica.proofs.Turning.{bytes_behind}

-- one frame more is taken off the front
pub taken_more : (whole waits : List ℕ) (fs : List Frame) (f : Frame) (len : ℕ) → whole ≡ bytes_of_all fs ++ waits → take len waits ≡ frame f → whole ≡ bytes_of_all (fs ++ f ∷ []) ++ drop len waits
taken_more whole waits fs f len are is =
    are ∙ ap (λ (bs : List ℕ). bytes_of_all fs ++ bs) (sym (take-append-drop len waits) ∙ ap (λ (bs : List ℕ). bs ++ drop len waits) is)
    ∙ sym (append_assoc (bytes_of_all fs) (frame f) (drop len waits)) ∙ ap (λ (bs : List ℕ). bs ++ drop len waits) (sym (bytes_behind fs (f ∷ []) ∙ ap (λ (bs : List ℕ). bytes_of_all fs ++ bs) (append-nil (frame f))))
