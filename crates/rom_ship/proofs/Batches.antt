-- What is made of updates one behind another.
use Rattle.std.proofs.Common.{◌≡◌, ℕ, zero, suc, ◌+◌, ◌<◌, List, [], ◌∷◌, ◌++◌, map, take, get_or, length, refl, ap, sym, ◌∙◌, append_assoc, append-nil, add-one, arith}
use Rattle.rom_model.specs.declared.entry.Entry.{Entry}
use Rattle.rom_combine.specs.Shipping.{text_from, update_of}
use Rattle.rom_frame.specs.Frames.{entry_frame, frames}
use Rattle.rom_ship.specs.Streams.{frame_text}

next : (text : ℕ → List ℕ → List ℕ → List ℕ) (place i : ℕ) (us : List (List ℕ × List ℕ)) → i < length us →
    text_from text place (take (suc i) us) ≡ text_from text place (take i us) ++ text (place + i) (get_or us i ([], [])).0 (get_or us i ([], [])).1
next text place i [] lt = absurd (omega (arith, lt))
next text place zero (u ∷ us) lt =
    let same : place ≡ place + 0 = omega arith in
    append-nil (text place u.0 u.1) ∙ ap (λ (p : ℕ). text p u.0 u.1) same
next text place (suc i) (u ∷ us) lt =
    let here : List ℕ = text place u.0 u.1 in
    let v : List ℕ × List ℕ = get_or us i ([], []) in
    let same : (place + 1) + i ≡ place + suc i = omega arith in
    ap (λ (l : List ℕ). here ++ l) (next text (place + 1) i us (omega (arith, lt)) ∙ ap (λ (p : ℕ). text_from text (place + 1) (take i us) ++ text p v.0 v.1) same)
    ∙ sym (append_assoc here (text_from text (place + 1) (take i us)) (text (place + suc i) v.0 v.1))

-- that of one update more
pub text_more : (text : ℕ → List ℕ → List ℕ → List ℕ) (place i : ℕ) (us : List (List ℕ × List ℕ)) → i < length us →
    text_from text place (take (i + 1) us) ≡ text_from text place (take i us) ++ text (place + i) (get_or us i ([], [])).0 (get_or us i ([], [])).1
text_more text place i us lt = ap (λ (n : ℕ). text_from text place (take n us)) (add-one i) ∙ next text place i us lt

-- Of all entries of a history it is the stream of their frames.
pub stream_of : (place : ℕ) (es : List Entry) → text_from frame_text place (map update_of es) ≡ frames place es
stream_of place [] = refl
stream_of place (e ∷ es) = ap (λ (l : List ℕ). entry_frame place e ++ l) (stream_of (place + 1) es)
