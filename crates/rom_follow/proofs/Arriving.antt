-- A message that is read as a frame, and may be of a history, is the frame of one of its entries.
use Rattle.std.proofs.Common.{◌≡◌, ℕ, ◌+◌, List, [], ◌++◌, sym, ◌∙◌, subst, inl, inr}
use Rattle.std.specs.Prelude.{Some, slice_get}
use Rattle.rom_model.specs.History.{IsLegal}
use Rattle.rom_model.specs.Machine.{on_words}
use Rattle.rom_model.specs.State.{State}
use Rattle.rom_model.specs.Trio.{trio}
use Rattle.rom_model.specs.declared.entry.Entry.{Entry}
use Rattle.rom_frame.specs.declared.frame.Frame.{Frame}
use Rattle.rom_frame.specs.Frames.{IsOfWords, frame}
use Rattle.rom_follow.specs.Following.{HasWords, MayArrive}
use Rattle.rom_follow.proofs.Framed.{IsFramed, framed_at, framed_words}

one_some : (f h : Frame) → Some f ≡ Some h → f ≡ h
one_some f h is = cc

-- the place in the history and the entry there
abbrev pub IsEntry : ℕ → List Entry → Frame → Type 0
IsEntry place history f = (at : ℕ) × (e : Entry) × (slice_get history at ≡ Some e) × IsFramed (place + at) e f

pub arrives_as : (order : ℕ) (s : State) (place : ℕ) (history : List Entry) (message : List ℕ) (f : Frame) → IsLegal (on_words trio) order s place history → HasWords place history → message ≡ frame f → IsOfWords f
    → ((h : Frame) → IsOfWords h → message ≡ frame h → Some f ≡ Some h) → ((h : Frame) (rest : List ℕ) → IsOfWords h → message ++ rest ≡ frame h → rest ≡ []) → MayArrive place history message → IsEntry place history f
arrives_as order s place history message f legal has is small whole torn (inl m) =
    let framed = framed_at order s place m.at history m.entry legal has m.stands in
    let same : f ≡ framed.0 = one_some f framed.0 (whole framed.0 framed.1.of_words (m.is ∙ framed_words (place + m.at) m.entry framed.0 framed.1)) in
    (m.at, m.entry, m.stands, subst (IsFramed (place + m.at) m.entry) (sym same) framed.1)
arrives_as order s place history message f legal has is small whole torn (inr (inl t)) =
    let m = t.whole in
    let framed = framed_at order s place m.at history m.entry legal has m.stands in
    absurd (t.some (torn framed.0 t.missing framed.1.of_words (m.is ∙ framed_words (place + m.at) m.entry framed.0 framed.1)))
arrives_as order s place history message f legal has is small whole torn (inr (inr none)) = absurd (none f small is)
