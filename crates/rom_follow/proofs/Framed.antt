-- The entries of a legal history have the words of calls and replies, so their frames are those of updates.
use Rattle.std.proofs.Common.{◌≡◌, ℕ, zero, suc, ◌+◌, ◌<◌, ◌^◌, List, [], ◌∷◌, refl, sym, subst, arith}
use Rattle.std.specs.Prelude.{All, Option, Some, None, IsSomeAnd, option_map, slice_get}
use Rattle.rom_model.proofs.Tags.{call_only, has_size, reply_back}
use Rattle.rom_model.specs.Codes.{call_words, reply_words, words_call}
use Rattle.rom_model.specs.History.{IsLegal}
use Rattle.rom_model.specs.Machine.{on_words}
use Rattle.rom_model.specs.State.{State, step}
use Rattle.rom_model.specs.Trio.{trio}
use Rattle.rom_model.specs.declared.call.Call.{Call}
use Rattle.rom_model.specs.declared.entry.Entry.{Entry}
use Rattle.rom_frame.proofs.Coded.{few_read}
use Rattle.rom_frame.specs.declared.frame.Frame.{Frame}
use Rattle.rom_frame.specs.Frames.{IsOfWords, bytes_of, entry_frame, frame, frame_words}
use Rattle.rom_follow.specs.Following.{HasWords}
use Rattle.rom_follow.proofs.Histories.{legal_at}

-- this frame is that of the entry at a place
pub record IsFramed (place : ℕ) (e : Entry) (f : Frame) : Type 0 where
  pub place_is : f.place ≡ place
  pub args_are : call_words f.call ≡ e.args
  pub reply_is : reply_words f.reply ≡ e.reply
  pub of_words : IsOfWords f

pub framed_words : (place : ℕ) (e : Entry) (f : Frame) → IsFramed place e f → entry_frame place e ≡ frame f
framed_words place e f is = λ i. bytes_of (frame_words (sym is.place_is i) (sym is.args_are i) (sym is.reply_is i))

by_call : (order : ℕ) (s : State) (k place : ℕ) (e : Entry) (o : Option Call) → words_call e.args ≡ o → All (λ w. w < 2 ^ 64) (frame_words place e.args e.reply)
    → IsSomeAnd {T = State × List ℕ} (option_map (λ call. let done = step order s k call in (done.0, reply_words done.1)) o) (λ done. e.reply ≡ done.1) → (f : Frame) × IsFramed place e f
by_call order s k place e (Some call) is small replied =
    let args : call_words call ≡ e.args = call_only e.args call is in
    let f : Frame = record { place = place; call = call; reply = (step order s k call).1 } in (
      f,
      record {
        place_is = refl;
        args_are = args;
        reply_is = sym replied;
        of_words = record {
          words = subst (All (λ w. w < 2 ^ 64)) (λ i. frame_words place (sym args i) (replied i)) small;
          members = has_size e.args call is;
          replies = few_read f.reply (reply_back order s k e.args call is);
        };
      },
    )
by_call order s k place e None is small replied = absurd replied

words_at : (place at : ℕ) (history : List Entry) (e : Entry) → HasWords place history → slice_get history at ≡ Some e → All (λ w. w < 2 ^ 64) (frame_words (place + at) e.args e.reply)
words_at place at [] e has stands = absurd (none at stands)
  where
    none : (i : ℕ) → slice_get [] i ≡ Some e → ⊥
    none zero is = let never : None ≡ Some e = is in cc
    none (suc i) is = let never : None ≡ Some e = is in cc
words_at place zero (x ∷ history) e has stands =
    let same : Some x ≡ Some e = stands in let one : x ≡ e = cc in
    subst (λ (n : ℕ). All (λ w. w < 2 ^ 64) (frame_words n e.args e.reply)) (let here : place ≡ place + 0 = omega arith in here) (subst (λ (y : Entry). All (λ w. w < 2 ^ 64) (frame_words place y.args y.reply)) one has.0)
words_at place (suc at) (x ∷ history) e has stands =
    subst (λ (n : ℕ). All (λ w. w < 2 ^ 64) (frame_words n e.args e.reply)) (let here : place + 1 + at ≡ place + suc at = omega arith in here) (words_at (place + 1) at history e has.1 stands)

-- each entry of a legal history has a frame
pub framed_at : (order : ℕ) (s : State) (place at : ℕ) (history : List Entry) (e : Entry) → IsLegal (on_words trio) order s place history → HasWords place history → slice_get history at ≡ Some e → (f : Frame) × IsFramed (place + at) e f
framed_at order s place at history e legal has stands =
    let there = legal_at (on_words trio) order s place at history e legal stands in
    by_call order there.0 there.1 (place + at) e (words_call e.args) refl (words_at place at history e has stands) there.2
