-- What the callers of lawful results were told of their updates is the history.
use Rattle.std.specs.Prelude.{◌≡◌, ℕ, ◌+◌, ◌<◌, ◌≤◌, List, [], ◌∷◌, ◌++◌, length, map}
use Rattle.std.proofs.Common.{refl, sym, ap, ◌∙◌, subst, arith}
use Rattle.std.proofs.lemmas.List.{map-append}
use Rattle.std.specs.List.{AllByRecursion, enumerate_from, flat_map}
use Rattle.std.proofs.lemmas.List.Concat.{flat_map-cons}
use Rattle.rom_model.specs.Lawful.{AreServed, IsLawful, done, done_by, posted_after}
use Rattle.rom_model.specs.Machine.{on_words}
use Rattle.rom_model.specs.Passes.{all_told}
use Rattle.rom_model.specs.Seen.{done_in}
use Rattle.rom_model.specs.State.{State}
use Rattle.rom_model.specs.Story.{Story, count}
use Rattle.rom_model.specs.Trio.{trio}
use Rattle.rom_model.specs.declared.call.Answer.{Answer}
use Rattle.rom_model.specs.declared.call.Call.{Call}
use Rattle.rom_model.specs.declared.call.Query.{Query}
use Rattle.rom_model.specs.declared.call.Reply.{Reply}
use Rattle.rom_model.specs.declared.call.Updated.{Updated}
use Rattle.rom_model.specs.declared.call.Updated.TheVariants as told
use Rattle.rom_model.specs.declared.entry.Entry.{Entry}
use Rattle.rom_model.specs.declared.line.LineResult.{LineResult}
use Rattle.rom_model.specs.declared.line.LineResult.TheVariants as outcome
use Rattle.rom_model.specs.declared.line.Step.{Step}
use Rattle.rom_model.specs.declared.line.Step.TheVariants as line
use Rattle.rom_model.specs.declared.record.Found.{Found}
use Rattle.rom_model.proofs.Placed.{history_placed}
use Rattle.rom_frame.specs.Frames.{IsOfWords, bytes_of, entry_frame, frame, frame_words, frames}
use Rattle.rom_frame.specs.declared.frame.Frame.{Frame}
use Rattle.rom_replica.specs.Merging.{all_updates, merged_frames, update_by, updates}
use Rattle.rom_replica.specs.Shipped.{AreFramed}
use Rattle.rom_replica.proofs.Turns.{AreAllOwn, in_turn, words_at, words_in}

-- the bytes of such words
abbrev bytes_at : ℕ × (List ℕ × List ℕ) → List ℕ
bytes_at w = bytes_of (frame_words w.0 w.1.0 w.1.1)

bytes_in : (fs : List Frame) → flat_map frame fs ≡ flat_map bytes_at (map words_in fs)
bytes_in [] = refl
bytes_in (f ∷ fs) = flat_map-cons frame f fs ∙ ap (λ bs. frame f ++ bs) (bytes_in fs) ∙ sym (flat_map-cons bytes_at (words_in f) (map words_in fs))

bytes_along : (k : ℕ) (es : List Entry) → frames k es ≡ flat_map bytes_at (map words_at (enumerate_from k es))
bytes_along k [] = refl
bytes_along k (e ∷ es) = ap (λ bs. entry_frame k e ++ bs) (bytes_along (k + 1) es) ∙ sym (flat_map-cons bytes_at (words_at (k, e)) (map words_at (enumerate_from (k + 1) es)))

-- what was told to callers of these numbers are entries of theirs
done_within : (n : ℕ) (xs : List (Found × Updated (List ℕ))) → AllByRecursion (λ x. (0 < x.0.caller) × (x.0.caller ≤ n)) xs → AllByRecursion (λ x. (1 ≤ x.1.caller) × (x.1.caller < 1 + n)) (done_in xs)
done_within n [] all = tt
done_within n ((f, told.Done reply place) ∷ xs) all = let low = all.0.0 in let high = all.0.1 in ((omega (arith, low), omega (arith, high)), done_within n xs all.1)
done_within n ((f, told.Spent) ∷ xs) all = done_within n xs all.1
done_within n ((f, told.Failed) ∷ xs) all = done_within n xs all.1
done_within n ((f, told.Doubt) ∷ xs) all = done_within n xs all.1

-- a line's update is its entry
one_done : (c seq : ℕ) (l : Step Call Query) (r : LineResult Reply Answer) → map words_in (update_by l r) ≡ map words_at (done_by trio c seq l r)
one_done c seq (line.Update call) (outcome.Update (told.Done reply place)) = refl
one_done c seq (line.Update call) (outcome.Update told.Spent) = refl
one_done c seq (line.Update call) (outcome.Update told.Failed) = refl
one_done c seq (line.Update call) (outcome.Update told.Doubt) = refl
one_done c seq (line.Update call) outcome.Unread = refl
one_done c seq (line.Update call) (outcome.Read answer front) = refl
one_done c seq (line.Ask query) r = refl
one_done c seq line.Unread r = refl

all_done : (c seq : ℕ) (ls : List (Step Call Query)) (rs : List (LineResult Reply Answer)) → map words_in (updates ls rs) ≡ map words_at (done trio c seq ls rs)
all_done c seq [] rs = refl
all_done c seq (l ∷ ls) [] = refl
all_done c seq (l ∷ ls) (r ∷ rs) =
    map-append words_in (update_by l r) (updates ls rs)
    ∙ (λ i. one_done c seq l r i ++ all_done c (posted_after trio seq l) ls rs i)
    ∙ sym (map-append words_at (done_by trio c seq l r) (done trio c (posted_after trio seq l) ls rs))

-- updates with frames of words, and the entries that have their words
framed : (k : ℕ) (es : List Entry) (fs : List Frame) → map words_in fs ≡ map words_at (enumerate_from k es) → AllByRecursion IsOfWords fs → AreFramed k es
framed k [] fs same all = tt
framed k (e ∷ es) [] same all = absurd (let no : ⊥ = cc in no)
framed k (e ∷ es) (f ∷ fs) same all =
    let first : words_in f ≡ words_at (k, e) = cc in
    let rest : map words_in fs ≡ map words_at (enumerate_from (k + 1) es) = cc in
    (record { frame = f; place_is = ap (λ w. w.0) first; args = ap (λ w. w.1.0) first; reply = ap (λ w. w.1.1) first; of_words = all.0 }, framed (k + 1) es fs rest all.1)

module _ (story : Story State) where
  -- each caller's updates are its entries
  each_own : (c : ℕ) (scripts : List (List (Step Call Query))) (results : List (List (LineResult Reply Answer))) → AreServed trio story c scripts results →
      AreAllOwn c (enumerate_from story.opening_count story.history) (all_updates scripts results)
  each_own c [] [] served = tt
  each_own c [] (rs ∷ results) served = absurd served
  each_own c (ls ∷ scripts) [] served = absurd served
  each_own c (ls ∷ scripts) (rs ∷ results) served = (all_done c 0 ls rs ∙ ap (map words_at) (sym served.0.once), each_own (c + 1) scripts results served.1)

  each_one : (c : ℕ) (scripts : List (List (Step Call Query))) (results : List (List (LineResult Reply Answer))) → AreServed trio story c scripts results → length (all_updates scripts results) ≡ length scripts
  each_one c [] [] served = refl
  each_one c [] (rs ∷ results) served = absurd served
  each_one c (ls ∷ scripts) [] served = absurd served
  each_one c (ls ∷ scripts) (rs ∷ results) served = let more = each_one (c + 1) scripts results served.1 in omega (arith, more)

  module _ (scripts : List (List (Step Call Query))) (results : List (List (LineResult Reply Answer))) (lawful : IsLawful trio story scripts results) where
    -- taken in turn they are the history's entries
    history_in_turn : map words_in (merged_frames (count story) (all_updates scripts results)) ≡ map words_at (enumerate_from story.opening_count story.history)
    history_in_turn =
        let queues : List (List Frame) = all_updates scripts results in
        let placed : enumerate_from story.opening_count story.history ≡ done_in (all_told (on_words trio) story.order story.opening story.opening_count story.records)
        = ap (λ (h : List Entry). enumerate_from story.opening_count h) lawful.recorded.made ∙ history_placed (on_words trio) story.order story.opening story.opening_count story.records in
        let theirs = subst (λ (xs : List (ℕ × Entry)). AllByRecursion (λ x. (1 ≤ x.1.caller) × (x.1.caller < 1 + length scripts)) xs) (sym placed)
        (done_within (length scripts) (all_told (on_words trio) story.order story.opening story.opening_count story.records) lawful.known) in
        in_turn (count story) story.opening_count story.history queues (omega arith)
        (subst (λ (n : ℕ). AllByRecursion (λ x. (1 ≤ x.1.caller) × (x.1.caller < 1 + n)) (enumerate_from story.opening_count story.history)) (sym (each_one 1 scripts results lawful.served)) theirs)
        (each_own 1 scripts results lawful.served)

    -- and their frames are those of the history
    pub frames_in_turn : flat_map frame (merged_frames (count story) (all_updates scripts results)) ≡ frames story.opening_count story.history
    frames_in_turn = bytes_in (merged_frames (count story) (all_updates scripts results)) ∙ ap (flat_map bytes_at) history_in_turn ∙ sym (bytes_along story.opening_count story.history)

    -- where each update that is taken has a frame of words, so has each entry
    pub framed_in_turn : AllByRecursion IsOfWords (merged_frames (count story) (all_updates scripts results)) → AreFramed story.opening_count story.history
    framed_in_turn all = framed story.opening_count story.history (merged_frames (count story) (all_updates scripts results)) history_in_turn all
