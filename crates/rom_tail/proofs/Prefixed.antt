-- A session whose entries are the calls of a history's next frames has a prefix of that history.
use Rattle.std.proofs.Common.{◌≡◌, ℕ, zero, suc, ◌+◌, ◌-◌, ◌≤◌, List, [], ◌∷◌, length, map, take, drop, sym, ap, ◌∙◌, subst, arith}
use Rattle.std.specs.Prelude.{Option, Some, None, slice_get}
use Rattle.std.specs.List.{AllByRecursion}
use Rattle.std.proofs.lemmas.List.{drop-drop, length-drop, length-map, length-take, take-map, take-take}
use Rattle.rom_model.specs.History.{IsLegal, after, batch}
use Rattle.rom_model.specs.Machine.{on_words}
use Rattle.rom_model.specs.Region.{Contents}
use Rattle.rom_model.specs.State.{State}
use Rattle.rom_model.specs.Story.{Story, doubted_batch, state_at}
use Rattle.rom_model.specs.Trio.{trio}
use Rattle.rom_model.specs.declared.entry.Entry.{Entry}
use Rattle.rom_model.specs.declared.record.PassRecord.{PassRecord}
use Rattle.rom_model.proofs.Recorded.{batch_legal}
use Rattle.rom_header.specs.Held.{Holds}
use Rattle.rom_combine.specs.Session.{HoldsAfter}
use Rattle.rom_combine.proofs.Weights.{first_found}
use Rattle.rom_store.specs.Lone.{args_in, args_of}
use Rattle.rom_frame.specs.declared.frame.Frame.{Frame}
use Rattle.rom_follow.specs.Following.{AreFirstOf, HoldsPrefix, state_after_first, update_of}
use Rattle.rom_follow.proofs.Alike.{after_by_calls}
use Rattle.rom_follow.proofs.Histories.{after_more, from_element, legal_drop, legal_take}
use Rattle.rom_follow.proofs.Tried.{same_replies}
use Rattle.rom_replica.specs.Turns.{applied}
use Rattle.rom_tail.specs.Batches.{call_in, many_next, reply_in}
use Rattle.rom_tail.specs.Prefixes.{BeginsIn, IsFrameIn}
use Rattle.rom_tail.proofs.NextFrames.{AreNext, next_frames}

-- those that agree with first ones of a list's first ones are no more than these, nor than the list
few_first : {X Y Z : Type 0} (g : X → Z) (h : Y → Z) (xs : List X) (ys : List Y) (n m : ℕ) → map g xs ≡ map h (take n (take m ys)) → (length xs ≤ m) × (length xs ≤ length ys)
few_first g h xs ys n m same =
    let long : length xs ≤ length (take m ys) = omega (arith, ap length same, length-map xs g, length-map (take n (take m ys)) h, length-take n (take m ys)) in
    (omega (arith, long, length-take m ys), omega (arith, long, length-take m ys))

-- fewer of the first ones
same_fewer : {X Z : Type 0} (g : X → Z) (d n : ℕ) (xs es : List X) → d ≤ n → map g xs ≡ map g (take n es) → map g (take d xs) ≡ map g (take d es)
same_fewer g d n xs es within same = sym (take-map g d xs) ∙ ap (take d) same ∙ take-map g d (take n es) ∙ ap (map g) (take-take d n es within)

-- the update at an index is that of the other list's entry there
same_there : (xs es : List Entry) (m : ℕ) (x y : Entry) (rest : List Entry) → AreFirstOf es xs → slice_get xs m ≡ Some x → drop m es ≡ y ∷ rest → update_of x ≡ update_of y
same_there [] es m x y rest same stands there = absurd (none m stands)
  where
    none : (m : ℕ) → slice_get [] m ≡ Some x → ⊥
    none zero is = let never : None ≡ Some x = is in cc
    none (suc m) is = let never : None ≡ Some x = is in cc
same_there (a ∷ xs) [] m x y rest same stands there = cc
same_there (a ∷ xs) (b ∷ es) zero x y rest same stands there =
    let one : a ≡ x = let some : Some a ≡ Some x = stands in cc in
    let other : b ≡ y = cc in
    let heads : update_of a ≡ update_of b = cc in
    sym (ap update_of one) ∙ heads ∙ ap update_of other
same_there (a ∷ xs) (b ∷ es) (suc m) x y rest same stands there = same_there xs es m x y rest (let tails : map update_of xs ≡ map update_of (take (length xs) es) = cc in tails) stands there

module _ (story : Story State) (legal : IsLegal (on_words trio) story.order story.opening story.opening_count story.history) (s0 : State) (n0 : ℕ) (history : List Entry) (first : ℕ) (begins : BeginsIn story s0 n0 history first)
    (frames : List Frame) (known : AllByRecursion (IsFrameIn n0 history) frames) (calls : map args_in story.history ≡ take (length story.history) (map call_in (applied story.opening_count frames))) where
  abbrev long : ℕ
  long = length story.history

  abbrev behind : List Entry
  behind = drop first history

  next : AreNext (applied story.opening_count frames) behind
  next = subst (λ (k : ℕ). AreNext (applied k frames) behind) (sym begins.opening_count) (next_frames n0 history first frames known)

  calls_are : map args_in story.history ≡ map args_in (take long (take (many_next story.opening_count frames) behind))
  calls_are = calls ∙ ap (take long) next ∙ take-map args_in long (take (many_next story.opening_count frames) behind)

  many : (long ≤ many_next story.opening_count frames) × (long ≤ length behind)
  many = few_first args_in args_in story.history behind long (many_next story.opening_count frames) calls_are

  pub reaches : first + long ≤ length history
  reaches = omega (arith, many.1, length-drop first history, begins.within)

  legal_behind : IsLegal (on_words trio) story.order story.opening story.opening_count behind
  legal_behind =
      subst (λ (s : State). IsLegal (on_words trio) story.order s story.opening_count behind) (sym begins.opening)
      (subst (λ (k : ℕ). IsLegal (on_words trio) story.order (state_after_first story.order s0 n0 history first) k behind) (sym begins.opening_count) (legal_drop (on_words trio) story.order s0 n0 first history begins.within begins.legal))

  -- the session's entries are those behind the first ones, but for whose they are
  entries : AreFirstOf behind story.history
  entries = same_replies (on_words trio) story.order story.opening story.opening_count story.history (take long behind) legal (legal_take (on_words trio) story.order story.opening story.opening_count long behind legal_behind)
      (calls_are ∙ ap (map args_in) (take-take long (many_next story.opening_count frames) behind many.0))

  state_there : (d : ℕ) → d ≤ long → state_at (on_words trio) story (story.opening_count + d) ≡ state_after_first story.order s0 n0 history (first + d)
  state_there d within =
      let step = on_words trio in
      let s : State = state_after_first story.order s0 n0 history first in
      (λ i. after step story.order (begins.opening i) (begins.opening_count i) (take (story.opening_count + d - story.opening_count) story.history))
      ∙ ap (λ (n : ℕ). after step story.order s (n0 + first) (take n story.history)) (let here : story.opening_count + d - story.opening_count ≡ d = omega arith in here)
      ∙ after_by_calls step story.order s (n0 + first) (take d story.history) (take d behind) (same_fewer update_of d long story.history behind within entries)
      ∙ sym (after_more step story.order s0 n0 first d history begins.within)

  -- the state at its end
  pub ends : after (on_words trio) story.order story.opening story.opening_count story.history ≡ state_after_first story.order s0 n0 history (first + long)
  ends =
      let step = on_words trio in
      (λ i. after step story.order (begins.opening i) (begins.opening_count i) story.history)
      ∙ after_by_calls step story.order (state_after_first story.order s0 n0 history first) (n0 + first) story.history (take long behind) entries
      ∙ sym (after_more step story.order s0 n0 first long history begins.within)

  -- an entry of the session has the reply of the frame whose place it is
  pub same_reply : (m : ℕ) (e : Entry) (f : Frame) → slice_get story.history m ≡ Some e → IsFrameIn n0 history f → f.place ≡ story.opening_count + m → e.reply ≡ reply_in f
  same_reply m e f stands is place =
      let at : is.at ≡ first + m = omega (arith, is.place_is, place, begins.opening_count) in
      let there : drop m behind ≡ is.entry ∷ drop (first + m + 1) history = drop-drop m first history ∙ from_element history (first + m) is.entry (subst (λ (j : ℕ). slice_get history j ≡ Some is.entry) at is.stands) in
      let same : update_of e ≡ update_of is.entry = same_there story.history behind m e is.entry (drop (first + m + 1) history) entries stands there in
      ap (λ (p : List ℕ × List ℕ). p.1) same ∙ sym is.reply

  prefix : (d : ℕ) (s : State) (k : ℕ) (i : List ℕ) → first + d ≤ length history → s ≡ state_after_first story.order s0 n0 history (first + d) → k ≡ n0 + (first + d) → Holds Contents story.order i s k → HoldsPrefix story.order s0 n0 history first i
  prefix d s k i within same here holds = record {
    len = first + d;
    least_is = omega arith;
    within = within;
    holds = subst (λ (n : ℕ). Holds Contents story.order i (state_after_first story.order s0 n0 history (first + d)) n) here (subst (λ (x : State). Holds Contents story.order i x k) same holds);
  }

  -- an image of its history up to some entry
  pub boundary_prefix : (d : ℕ) (i : List ℕ) → d ≤ long → HoldsAfter Contents (on_words trio) story d [] i → HoldsPrefix story.order s0 n0 history first i
  boundary_prefix d i reached holds = prefix d (state_at (on_words trio) story (story.opening_count + d)) (story.opening_count + d + 0) i (omega (arith, reached, reaches)) (state_there d reached) (omega (arith, begins.opening_count)) holds

  -- and one of the whole of it with a batch, which found calls of the entries behind it
  pub doubt_prefix : (pass : PassRecord) (m : ℕ) (i : List ℕ) → pass.len ≡ long → map args_of pass.found ≡ map args_in (take m (drop (first + long) history)) → HoldsAfter Contents (on_words trio) story pass.len (doubted_batch (on_words trio) story pass) i
      → HoldsPrefix story.order s0 n0 history first i
  doubt_prefix pass m i len_is found holds =
      prefix (long + n) (after step story.order s k es) (k + n) i (omega (arith, few.1, length-drop (first + long) history, reaches)) after_it (omega arith)
      (subst (λ (x : State × ℕ). Holds Contents story.order i (after step story.order x.0 x.1 (batch step story.order x.0 x.1 pass.found)) (x.1 + length (batch step story.order x.0 x.1 pass.found))) (λ j. (at_state j, at_count j)) holds)
    where
      step : ℕ → State → ℕ → List ℕ → Option (State × List ℕ)
      step = on_words trio

      s : State
      s = state_after_first story.order s0 n0 history (first + long)

      k : ℕ
      k = n0 + (first + long)

      es : List Entry
      es = batch step story.order s k pass.found

      n : ℕ
      n = length es

      more : List Entry
      more = drop (first + long) history

      at_state : state_at step story (story.opening_count + pass.len) ≡ s
      at_state = ap (λ (d : ℕ). state_at step story (story.opening_count + d)) len_is ∙ state_there long (omega arith)

      at_count : story.opening_count + pass.len ≡ k
      at_count = omega (arith, len_is, begins.opening_count)

      args : map args_in es ≡ map args_in (take n (take m more))
      args = first_found step story.order s k pass.found ∙ ap (take n) found ∙ take-map args_in n (take m more)

      few : (n ≤ m) × (n ≤ length more)
      few = few_first args_in args_in es more n m args

      same : map update_of es ≡ map update_of (take n more)
      same = same_replies step story.order s k es (take n more) (batch_legal step story.order s k pass.found) (legal_take step story.order s k n more (legal_drop step story.order s0 n0 (first + long) history reaches begins.legal))
          (args ∙ ap (map args_in) (take-take n m more few.0))

      after_it : after step story.order s k es ≡ state_after_first story.order s0 n0 history (first + (long + n))
      after_it =
          after_by_calls step story.order s k es (take n more) same ∙ sym (after_more step story.order s0 n0 (first + long) n history reaches)
          ∙ ap (state_after_first story.order s0 n0 history) (let sums : first + long + n ≡ first + (long + n) = omega arith in sums)
