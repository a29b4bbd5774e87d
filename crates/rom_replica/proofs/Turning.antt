-- One frame more, behind others that were taken.
use Rattle.std.proofs.Common.{◌≡◌, ℕ, ◌+◌, ◌==◌, nat_lt, Bool, true, false, if◌then◌else◌, List, [], ◌∷◌, ◌++◌, length, refl, sym, ap, ◌∙◌, subst, arith, append_assoc, append-nil, length-append}
use Rattle.std.specs.Io.KnownBytes.{Consumes}
use Rattle.std.proofs.KnownBytes.{Consumes-trans}
use Rattle.std.proofs.lemmas.Bool.{eqb-true}
use Rattle.std.proofs.lemmas.Grind.{flat_map-append}
use Rattle.rom_rule.proofs.Told.{all_append}
use Rattle.rom_rule.specs.Views.{Told}
use Rattle.rom_model.specs.declared.entry.Entry.{Entry}
use Rattle.rom_text.specs.Streams.{ShownSource}
use Rattle.rom_frame.proofs.Hearing.{gave_on}
use Rattle.rom_frame.specs.Frames.{IsOfWords, frame}
use Rattle.rom_frame.specs.declared.frame.Frame.{Frame}
use Rattle.rom_follow.specs.Followed.{Followed}
use Rattle.rom_follow.specs.Taking.{doing}
use Rattle.rom_replica.specs.Tallied.{GoesOn, HasGoneOn}
use Rattle.rom_replica.specs.Turns.{applied, bytes_of_all, count_behind, early, entries_from, known, tries_from}
use Rattle.rom_replica.specs.declared.tally.Tally.{Tally}

-- the count behind a frame, with those applied behind it
counted : (b : Bool) (n : ℕ) (g : Frame) (rest : List Frame) → (if b then n + 1 else n) + length rest ≡ n + length ((if b then g ∷ [] else []) ++ rest)
counted true n g rest = omega arith
counted false n g rest = refl

-- of frames and others behind them
pub applied_behind : (n : ℕ) (fs gs : List Frame) → applied n (fs ++ gs) ≡ applied n fs ++ applied (n + length (applied n fs)) gs
applied_behind n [] gs = ap (λ (m : ℕ). applied m gs) (let z : n ≡ n + 0 = omega arith in z)
applied_behind n (f ∷ fs) gs =
    let m = count_behind n f in
    let here : List Frame = if f.place == n then f ∷ [] else [] in
    ap (λ (xs : List Frame). here ++ xs) (applied_behind m fs gs ∙ ap (λ (k : ℕ). applied m fs ++ applied k gs) (counted (f.place == n) n f (applied m fs)))
    ∙ sym (append_assoc here (applied m fs) (applied (n + length (applied n (f ∷ fs))) gs))

pub known_behind : (n : ℕ) (fs gs : List Frame) → known n (fs ++ gs) ≡ known n fs + known (n + length (applied n fs)) gs
known_behind n [] gs = let z : n ≡ n + 0 = omega arith in omega (arith, ap (λ (m : ℕ). known m gs) z)
known_behind n (f ∷ fs) gs =
    let m = count_behind n f in
    let rest : known m (fs ++ gs) ≡ known m fs + known (n + length (applied n (f ∷ fs))) gs =
    known_behind m fs gs ∙ ap (λ (k : ℕ). known m fs + known k gs) (counted (f.place == n) n f (applied m fs)) in
    omega (arith, rest)

pub early_behind : (n : ℕ) (fs gs : List Frame) → early n (fs ++ gs) ≡ early n fs + early (n + length (applied n fs)) gs
early_behind n [] gs = let z : n ≡ n + 0 = omega arith in omega (arith, ap (λ (m : ℕ). early m gs) z)
early_behind n (f ∷ fs) gs =
    let m = count_behind n f in
    let rest : early m (fs ++ gs) ≡ early m fs + early (n + length (applied n (f ∷ fs))) gs =
    early_behind m fs gs ∙ ap (λ (k : ℕ). early m fs + early k gs) (counted (f.place == n) n f (applied m fs)) in
    omega (arith, rest)

pub bytes_behind : (fs gs : List Frame) → bytes_of_all (fs ++ gs) ≡ bytes_of_all fs ++ bytes_of_all gs
bytes_behind fs gs = flat_map-append frame fs gs

pub entries_more : (seq : ℕ) (xs ys : List Frame) → entries_from seq (xs ++ ys) ≡ entries_from seq xs ++ entries_from (seq + length xs) ys
entries_more seq [] ys = ap (λ (k : ℕ). entries_from k ys) (let z : seq ≡ seq + 0 = omega arith in z)
entries_more seq (x ∷ xs) ys =
    let next : seq + 1 + length xs ≡ seq + length (x ∷ xs) = omega arith in
    ap (λ (es : List Entry). (λ (e : List Entry). e) (entries_from seq (x ∷ []) ++ es)) (entries_more (seq + 1) xs ys ∙ ap (λ (k : ℕ). entries_from (seq + 1) xs ++ entries_from k ys) next)

pub tries_more : (seq : ℕ) (xs ys : List Frame) → tries_from seq (xs ++ ys) ≡ tries_from seq xs ++ tries_from (seq + length xs) ys
tries_more seq [] ys = ap (λ (k : ℕ). tries_from k ys) (let z : seq ≡ seq + 0 = omega arith in z)
tries_more seq (x ∷ xs) ys =
    let next : seq + 1 + length xs ≡ seq + length (x ∷ xs) = omega arith in
    ap (λ (es : List Told). tries_from seq (x ∷ []) ++ es) (tries_more (seq + 1) xs ys ∙ ap (λ (k : ℕ). tries_from (seq + 1) xs ++ tries_from k ys) next)

pub length-tries : (seq : ℕ) (xs : List Frame) → length (tries_from seq xs) ≡ length xs
length-tries seq [] = refl
length-tries seq (x ∷ xs) = omega (arith, length-tries (seq + 1) xs)

-- what a follower is behind a frame's turn, whether the frame's place is the count or not
module _ (old : Followed) (f : Frame) where
  abbrev done_if : Bool → Followed
  done_if b = if b then doing old f.call f.reply else old

  abbrev these : Bool → List Frame
  these b = (if b then f ∷ [] else []) ++ []

  count_on : (b : Bool) → (done_if b).count ≡ old.count + length (these b)
  count_on true = refl
  count_on false = omega arith

  agrees_on : (b : Bool) → (done_if b).diverged ≡ old.diverged
  agrees_on true = refl
  agrees_on false = refl

  history_on : (b : Bool) → (done_if b).history ≡ old.history ++ entries_from (length old.tried) (these b)
  history_on true = refl
  history_on false = sym (append-nil old.history)

  tried_on : (b : Bool) → (b ≡ true → old.count ≡ f.place) → (done_if b).tried ≡ old.tried ++ tries_from (length old.tried) (these b)
  tried_on true here = rw (here refl) refl
  tried_on false here = sym (append-nil old.tried)

module _ {X : Type 0} (source : ShownSource X) (n0 : ℕ) (was mid now : X) (frames : List Frame) (old new : Followed) (before after : Tally) where
  -- one frame more was taken, and was no stop
  pub gone_on : HasGoneOn source frames n0 was mid old before → (goes : GoesOn source mid now old new before after) → HasGoneOn source (frames ++ goes.next ∷ []) n0 was now new after
  gone_on so goes =
      let f = goes.next in
      let many = length (applied n0 frames) in
      let b = f.place == old.count in
      let at : applied old.count (f ∷ []) ≡ applied (n0 + many) (f ∷ []) = ap (λ (k : ℕ). applied k (f ∷ [])) so.count_is in
      let more : applied n0 (frames ++ f ∷ []) ≡ applied n0 frames ++ applied old.count (f ∷ []) = applied_behind n0 frames (f ∷ []) ∙ ap (λ (xs : List Frame). applied n0 frames ++ xs) (sym at) in
      let seq : length old.tried ≡ many = ap length so.tried ∙ length-tries 0 (applied n0 frames) in
      let behind_all : length old.tried ≡ 0 + many = omega (arith, seq) in
      let long : length (applied n0 (frames ++ f ∷ [])) ≡ many + length (applied old.count (f ∷ [])) = ap length more ∙ length-append (applied n0 frames) (applied old.count (f ∷ [])) in
      record {
        of_words = all_append IsOfWords frames (f ∷ []) so.of_words (goes.of_words, tt);
        read = subst (λ (xs : List ℕ). Consumes (source.left was) (source.left now) xs) (sym (bytes_behind frames (f ∷ []) ∙ ap (λ (xs : List ℕ). bytes_of_all frames ++ xs) (append-nil (frame f)))) (Consumes-trans _ _ _ (bytes_of_all frames) (frame f) so.read goes.read);
        gave = gave_on source was mid now so.gave goes.gave;
        count_is = ap (λ (z : Followed). z.count) goes.follower ∙ count_on old f b ∙ omega (arith, so.count_is, long);
        history = ap (λ (z : Followed). z.history) goes.follower ∙ history_on old f b
            ∙ ap (λ (es : List Entry). es ++ entries_from (length old.tried) (applied old.count (f ∷ []))) so.history
            ∙ ap (λ (k : ℕ). entries_from 0 (applied n0 frames) ++ entries_from k (applied old.count (f ∷ []))) behind_all
            ∙ sym (entries_more 0 (applied n0 frames) (applied old.count (f ∷ []))) ∙ ap (entries_from 0) (sym more);
        tried = ap (λ (z : Followed). z.tried) goes.follower ∙ tried_on old f b (λ is. sym (eqb-true f.place old.count is))
            ∙ ap (λ (es : List Told). es ++ tries_from (length old.tried) (applied old.count (f ∷ []))) so.tried
            ∙ ap (λ (k : ℕ). tries_from 0 (applied n0 frames) ++ tries_from k (applied old.count (f ∷ []))) behind_all
            ∙ sym (tries_more 0 (applied n0 frames) (applied old.count (f ∷ []))) ∙ ap (tries_from 0) (sym more);
        agrees = ap (λ (z : Followed). z.diverged) goes.follower ∙ agrees_on old f b ∙ so.agrees;
        tally_is = record {
          applied_is = goes.counts.applied_is ∙ ap (λ (n : ℕ). n + length (applied old.count (f ∷ []))) so.tally_is.applied_is ∙ sym long;
          known_is = goes.counts.known_is ∙ ap (λ (n : ℕ). n + known old.count (f ∷ [])) so.tally_is.known_is ∙ ap (λ (k : ℕ). known n0 frames + known k (f ∷ [])) so.count_is ∙ sym (known_behind n0 frames (f ∷ []));
          early_is = goes.counts.early_is ∙ ap (λ (n : ℕ). n + early old.count (f ∷ [])) so.tally_is.early_is ∙ ap (λ (k : ℕ). early n0 frames + early k (f ∷ [])) so.count_is ∙ sym (early_behind n0 frames (f ∷ []));
          bytes_is = goes.counts.bytes_is ∙ ap (λ (n : ℕ). n + length (frame f)) so.tally_is.bytes_is ∙ sym (ap length (bytes_behind frames (f ∷ []) ∙ ap (λ (xs : List ℕ). bytes_of_all frames ++ xs) (append-nil (frame f))) ∙ length-append (bytes_of_all frames) (frame f));
        };
      }
