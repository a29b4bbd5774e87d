-- How the words of a medium with those that wait in their places go on, and what a stop may leave of
-- both, as the medium does and as words are put behind those that wait.
use Rattle.std.proofs.Common.{◌≡◌, ◌⊎◌, inl, inr, ⊎_elim, ℕ, zero, suc, ◌+◌, ◌-◌, ◌<◌, ◌≤◌, Bool, true, IsTrue, List, [], length, slice_index, None, set, refl, sym, ap, ◌∙◌, subst, arith}
use Rattle.rom_device.specs.Device.{ShownDevice, After, Stays, WritesWord, WritesMany, Runs, Does, OnlyReads, AreSettled}
use Rattle.rom_device.specs.Laid.{firsts, laid}
use Rattle.rom_device.specs.Medium.{HandsOver}
use Rattle.rom_device.specs.Run.{nth_of, word_of_run, words_of_run, with_run}
use Rattle.rom_device.specs.Cached.{may_leave, shown_over}
use Rattle.rom_device.specs.declared.run.Run.{Run}
use Rattle.rom_device.specs.Doubt.{untold}
use Rattle.std.proofs.lemmas.Bool.{cases_eq, cases_lt}
use Rattle.rom_device.proofs.Waiting.{has_place, lacks, lacks_place, waits_not}
use Rattle.rom_device.proofs.Many.{many_none, many_joins}
use Rattle.rom_device.proofs.Laid.{laid_none, laid_next, laid_again, laid-same, firsts-same, firsts_none, many_empty, many_longer, many_split}

-- a run with no words
firsts_empty : (f : ℕ → ℕ) (n : ℕ) → n ≡ 0 → firsts f n ≡ []
firsts_empty f n none = ap (λ (m : ℕ). firsts f m) none ∙ firsts_none f

pub laid_empty : (at : ℕ) (f : ℕ → ℕ) (n : ℕ) (x : List ℕ) → n ≡ 0 → laid at f n x ≡ x
laid_empty at f n x none = ap (λ (m : ℕ). laid at f m x) none ∙ laid_none at f x

many_of_none : (at : ℕ) (f : ℕ → ℕ) (n : ℕ) (x y : List ℕ) → n ≡ 0 → WritesMany at (firsts f n) x y → y ≡ x
many_of_none at f n x y none many = many_empty at x y (subst (λ (vs : List ℕ). WritesMany at vs x y) (firsts_empty f n none) many)

module _ {M : Type 0} (shown : ShownDevice M) where
  -- what a stop may leave of a medium it may leave with words that wait
  pub left_plain : (run : Run) (m : M) (i : List ℕ) → shown.leaves m i → may_leave shown run m i
  left_plain run m i left = record { from = i; was = left; by = many_none run.first (words_of_run run) i }

  pub left_empty : (run : Run) (m : M) (i : List ℕ) → run.count ≡ 0 → may_leave shown run m i → shown.leaves m i
  left_empty run m i none left = subst (λ (l : List ℕ). shown.leaves m l) (sym (many_of_none run.first (nth_of run) run.count left.from i none left.by)) left.was

  left_by : (run : Run) (m m' : M) → ((i : List ℕ) → shown.leaves m i → shown.leaves m' i) → (i : List ℕ) → may_leave shown run m i → may_leave shown run m' i
  left_by run m m' by i left = record { from = left.from; was = by left.from left.was; by = left.by }

  was_before : (m m' : M) → Runs shown Stays m m' → (i : List ℕ) → shown.leaves m' i → shown.leaves m i
  was_before m m' runs i left = let here = runs.now i left in subst (λ (l : List ℕ). shown.leaves m l) (sym here.by) here.was

  -- with other words of the same that wait
  left_joins : (run : Run) (m m' : M) → Runs shown (WritesMany run.first (words_of_run run)) m m' → (i : List ℕ) → may_leave shown run m' i → may_leave shown run m i
  left_joins run m m' runs i left =
      let here = runs.now left.from left.was in
      record { from = here.from; was = here.was; by = many_joins run.first (words_of_run run) here.from left.from i here.by left.by }

  still : (run : Run) (m : M) (i : List ℕ) → may_leave shown run m i → After Stays (may_leave shown run m) i
  still run m i left = record { from = i; was = left; by = refl }

  stays_left : (run : Run) (m : M) (i : List ℕ) → After Stays (shown.leaves m) i → may_leave shown run m i
  stays_left run m i here = left_plain run m i (subst (λ (l : List ℕ). shown.leaves m l) (sym here.by) here.was)

  module _ {D : Type 0} (size : D → ℕ) (medium : D → M) (waiting : D → Run) where
    abbrev over : ShownDevice D
    over = shown_over shown size medium waiting

    waits_by : (a b : D) → waiting b ≡ waiting a → (m : M) (i : List ℕ) → may_leave shown (waiting b) m i → may_leave shown (waiting a) m i
    waits_by a b same m i left = subst (λ (run : Run). may_leave shown run m i) same left

    waits_back : (a b : D) → waiting b ≡ waiting a → (m : M) (i : List ℕ) → may_leave shown (waiting a) m i → may_leave shown (waiting b) m i
    waits_back a b same m i left = subst (λ (run : Run). may_leave shown run m i) (sym same) left

    -- the medium is read
    pub over_reads : (a b : D) → size b ≡ size a → waiting b ≡ waiting a → OnlyReads shown (medium a) (medium b) → OnlyReads over a b
    over_reads a b long same only =
        let now = λ (told : IsTrue shown.tells_images) (i : List ℕ) (left : may_leave shown (waiting b) (medium b) i).
        left_by (waiting a) (medium b) (medium a) (was_before (medium a) (medium b) (only.images told)) i (waits_by a b same (medium b) i left) in
        let kept = λ (told : IsTrue shown.tells_images) (i : List ℕ) (left : may_leave shown (waiting a) (medium a) i).
        waits_back a b same (medium b) i (left_by (waiting a) (medium a) (medium b) (only.still told) i left) in
        record {
          size = long;
          words = λ told. ap (λ (run : Run). with_run run (shown.words (medium b))) same ∙ ap (λ (x : List ℕ). with_run (waiting a) x) (only.words told);
          images = λ told. record {
            later = (only.images told).later;
            now = λ i left. still (waiting a) (medium a) i (now told i left);
            nothing_else = λ t i since. ⊎_elim (λ left. inr (still (waiting a) (medium a) i (now told i left)))
                (λ past. ⊎_elim (λ before. inl (inr before)) (λ here. inr (still (waiting a) (medium a) i (stays_left (waiting a) (medium a) i here))) ((only.images told).nothing_else t i past)) since;
            keeps = λ t i le since. ⊎_elim (λ left. inl (kept told i left)) (λ past. inr ((only.images told).keeps t i le past)) since;
          };
          doubts = λ never. untold never;
          fewer = λ at is. (only.fewer at is.0, ap (λ (run : Run). word_of_run run at) (sym same) ∙ is.1);
          still = λ told i left. kept told i left;
          writes = refl;
          syncs = refl;
        }

    -- what waits is handed over, and waits on
    pub over_hands : (a b : D) (done : Bool) → size b ≡ size a → waiting b ≡ waiting a → (IsTrue shown.tells_words → (waiting a).first + (waiting a).count ≤ length (shown.words (medium a)))
        → HandsOver shown (waiting a).first (nth_of (waiting a)) (waiting a).count (medium a) (medium b) done → OnlyReads over a b
    over_hands a b done long same fits hands =
        let now = λ (told : IsTrue shown.tells_images) (i : List ℕ) (left : may_leave shown (waiting b) (medium b) i).
        left_joins (waiting a) (medium a) (medium b) (hands.does.images told) i (waits_by a b same (medium b) i left) in
        let kept = λ (told : IsTrue shown.tells_images) (i : List ℕ) (left : may_leave shown (waiting a) (medium a) i).
        waits_back a b same (medium b) i (left_by (waiting a) (medium a) (medium b) (hands.keeps told) i left) in
        record {
          size = long;
          words = λ told. ap (λ (run : Run). with_run run (shown.words (medium b))) same
              ∙ laid_again (waiting a).first (nth_of (waiting a)) (waiting a).count (shown.words (medium a)) (shown.words (medium b)) (fits told) (hands.does.words told);
          images = λ told. record {
            later = (hands.does.images told).later;
            now = λ i left. still (waiting a) (medium a) i (now told i left);
            nothing_else = λ t i since. ⊎_elim (λ left. inr (still (waiting a) (medium a) i (now told i left)))
                (λ past. ⊎_elim (λ before. inl (inr before)) (λ here. inr (still (waiting a) (medium a) i here)) ((hands.does.images told).nothing_else t i past)) since;
            keeps = λ t i le since. ⊎_elim (λ left. inl (kept told i left)) (λ past. inr ((hands.does.images told).keeps t i le past)) since;
          };
          doubts = λ never. untold never;
          fewer = λ at is. (hands.does.fewer at is.0, ap (λ (run : Run). word_of_run run at) (sym same) ∙ is.1);
          still = λ told i left. kept told i left;
          writes = refl;
          syncs = refl;
        }

    -- what waits is handed over, and waits no longer
    pub over_handed : (a b : D) → size b ≡ size a → (waiting b).count ≡ 0
        → HandsOver shown (waiting a).first (nth_of (waiting a)) (waiting a).count (medium a) (medium b) true → OnlyReads over a b
    over_handed a b long none hands =
        let now = λ (told : IsTrue shown.tells_images) (i : List ℕ) (left : may_leave shown (waiting b) (medium b) i).
        (hands.does.images told).now i (left_empty (waiting b) (medium b) i none left) in
        let kept = λ (told : IsTrue shown.tells_images) (i : List ℕ) (left : may_leave shown (waiting a) (medium a) i).
        left_plain (waiting b) (medium b) i (hands.each told i left) in
        record {
          size = long;
          words = λ told. laid_empty (waiting b).first (nth_of (waiting b)) (waiting b).count (shown.words (medium b)) none ∙ hands.written told;
          images = λ told. record {
            later = (hands.does.images told).later;
            now = λ i left. still (waiting a) (medium a) i (now told i left);
            nothing_else = λ t i since. ⊎_elim (λ left. inr (still (waiting a) (medium a) i (now told i left)))
                (λ past. ⊎_elim (λ before. inl (inr before)) (λ here. inr (still (waiting a) (medium a) i here)) ((hands.does.images told).nothing_else t i past)) since;
            keeps = λ t i le since. ⊎_elim (λ left. inl (kept told i left)) (λ past. inr ((hands.does.images told).keeps t i le past)) since;
          };
          doubts = λ never. untold never;
          fewer = λ at is. (
            hands.does.fewer at is.0,
            waits_not (waiting a) at (word_of_run (waiting a) at) refl (λ w there.
                let place = has_place (waiting a) at w there in
                hands.renewed (at - (waiting a).first) place.1 (subst (λ (k : ℕ). shown.doubted (medium b) k) (omega (arith, place.0)) is.0)),
          );
          still = λ told i left. kept told i left;
          writes = refl;
          syncs = refl;
        }

    -- the medium is synced, and no word waits
    pub over_syncs : (a b : D) → size b ≡ size a → waiting b ≡ waiting a → (waiting a).count ≡ 0
        → ((t : ℕ) (i : List ℕ) → IsTrue shown.tells_images → t ≤ shown.clock (medium a) → shown.leaves (medium a) i → shown.left_since (medium a) t i)
        → Does shown Stays (medium a) (medium b) → Does over Stays a b
    over_syncs a b long same none counts does =
        let now = λ (told : IsTrue shown.tells_images) (i : List ℕ) (left : may_leave shown (waiting b) (medium b) i).
        left_by (waiting a) (medium b) (medium a) (was_before (medium a) (medium b) (does.images told)) i (waits_by a b same (medium b) i left) in
        record {
          size = long;
          words = λ told. ap (λ (run : Run). with_run run (shown.words (medium b))) same ∙ ap (λ (x : List ℕ). with_run (waiting a) x) (does.words told);
          images = λ told. record {
            later = (does.images told).later;
            now = λ i left. still (waiting a) (medium a) i (now told i left);
            nothing_else = λ t i since. ⊎_elim (λ left. inr (still (waiting a) (medium a) i (now told i left)))
                (λ past. ⊎_elim (λ before. inl (inr before)) (λ here. inr (still (waiting a) (medium a) i (stays_left (waiting a) (medium a) i here))) ((does.images told).nothing_else t i past)) since;
            keeps = λ t i le since. ⊎_elim (λ left. inr ((does.images told).keeps t i le (counts t i told le (left_empty (waiting a) (medium a) i none left)))) (λ past. inr ((does.images told).keeps t i le past)) since;
          };
          doubts = λ never. untold never;
          fewer = λ at is. (does.fewer at is.0, ap (λ (run : Run). word_of_run run at) (sym same) ∙ is.1);
        }

    pub over_settled : (d : D) → (waiting d).count ≡ 0 → AreSettled shown (medium d) → AreSettled over d
    over_settled d none settled i left b = ⊎_elim
        (λ reads. inl (reads ∙ ap (λ (x : List ℕ). slice_index x b) (sym (laid_empty (waiting d).first (nth_of (waiting d)) (waiting d).count (shown.words (medium d)) none))))
        (λ is. inr (is, lacks (waiting d) b (elim (cases_lt b (waiting d).first) [ inl before ↦ inl before | inr behind ↦ inr (omega (arith, behind, none)) ])))
        (settled i (left_empty (waiting d) (medium d) i none left) b)

    -- a word is put behind those that wait
    pub record Puts (at value : ℕ) (a b : D) : Type 0 where
      pub on_medium : medium b ≡ medium a
      pub as_long : size b ≡ size a
      pub count : (waiting b).count ≡ (waiting a).count + 1
      pub place : (waiting b).first + (waiting a).count ≡ at
      pub first : 0 < (waiting a).count → (waiting b).first ≡ (waiting a).first
      pub last : nth_of (waiting b) (waiting a).count ≡ value
      pub others : (k : ℕ) → k < (waiting a).count → nth_of (waiting a) k ≡ nth_of (waiting b) k

    module _ (at value : ℕ) (a b : D) (puts : Puts at value a b) where
      -- the words that waited, by what waits now
      values_as : firsts (nth_of (waiting a)) (waiting a).count ≡ firsts (nth_of (waiting b)) (waiting a).count
      values_as = firsts-same (nth_of (waiting a)) (nth_of (waiting b)) (waiting a).count puts.others

      first_by : (P : ℕ → List ℕ → Type 0) (n : ℕ) → (waiting a).count ≡ n → (n ≡ 0 → P (waiting a).first [] → P (waiting b).first []) → P (waiting a).first (firsts (nth_of (waiting b)) n) → P (waiting b).first (firsts (nth_of (waiting b)) n)
      first_by P zero is none holds = subst (λ (vs : List ℕ). P (waiting b).first vs) (sym (firsts_none (nth_of (waiting b)))) (none refl (subst (λ (vs : List ℕ). P (waiting a).first vs) (firsts_none (nth_of (waiting b))) holds))
      first_by P (suc n) is none holds = subst (λ (at' : ℕ). P at' (firsts (nth_of (waiting b)) (suc n))) (sym (puts.first (omega (arith, is)))) holds

      first_back : (P : ℕ → List ℕ → Type 0) (n : ℕ) → (waiting a).count ≡ n → (n ≡ 0 → P (waiting b).first [] → P (waiting a).first []) → P (waiting b).first (firsts (nth_of (waiting b)) n) → P (waiting a).first (firsts (nth_of (waiting b)) n)
      first_back P zero is none holds = subst (λ (vs : List ℕ). P (waiting a).first vs) (sym (firsts_none (nth_of (waiting b)))) (none refl (subst (λ (vs : List ℕ). P (waiting b).first vs) (firsts_none (nth_of (waiting b))) holds))
      first_back P (suc n) is none holds = subst (λ (at' : ℕ). P at' (firsts (nth_of (waiting b)) (suc n))) (puts.first (omega (arith, is))) holds

      none_moves : (from to : ℕ) (x y : List ℕ) → WritesMany from [] x y → WritesMany to [] x y
      none_moves from to x y many = subst (λ (l : List ℕ). WritesMany to [] x l) (sym (many_empty from x y many)) (many_none to [] x)

      many_as : (x y : List ℕ) → WritesMany (waiting a).first (words_of_run (waiting a)) x y → WritesMany (waiting b).first (firsts (nth_of (waiting b)) (waiting a).count) x y
      many_as x y many = first_by (λ at' vs. WritesMany at' vs x y) (waiting a).count refl (λ none. none_moves (waiting a).first (waiting b).first x y) (subst (λ (vs : List ℕ). WritesMany (waiting a).first vs x y) values_as many)

      many_back : (x y : List ℕ) → WritesMany (waiting b).first (firsts (nth_of (waiting b)) (waiting a).count) x y → WritesMany (waiting a).first (words_of_run (waiting a)) x y
      many_back x y many = subst (λ (vs : List ℕ). WritesMany (waiting a).first vs x y) (sym values_as) (first_back (λ at' vs. WritesMany at' vs x y) (waiting a).count refl (λ none. none_moves (waiting b).first (waiting a).first x y) many)

      laid_as : (n : ℕ) (x : List ℕ) → (waiting a).count ≡ n → laid (waiting b).first (nth_of (waiting b)) n x ≡ laid (waiting a).first (nth_of (waiting b)) n x
      laid_as zero x is = laid_none (waiting b).first (nth_of (waiting b)) x ∙ sym (laid_none (waiting a).first (nth_of (waiting b)) x)
      laid_as (suc n) x is = ap (λ (at' : ℕ). laid at' (nth_of (waiting b)) (suc n) x) (puts.first (omega (arith, is)))

      pub words_put : with_run (waiting b) (shown.words (medium b)) ≡ set (with_run (waiting a) (shown.words (medium a))) at value
      words_put =
          let x : List ℕ = shown.words (medium a) in
          let n : ℕ = (waiting a).count in
          let before : laid (waiting b).first (nth_of (waiting b)) n x ≡ with_run (waiting a) x = laid_as n x refl ∙ sym (laid-same (waiting a).first (nth_of (waiting a)) (nth_of (waiting b)) n x puts.others) in
          let now : with_run (waiting b) (shown.words (medium b)) ≡ laid (waiting b).first (nth_of (waiting b)) (n + 1) x =
          ap (λ (m : M). with_run (waiting b) (shown.words m)) puts.on_medium ∙ ap (λ (c : ℕ). laid (waiting b).first (nth_of (waiting b)) c x) puts.count in
          now ∙ laid_next (waiting b).first (nth_of (waiting b)) n x
          ∙ ap (λ (y : List ℕ). set y ((waiting b).first + n) (nth_of (waiting b) n)) before
          ∙ ap (λ (k : ℕ). set (with_run (waiting a) x) k (nth_of (waiting b) n)) puts.place
          ∙ ap (λ (v : ℕ). set (with_run (waiting a) x) at v) puts.last

      module _ (inside : (i : List ℕ) → IsTrue shown.tells_images → shown.leaves (medium a) i → at < length i) where
        written : (x z : List ℕ) → at < length x → WritesMany (waiting b).first (words_of_run (waiting b)) x z → After (WritesWord at value) (λ y. WritesMany (waiting a).first (words_of_run (waiting a)) x y) z
        written x z fits many =
            let n : ℕ = (waiting a).count in
            let more : WritesMany (waiting b).first (firsts (nth_of (waiting b)) (n + 1)) x z = subst (λ (c : ℕ). WritesMany (waiting b).first (firsts (nth_of (waiting b)) c) x z) puts.count many in
            let split = many_split (waiting b).first (nth_of (waiting b)) n x z (omega (arith, fits, puts.place)) more in
            record {
              from = split.mid;
              was = many_back x split.mid split.many;
              by = subst (λ (v : ℕ). WritesWord at v split.mid z) puts.last (subst (λ (k : ℕ). WritesWord k (nth_of (waiting b) n) split.mid z) puts.place split.last);
            }

        now_left : IsTrue shown.tells_images → (i : List ℕ) → may_leave shown (waiting b) (medium b) i → After (WritesWord at value) (may_leave shown (waiting a) (medium a)) i
        now_left told i left =
            let was : shown.leaves (medium a) left.from = subst (λ (m : M). shown.leaves m left.from) puts.on_medium left.was in
            let here = written left.from i (inside left.from told was) left.by in
            record { from = here.from; was = record { from = left.from; was = was; by = here.was }; by = here.by }

        still_left : (i : List ℕ) → may_leave shown (waiting a) (medium a) i → may_leave shown (waiting b) (medium b) i
        still_left i left = record {
          from = left.from;
          was = subst (λ (m : M). shown.leaves m left.from) (sym puts.on_medium) left.was;
          by = subst (λ (c : ℕ). WritesMany (waiting b).first (firsts (nth_of (waiting b)) c) left.from i) (sym puts.count)
              (many_longer (waiting b).first (nth_of (waiting b)) (waiting a).count left.from i (many_as left.from i left.by));
        }

        pub over_puts : Does over (WritesWord at value) a b
        over_puts = record {
          size = puts.as_long;
          words = λ told. inr words_put;
          images = λ told. record {
            later = omega (arith, ap (λ (m : M). shown.clock m) puts.on_medium);
            now = now_left told;
            nothing_else = λ t i since. ⊎_elim (λ left. inr (now_left told i left)) (λ past. inl (inr (subst (λ (m : M). shown.left_since m t i) puts.on_medium past))) since;
            keeps = λ t i le since. ⊎_elim (λ left. inl (still_left i left)) (λ past. inr (subst (λ (m : M). shown.left_since m t i) (sym puts.on_medium) past)) since;
          };
          doubts = λ never. untold never;
          fewer = λ b' is. (subst (λ (m : M). shown.doubted m b') puts.on_medium is.0, lacked b' (lacks_place (waiting b) b' is.1));
        }
          where
            lacked : (k : ℕ) → (k < (waiting b).first) ⊎ ((waiting b).first + (waiting b).count ≤ k) → word_of_run (waiting a) k ≡ None
            lacked k out = elim (cases_eq (waiting a).count 0) [
              | inl none ↦ lacks (waiting a) k (elim (cases_lt k (waiting a).first) [ inl before ↦ inl before | inr behind ↦ inr (omega (arith, behind, none)) ])
              | inr some ↦ lacks (waiting a) k (elim out [
                | inl before ↦ inl (omega (arith, before, puts.first (omega (arith, some))))
                | inr behind ↦ inr (omega (arith, behind, puts.first (omega (arith, some)), puts.count))
              ])
            ]
