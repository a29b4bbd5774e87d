-- Readings one after another.
use Rattle.std.proofs.Common.{◌≡◌, ◌≢◌, ◌⊎◌, ⊎_elim, inl, inr, ℕ, ◌+◌, ◌-◌, ◌<◌, ◌≤◌, List, length, get_or, refl, sym, ◌∙◌, ap, subst, arith}
use Rattle.std.proofs.Common.{drop, length-drop}
use Rattle.std.proofs.Common.{take, Bool, true, false, ◌&&◌}
use lib.Dec.{eqb}
use Rattle.std.proofs.lemmas.Bool.{and_parts, cases_lt, eqb-true}
use Rattle.std.proofs.lemmas.List.{get_or-drop, get_or-take, length-take}
use Rattle.std.proofs.lemmas.Grind.{same_number_lists}
use Rattle.rom_model.specs.Blocks.{region_len}
use Rattle.rom_header.specs.Layout.{MAIN, STATE, back_at, back_of, main_of, part}
use Rattle.rom_header.proofs.Parts.{get_or-part}
use Rattle.rom_steady.specs.Rule.{Stage, Resting, Changing, Deciding, Copying, IsKept, age, committed, committed_at}
use Rattle.rom_steady.specs.Seen.{CommittedNoOlder, CommittedStood, WasWhole}
use Rattle.rom_steady.specs.declared.names.NameWords.{NameWords}
use Rattle.rom_steady.specs.Watched.{ShownWatched, IsLater, StoodAt, StoodFrom}
use Rattle.rom_steady.proofs.Laws.{found_then, found_before, name_between, read_behind, read_in_both, stands_still}

-- a test is not both
pub clash : (b : Bool) → b ≡ true → b ≡ false → ⊥
clash b is other = let e : true ≡ false = sym is ∙ other in cc

-- two pairs that are the same have the same parts
pub alike : (a b c d : ℕ) (r : Bool) → r ≡ (eqb a b && eqb c d) → r ≡ true → (a ≡ b) × (c ≡ d)
alike a b c d r is so =
    let both = and_parts (eqb a b) (eqb c d) (sym is ∙ so) in
    (eqb-true a b both.0, eqb-true c d both.1)

module _ {W : Type 0} (shown : ShownWatched W) where
  pub later_then : (a b c : W) → IsLater shown a b → IsLater shown b c → IsLater shown a c
  later_then a b c first second = record {
    size = second.size ∙ first.size;
    later = omega (arith, first.later, second.later);
    words = second.words ∙ first.words;
  }

  -- what stood there within calls stood there within more
  pub stood_wider : (a b c d : W) (place value : ℕ) → IsLater shown a b → IsLater shown b c → IsLater shown c d → StoodAt shown b c place value → StoodAt shown a d place value
  stood_wider a b c d place value first second third stood = record {
    moment = stood.moment;
    since = omega (arith, stood.since, first.later);
    until = omega (arith, stood.until, third.later);
    word = subst (λ (w : ℕ → List ℕ). value ≡ get_or (w stood.moment) place 0) (sym third.words) stood.word;
  }

  -- it stood so among the words as they were known before
  pub stood_in : (b c : W) (place value : ℕ) (words : ℕ → List ℕ) → shown.words c ≡ words → (stood : StoodAt shown b c place value) → value ≡ get_or (words stood.moment) place 0
  stood_in b c place value words same stood = subst (λ (w : ℕ → List ℕ). value ≡ get_or (w stood.moment) place 0) same stood.word

  -- a word that is the same at each moment
  pub stood_kept : (a b : W) (place value word : ℕ) → IsLater shown a b → StoodAt shown a b place value → ((t : ℕ) → get_or (shown.words a t) place 0 ≡ word) → value ≡ word
  stood_kept a b place value word later stood is = stood_in a b place value (shown.words a) later.words stood ∙ is stood.moment

  -- a piece more of the words that stood there
  pub stood_on : (a b c : W) (at from count : ℕ) (words : List ℕ) → from + count ≤ length words → IsLater shown a b → IsLater shown b c → ((k : ℕ) → k < from → StoodAt shown a b (at + k) (get_or words k 0)) →
      StoodFrom shown b c (at + from) (take ((from + count) - from) (drop from words)) → (k : ℕ) → k < from + count → StoodAt shown a c (at + k) (get_or words k 0)
  stood_on a b c at from count words room first second before here k lt =
      let still : (w : W) → IsLater shown w w = λ w. record { size = refl; later = omega arith; words = refl } in
      elim (cases_lt k from) [
        | inl low ↦ stood_wider a a b c (at + k) (get_or words k 0) (still a) first second (before k low)
        | inr high ↦
            let piece = take ((from + count) - from) (drop from words) in
            let j = k - from in
            let short : j < (from + count) - from = omega arith in
            let long : j < length piece = omega (arith, length-take ((from + count) - from) (drop from words), length-drop from words) in
            let e : from + j ≡ k = omega arith in
            let is : get_or piece j 0 ≡ get_or words k 0 = get_or-take ((from + count) - from) (drop from words) j 0 short ∙ get_or-drop from words j 0 ∙ ap (λ n. get_or words n 0) e in
            let place : (at + from) + j ≡ at + k = omega arith in
            let moved : StoodAt shown b c (at + k) (get_or words k 0) = subst (λ n. StoodAt shown b c n (get_or words k 0)) place (subst (λ v. StoodAt shown b c ((at + from) + j) v) is (here j long)) in
            stood_wider a b c c (at + k) (get_or words k 0) first second (still c) moved
      ]

  module _ (order : ℕ) (stages : ℕ → Stage) where
    in_main : (words : List ℕ) (k value : ℕ) → k < region_len order → value ≡ get_or words (MAIN + k) 0 → value ≡ get_or (main_of order words) k 0
    in_main words k value lt is = is ∙ sym (get_or-part MAIN (region_len order) words k lt)

    in_back : (words : List ℕ) (k value : ℕ) → k < region_len order → value ≡ get_or words (back_at order + k) 0 → value ≡ get_or (back_of order words) k 0
    in_back words k value lt is = is ∙ sym (get_or-part (back_at order) (region_len order) words k lt)

    long : 2 < region_len order
    long = omega arith

    sized : (words : List ℕ) (at : ℕ) → at + region_len order ≤ length words → length (part at (region_len order) words) ≡ region_len order
    sized words at room = omega (arith, length-take (region_len order) (drop at words), length-drop at words)

    committed_size : (s : Stage) (main back : List ℕ) (len : ℕ) → length main ≡ len → length back ≡ len → length (committed s main back) ≡ len
    committed_size Resting main back len a b = b
    committed_size Changing main back len a b = b
    committed_size Deciding main back len a b = b
    committed_size Copying main back len a b = a

    -- what is committed has a region's length
    region_size : (words : ℕ → List ℕ) → IsKept order stages words → (region : List ℕ) (t : ℕ) → committed_at order stages words t ≡ region → length region ≡ region_len order
    region_size words kept region t is =
        let room = (kept.moment t).heap.long in
        sym (ap length is) ∙ committed_size (stages t) (main_of order (words t)) (back_of order (words t)) (region_len order) (sized (words t) MAIN (omega (arith, room))) (sized (words t) (back_at order) (omega (arith, room)))

    -- where back is found so old behind a state that is not COPYING, or behind a main that is as old, nothing older was committed
    pub found_young : (a b c d : W) → IsKept order stages (shown.words a) → IsLater shown a b → IsLater shown b c → IsLater shown c d → (word version count : ℕ) → StoodAt shown a b STATE word →
        (word ≢ 2) ⊎ (StoodAt shown b c (MAIN + 1) version × StoodAt shown b c (MAIN + 2) count) → StoodAt shown c d (back_at order + 1) version → StoodAt shown c d (back_at order + 2) count →
        CommittedNoOlder order stages (shown.words a) (shown.now a) (shown.now d) (version + count)
    found_young a b c d kept first second third word version count state main back_version back_count =
        let words = shown.words a in
        let at_b : shown.words b ≡ words = first.words in
        let at_c : shown.words c ≡ words = second.words ∙ at_b in
        let at_d : shown.words d ≡ words = third.words ∙ at_c in
        let s : word ≡ get_or (words state.moment) STATE 0 = stood_in a b STATE word words at_b state in
        let v = in_back (words back_version.moment) 1 version (omega (arith, long)) (stood_in c d (back_at order + 1) version words at_d back_version) in
        let n = in_back (words back_count.moment) 2 count long (stood_in c d (back_at order + 2) count words at_d back_count) in
        record {
          moment = state.moment;
          since = state.since;
          until = omega (arith, state.until, second.later, third.later);
          young = ⊎_elim
              (λ other. found_then order stages words kept state.moment state.moment state.moment back_version.moment back_count.moment version count (omega arith) (omega arith)
              (omega (arith, state.until, second.later, back_version.since)) (omega (arith, state.until, second.later, back_count.since)) (omega (arith, state.until, second.later, back_version.since)) (omega (arith, state.until, second.later, back_count.since))
              v n (inl (λ e. other (s ∙ e))))
              (λ alike. found_then order stages words kept state.moment alike.0.moment alike.1.moment back_version.moment back_count.moment version count
              (omega (arith, state.until, alike.0.since)) (omega (arith, state.until, alike.1.since))
              (omega (arith, alike.0.until, back_version.since)) (omega (arith, alike.0.until, back_count.since)) (omega (arith, alike.1.until, back_version.since)) (omega (arith, alike.1.until, back_count.since))
              v n (inr (in_main (words alike.0.moment) 1 version (omega (arith, long)) (stood_in b c (MAIN + 1) version words at_c alike.0), in_main (words alike.1.moment) 2 count long (stood_in b c (MAIN + 2) count words at_c alike.1))))
              main;
        }

    -- words of back that were read behind another state are what was committed
    pub read_uncopied : (a b c : W) → IsKept order stages (shown.words a) → IsLater shown a b → IsLater shown b c → (word : ℕ) (image region : List ℕ) → CommittedStood order stages (shown.words a) (shown.now a) (shown.now c) region →
        StoodAt shown a b STATE word → word ≢ 2 → StoodFrom shown b c (back_at order) image → length image ≡ region_len order → image ≡ region
    read_uncopied a b c kept first second word image region stood state other read size =
        let words = shown.words a in
        let at_b : shown.words b ≡ words = first.words in
        let at_c : shown.words c ≡ words = second.words ∙ at_b in
        let s : word ≡ get_or (words state.moment) STATE 0 = stood_in a b STATE word words at_b state in
        same_number_lists image region (omega (arith, size, region_size words kept region state.moment (stood state.moment state.since (omega (arith, state.until, second.later)))))
        (λ k h.
        let seen = read k h in
        read_behind order stages words kept state.moment seen.moment k (get_or image k 0) region (omega (arith, state.until, seen.since)) (λ e. other (s ∙ e))
        (stood state.moment state.since (omega (arith, state.until, second.later))) (stood seen.moment (omega (arith, seen.since, first.later)) seen.until)
        (in_back (words seen.moment) k (get_or image k 0) (omega (arith, size)) (stood_in b c (back_at order + k) (get_or image k 0) words at_c seen)))

    -- words that were read in main and then, the same, in back, are what was committed
    pub read_twice : (a b c d : W) → IsKept order stages (shown.words a) → IsLater shown a b → IsLater shown b c → IsLater shown c d → (image region : List ℕ) → CommittedStood order stages (shown.words a) (shown.now a) (shown.now d) region →
        StoodFrom shown b c MAIN image → StoodFrom shown c d (back_at order) image → length image ≡ region_len order → image ≡ region
    read_twice a b c d kept first second third image region stood before after size =
        let words = shown.words a in
        let at_b : shown.words b ≡ words = first.words in
        let at_c : shown.words c ≡ words = second.words ∙ at_b in
        let at_d : shown.words d ≡ words = third.words ∙ at_c in
        same_number_lists image region (omega (arith, size, region_size words kept region (shown.now a) (stood (shown.now a) (omega arith) (omega (arith, first.later, second.later, third.later)))))
        (λ k h.
        let one = before k h in
        let two = after k h in
        read_in_both order stages words kept one.moment two.moment k (get_or image k 0) region (omega (arith, one.until, two.since))
        (stood one.moment (omega (arith, one.since, first.later)) (omega (arith, one.until, third.later))) (stood two.moment (omega (arith, two.since, first.later, second.later)) two.until)
        (in_main (words one.moment) k (get_or image k 0) (omega (arith, size)) (stood_in b c (MAIN + k) (get_or image k 0) words at_c one))
        (in_back (words two.moment) k (get_or image k 0) (omega (arith, size)) (stood_in c d (back_at order + k) (get_or image k 0) words at_d two)))

    name_word : (a b c d : W) → IsKept order stages (shown.words a) → IsLater shown a b → IsLater shown b c → IsLater shown c d → (k first last : ℕ) → 4 ≤ k → k < 8 → StoodAt shown a b k first → StoodAt shown c d k last → last ≡ first →
        (t : ℕ) → shown.now b ≤ t → t ≤ shown.now c → first ≡ get_or (shown.words a t) k 0
    name_word a b c d kept first second third k one two low high before after same t since until =
        let words = shown.words a in
        let at_b : shown.words b ≡ words = first.words in
        let at_c : shown.words c ≡ words = second.words ∙ at_b in
        let at_d : shown.words d ≡ words = third.words ∙ at_c in
        name_between order stages words kept k low high before.moment t after.moment one (omega (arith, before.until)) (omega (arith, after.since)) (stood_in a b k one words at_b before) (sym same ∙ stood_in c d k two words at_d after)

    -- Names, age of back, region, age again, names again: the region and the names were those of the moment behind the first age.
    pub read_whole : (a b c d e f : W) → IsKept order stages (shown.words a) → IsLater shown a b → IsLater shown b c → IsLater shown c d → IsLater shown d e → IsLater shown e f →
        (names again : NameWords) (version count : ℕ) (image : List ℕ) →
        StoodAt shown a b 4 names.high → StoodAt shown a b 5 names.low → StoodAt shown a b 6 names.epoch → StoodAt shown a b 7 names.since →
        StoodAt shown b c (back_at order + 1) version → StoodAt shown b c (back_at order + 2) count →
        ((region : List ℕ) → CommittedStood order stages (shown.words c) (shown.now c) (shown.now d) region → image ≡ region) →
        CommittedNoOlder order stages (shown.words d) (shown.now d) (shown.now e) (version + count) →
        StoodAt shown e f 4 again.high → StoodAt shown e f 5 again.low → StoodAt shown e f 6 again.epoch → StoodAt shown e f 7 again.since →
        (again.high ≡ names.high) × (again.low ≡ names.low) × (again.epoch ≡ names.epoch) × (again.since ≡ names.since) →
        WasWhole order stages (shown.words a) (shown.now a) (shown.now f) image names
    read_whole a b c d e f kept ab bc cd de ef names again version count image high low epoch since at_version at_count read young high_again low_again epoch_again since_again same =
        let words = shown.words a in
        let at_b : shown.words b ≡ words = ab.words in
        let at_c : shown.words c ≡ words = bc.words ∙ at_b in
        let at_d : shown.words d ≡ words = cd.words ∙ at_c in
        let t = shown.now c in
        let v = in_back (words at_version.moment) 1 version (omega (arith, long)) (stood_in b c (back_at order + 1) version words at_c at_version) in
        let n = in_back (words at_count.moment) 2 count long (stood_in b c (back_at order + 2) count words at_c at_count) in
        let old : version + count ≤ age (committed_at order stages words t) = found_before order stages words kept at_version.moment at_count.moment t version count at_version.until at_count.until v n in
        let last = young.moment in
        let new : age (committed_at order stages words last) ≤ version + count = subst (λ (w : ℕ → List ℕ). age (committed_at order stages w last) ≤ version + count) at_d young.young in
        let stood : CommittedStood order stages words t (shown.now d) (committed_at order stages words t) = λ u low high. stands_still order stages words kept t u last (version + count) low (omega (arith, high, young.since)) old new in
        let be : IsLater shown b e = later_then b d e (later_then b c d bc cd) de in
        record {
          moment = t;
          since = omega (arith, ab.later, bc.later);
          until = omega (arith, cd.later, de.later, ef.later);
          region = read (committed_at order stages words t) (subst (λ (w : ℕ → List ℕ). CommittedStood order stages w t (shown.now d) (committed_at order stages words t)) (sym at_c) stood);
          names_are = record {
            high = name_word a b e f kept ab be ef 4 names.high again.high (omega arith) (omega arith) high high_again same.0 t bc.later (omega (arith, cd.later, de.later));
            low = name_word a b e f kept ab be ef 5 names.low again.low (omega arith) (omega arith) low low_again same.1 t bc.later (omega (arith, cd.later, de.later));
            epoch = name_word a b e f kept ab be ef 6 names.epoch again.epoch (omega arith) (omega arith) epoch epoch_again same.2 t bc.later (omega (arith, cd.later, de.later));
            since = name_word a b e f kept ab be ef 7 names.since again.since (omega arith) (omega arith) since since_again same.3 t bc.later (omega (arith, cd.later, de.later));
          };
        }
