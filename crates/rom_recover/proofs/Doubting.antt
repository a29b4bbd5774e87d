-- Recovery of a heap that was left with words in doubt.
use Rattle.std.proofs.Common.{◌≡◌, ◌⊎◌, inl, inr, ⊎_elim, ℕ, ◌+◌, ◌-◌, ◌<◌, ◌≤◌, IsTrue, List, length, get_or, set, refl, sym, ap, ◌∙◌, subst, arith, length-set, get_or-set_other, get_or-set_same}
use Rattle.std.proofs.lemmas.Bool.{cases_eq}
use Rattle.std.proofs.lemmas.Grind.{same_number_lists}
use Rattle.rom_model.specs.Blocks.{region_len}
use Rattle.rom_model.specs.Space.{ChangesOnly}
use Rattle.rom_model.proofs.Changes.{changes_joins}
use Rattle.rom_device.specs.Device.{ShownDevice, AreRenewed, AreSettled, Becomes, Does, DoubtsNoMore, IsRenewed, Leaves, Runs, Stays, TellsDoubts, WritesWord}
use Rattle.rom_device.specs.Doubt.{settled_sure}
use Rattle.rom_device.proofs.Going.{leaves_becoming, leaves_none, leaves_on, leaves_still, leaves_then, was_left}
use Rattle.rom_header.proofs.Since.{leaves_from}
use Rattle.rom_header.proofs.Parts.{state_set}
use Rattle.rom_header.specs.Headers.{IsIdle, state_word}
use Rattle.rom_header.specs.Layout.{main_of, back_of}
use Rattle.rom_header.specs.Regions.{IsHeap, IsCounted, SameRegion}
use Rattle.rom_header.specs.declared.header.State.{State}
use Rattle.rom_header.specs.declared.header.State.TheVariants.{Idle, Mutating, Copying}
use Rattle.rom_recover.specs.Copied.{Copied, CopiesSome}
use Rattle.rom_recover.specs.Recovered.{IsDone, IsWay}
use Rattle.rom_recover.specs.Doubt.{IsOfOther, MayBeInDoubt, IsLeftInDoubt, IsCertainBut, IsImageRecovered}
use Rattle.rom_recover.proofs.CopyBack.{same, mended_on}

-- a place of the region that does not count is where a copy goes to
other_within : (n : ℕ) (s : State) (from to at : ℕ) → IsWay n s from to → IsOfOther n (state_word s) at → (to ≤ at) × (at < to + region_len n)
other_within n Idle from to at way other = elim way [ ]
other_within n Mutating from to at way (inl (is, among)) = subst (λ (k : ℕ). (k ≤ at) × (at < k + region_len n)) (sym way.1) among
other_within n Mutating from to at way (inr (is, among)) = absurd (omega (arith, is))
other_within n Copying from to at way (inl (is, among)) = absurd (omega (arith, is))
other_within n Copying from to at way (inr (is, among)) = subst (λ (k : ℕ). (k ≤ at) × (at < k + region_len n)) (sym way.1) among

-- nor is it under IDLE
other_idle : (n at : ℕ) → IsOfOther n 0 at → ⊥
other_idle n at (inl (is, among)) = absurd (omega (arith, is))
other_idle n at (inr (is, among)) = absurd (omega (arith, is))

-- words that differ in that region alone
only_other : (n : ℕ) (s : State) (from to : ℕ) → IsWay n s from to → (x y : List ℕ) → length y ≡ length x → ((k : ℕ) → (get_or y k 0 ≡ get_or x k 0) ⊎ IsOfOther n (state_word s) k) → ChangesOnly to (region_len n) x y
only_other n s from to way x y long each = record {
  as_long = long;
  before = λ k lt. elim (each k) [
    | inl reads ↦ reads
    | inr other ↦ absurd (let within = other_within n s from to k way other in omega (arith, lt, within.0))
  ];
  behind = λ k past. elim (each k) [
    | inl reads ↦ reads
    | inr other ↦ absurd (let within = other_within n s from to k way other in omega (arith, past, within.1))
  ];
}

-- the same region counts once both regions are the one that counted
done_same : (n : ℕ) (x y : List ℕ) → IsHeap n x → IsDone n x y → SameRegion x y
done_same n x y heap done = record {
  order = n;
  region = done.region;
  words_are = record { heap = heap; counts = done.counted };
  image_is = record { heap = done.heap; counts = inl (done.idle, done.main_is, done.back_is) };
}

-- under IDLE each word but the state is certain, and whichever state a stop leaves, the same region counts
module _ (n : ℕ) (x i : List ℕ) (heap : IsHeap n x) (long : length i ≡ length x) (each : (k : ℕ) → (get_or i k 0 ≡ get_or x k 0) ⊎ (k ≡ 3)) (low : get_or i 3 0 ≤ 2) where
  state_put : i ≡ set x 3 (get_or i 3 0)
  state_put = same_number_lists i (set x 3 (get_or i 3 0)) (long ∙ sym (length-set x 3 (get_or i 3 0))) (λ k lt. elim (cases_eq k 3) [
    | inl is ↦
        let inside : 3 < length x = omega (arith, heap.long) in
        let here : get_or (set x 3 (get_or i 3 0)) 3 0 ≡ get_or i 3 0 = rw get_or-set_same refl in
        subst (λ (j : ℕ). get_or i j 0 ≡ get_or (set x 3 (get_or i 3 0)) j 0) (sym is) (sym here)
    | inr other ↦
        let stays : get_or (set x 3 (get_or i 3 0)) k 0 ≡ get_or x k 0 = rw get_or-set_other refl in
        elim (each k) [ inl reads ↦ reads ∙ sym stays | inr is ↦ absurd (other is) ]
  ])

  counted_by : (state : ℕ) → state ≤ 2 → (y region : List ℕ) → get_or y 3 0 ≡ state → main_of n y ≡ region → back_of n y ≡ region → IsCounted n y region
  counted_by state le y region is main back = elim (cases_eq state 0) [
    | inl zero ↦ inl (is ∙ zero, main, back)
    | inr some ↦ elim (cases_eq state 1) [
      | inl one ↦ inr (inl (is ∙ one, back))
      | inr more ↦ inr (inr (is ∙ (let two : state ≡ 2 = omega (arith, le, some, more) in two), main))
    ]
  ]

  pub idle_same : IsDone n x x → SameRegion x i
  idle_same done =
      let v : ℕ = get_or i 3 0 in
      let there = state_set n v x low heap in
      subst (λ (l : List ℕ). SameRegion x l) (sym state_put) (record {
        order = n;
        region = done.region;
        words_are = record { heap = heap; counts = done.counted };
        image_is = record { heap = there.heap; counts = counted_by v low (set x 3 v) done.region there.state_is (there.main_is ∙ done.main_is) (there.back_is ∙ done.back_is) };
      })

module _ {D : Type 0} (shown : ShownDevice D) (doubts : IsTrue shown.tells_doubts) (told : TellsDoubts shown) (n : ℕ) where
  long : (a b : D) (i : List ℕ) → length (shown.words b) ≡ length (shown.words a) → shown.leaves b i → length i ≡ length (shown.words a)
  long a b i same left = told.images_fit b i left ∙ same

  -- the state is written again
  module _ (s : State) (from to : ℕ) (way : IsWay n s from to) (a b : D) (heap : IsHeap n (shown.words a)) (state : get_or (shown.words a) 3 0 ≡ state_word s) (sure : IsCertainBut shown (MayBeInDoubt n (state_word s)) a)
      (runs : Runs shown (WritesWord 3 (state_word s)) a b) where
    put_other : (x : List ℕ) → shown.leaves a x → (k : ℕ) → (get_or (set x 3 (state_word s)) k 0 ≡ get_or (shown.words a) k 0) ⊎ IsOfOther n (state_word s) k
    put_other x was k = elim (cases_eq k 3) [
      | inl is ↦
          let inside : 3 < length x = omega (arith, told.images_fit a x was, heap.long) in
          let here : get_or (set x 3 (state_word s)) 3 0 ≡ state_word s = rw get_or-set_same refl in
          inl (subst (λ (j : ℕ). get_or (set x 3 (state_word s)) j 0 ≡ get_or (shown.words a) j 0) (sym is) (here ∙ sym state))
      | inr other ↦
          let stays : get_or (set x 3 (state_word s)) k 0 ≡ get_or x k 0 = rw get_or-set_other refl in
          elim (sure.images x was k) [
            | inl reads ↦ inl (stays ∙ reads)
            | inr (inl is) ↦ absurd (other is)
            | inr (inr place) ↦ inr place
          ]
    ]

    becomes : (x y : List ℕ) → shown.leaves a x → WritesWord 3 (state_word s) x y → Becomes (SameRegion (shown.words a)) x y
    becomes x y was (inl stays) = inl stays
    becomes x y was (inr put) = inr (subst (λ (l : List ℕ). SameRegion (shown.words a) l) (sym put) (same n (shown.words a) heap s from to way state (set x 3 (state_word s))
        (only_other n s from to way (shown.words a) (set x 3 (state_word s)) (length-set x 3 (state_word s) ∙ told.images_fit a x was) (put_other x was))))

    pub renewed_leaves : Leaves shown (SameRegion (shown.words a)) a b
    renewed_leaves = leaves_becoming shown (WritesWord 3 (state_word s)) (SameRegion (shown.words a)) a b (told.counts_now a) runs becomes

  -- and then only the region that does not count may be in doubt
  pub renewed_sure : (state : ℕ) (a b : D) → shown.words b ≡ shown.words a → IsCertainBut shown (MayBeInDoubt n state) a → DoubtsNoMore shown a b → AreSettled shown b → IsRenewed shown 3 b → IsCertainBut shown (IsOfOther n state) b
  renewed_sure state a b same_words sure fewer settled renewed =
      let place = λ (at : ℕ) (is : shown.doubted b at). at_other at is (sure.places at (fewer at is)) in
      record { places = place; images = λ i left at. ⊎_elim (λ reads. inl reads) (λ is. inr (place at is)) (settled i left at) }
    where
      at_other : (at : ℕ) → shown.doubted b at → MayBeInDoubt n state at → IsOfOther n state at
      at_other at is (inl three) = absurd (renewed (subst (λ (k : ℕ). shown.doubted b k) three is))
      at_other at is (inr other) = other

  -- the region that counts is copied
  module _ (s : State) (from to len : ℕ) (way : IsWay n s from to) (size : len ≡ region_len n) (a b : D) (heap : IsHeap n (shown.words a)) (state : get_or (shown.words a) 3 0 ≡ state_word s) (sure : IsCertainBut shown (IsOfOther n (state_word s)) a)
      (does : Does shown (CopiesSome (shown.words a) from to len) a b) where
    copies : Does shown (CopiesSome (shown.words a) from to (region_len n)) a b
    copies = subst (λ (k : ℕ). Does shown (CopiesSome (shown.words a) from to k) a b) size does

    copied_same : (x y : List ℕ) → shown.leaves a x → CopiesSome (shown.words a) from to (region_len n) x y → SameRegion (shown.words a) y
    copied_same x y was by = same n (shown.words a) heap s from to way state y
        (changes_joins to (region_len n) (shown.words a) x y (only_other n s from to way (shown.words a) x (told.images_fit a x was) (sure.images x was)) by.only)

    pub copied_leaves : Leaves shown (SameRegion (shown.words a)) a b
    copied_leaves = leaves_on shown (CopiesSome (shown.words a) from to (region_len n)) (SameRegion (shown.words a)) a a b (leaves_none shown (SameRegion (shown.words a)) a) (copies.doubts doubts) copied_same

    pub copied_free : AreRenewed shown to len b → (place : ℕ) → IsRenewed shown place b
    copied_free renewed place is =
        let within = other_within n s from to place way (sure.places place (does.fewer place is)) in
        renewed (place - to) (omega (arith, within.0, within.1, size)) (subst (λ (k : ℕ). shown.doubted b k) (omega (arith, within.0)) is)

    module _ (copied : Copied from to len (shown.words a) (shown.words b)) (v : ℕ) (zero : v ≡ 0) (c : D) (images : Leaves shown (WritesWord 3 v (shown.words b)) b c) where
      written_same : (i : List ℕ) → WritesWord 3 v (shown.words b) i → SameRegion (shown.words a) i
      written_same i by = (mended_on n (shown.words a) heap s from to way state (shown.words b) (copies.words told.words) (subst (λ (k : ℕ). Copied from to k (shown.words a) (shown.words b)) size copied) i
          (subst (λ (k : ℕ). WritesWord 3 k (shown.words b) i) zero by)).same

      pub written_leaves : Leaves shown (SameRegion (shown.words a)) a c
      written_leaves = leaves_then shown (SameRegion (shown.words a)) (WritesWord 3 v (shown.words b)) a b c written_same copied_leaves images

  -- once nothing is in doubt
  pub end_certain : (a c : D) → IsHeap n (shown.words a) → IsDone n (shown.words a) (shown.words c) → AreSettled shown c → ((place : ℕ) → IsRenewed shown place c) → (i : List ℕ) → shown.leaves c i → IsImageRecovered (shown.words a) (shown.words c) i
  end_certain a c heap done settled free i left =
      let is : i ≡ shown.words c = settled_sure shown c (told.images_fit c) settled free i left in
      record {
        same = subst (λ (l : List ℕ). SameRegion (shown.words a) l) (sym is) (done_same n (shown.words a) (shown.words c) heap done);
        certain = λ at. inl (ap (λ (l : List ℕ). get_or l at 0) is);
      }

  -- what follows the first sync and reads
  module _ (a b : D) (same_words : shown.words b ≡ shown.words a) (quiet : Runs shown Stays a b) where
    pub still_leaves : Leaves shown (SameRegion (shown.words a)) a b
    still_leaves = leaves_still shown (SameRegion (shown.words a)) a a b (told.counts_now a) (leaves_none shown (SameRegion (shown.words a)) a) quiet

    pub since_from : (c : D) → Leaves shown (SameRegion (shown.words b)) b c → Leaves shown (SameRegion (shown.words a)) a c
    since_from c since = leaves_from shown (SameRegion (shown.words a)) (SameRegion (shown.words b)) a b c (told.counts_now a) quiet (λ i. subst (λ (l : List ℕ). SameRegion l i) same_words) since

    -- only such words are in doubt as the earlier program left so, and all others are certain
    pub left_sure : (m : D) → Runs shown Stays m b → IsLeftInDoubt shown n a → AreSettled shown m → DoubtsNoMore shown a m → DoubtsNoMore shown m b → shown.words m ≡ shown.words a → IsCertainBut shown (MayBeInDoubt n (get_or (shown.words a) 3 0)) b
    left_sure m reads left settled fewer still_fewer synced_words = record {
      places = λ at is. left.places at (fewer at (still_fewer at is));
      images = λ i has at. ⊎_elim (λ is. inl (is ∙ ap (λ (l : List ℕ). get_or l at 0) (synced_words ∙ sym same_words))) (λ is. inr (left.places at (fewer at is))) (settled i (was_left shown m b reads i has) at);
    }

    -- and under IDLE nothing is written
    pub idle_recovered : IsHeap n (shown.words a) → IsIdle (shown.words a) → IsLeftInDoubt shown n a → IsCertainBut shown (MayBeInDoubt n 0) b → IsDone n (shown.words a) (shown.words a) → (i : List ℕ) → shown.leaves b i → IsImageRecovered (shown.words a) (shown.words b) i
    idle_recovered heap idle left sure done i has =
        let each = λ (k : ℕ). only_state k (get_or i k 0) (get_or (shown.words b) k 0) (sure.images i has k) in
        record {
          same = idle_same n (shown.words a) i heap (told.images_fit b i has ∙ ap length same_words) (λ k. each_as i k (each k)) (left.states idle i (was_left shown a b quiet i has)) done;
          certain = λ at. ⊎_elim (λ reads. inl reads) (λ is. inr (is, idle)) (each at);
        }
      where
        only_state : (k v w : ℕ) → (v ≡ w) ⊎ MayBeInDoubt n 0 k → (v ≡ w) ⊎ (k ≡ 3)
        only_state k v w (inl reads) = inl reads
        only_state k v w (inr (inl is)) = inr is
        only_state k v w (inr (inr other)) = absurd (other_idle n k other)

        each_as : (i : List ℕ) (k : ℕ) → (get_or i k 0 ≡ get_or (shown.words b) k 0) ⊎ (k ≡ 3) → (get_or i k 0 ≡ get_or (shown.words a) k 0) ⊎ (k ≡ 3)
        each_as i k (inl reads) = inl (reads ∙ ap (λ (l : List ℕ). get_or l k 0) same_words)
        each_as i k (inr is) = inr is

-- what follows the writing of the state
module _ {D : Type 0} (shown : ShownDevice D) (a b c : D) (same_words : shown.words b ≡ shown.words a) where
  pub then_from : Leaves shown (SameRegion (shown.words a)) a b → Leaves shown (SameRegion (shown.words b)) b c → Leaves shown (SameRegion (shown.words a)) a c
  then_from first second = leaves_then shown (SameRegion (shown.words a)) (SameRegion (shown.words b)) a b c (λ i. subst (λ (l : List ℕ). SameRegion l i) same_words) first second

  pub recovered_from : ((i : List ℕ) → shown.leaves c i → IsImageRecovered (shown.words b) (shown.words c) i) → (i : List ℕ) → shown.leaves c i → IsImageRecovered (shown.words a) (shown.words c) i
  recovered_from holds = subst (λ (l : List ℕ). (i : List ℕ) → shown.leaves c i → IsImageRecovered l (shown.words c) i) same_words holds
