-- The places of words laid over others, by which a device over a medium meets the laws of a device.
use Rattle.std.proofs.Common.{◌≡◌, ◌≢◌, ◌⊎◌, inl, inr, ℕ, zero, suc, ◌+◌, ◌<◌, ◌≤◌, List, [], ◌∷◌, ◌++◌, length, slice_index, refl, sym, ◌∙◌, subst, arith, set, length-set, length-append, get_or-set_other, get_or-set_same}
use Rattle.std.proofs.lemmas.Bool.{cases_eq}
use Rattle.std.proofs.lemmas.List.{get_or_push, get_or_append_left}
use Rattle.rom_device.specs.Device.{ShownDevice, WritesMany}
use Rattle.rom_device.specs.Laid.{firsts, laid}
use Rattle.rom_device.specs.Cached.{may_leave}
use Rattle.rom_device.specs.Run.{nth_of, with_run}
use Rattle.rom_device.specs.declared.run.Run.{Run}

-- the first n values are n
pub length-firsts : (f : ℕ → ℕ) (n : ℕ) → length (firsts f n) ≡ n
unfolding firsts
length-firsts f zero = refl
length-firsts f (suc n) = omega (arith, length-append (firsts f n) (f n ∷ []), length-firsts f n)

-- value k of the first n values of f is f k
pub at-firsts : (f : ℕ → ℕ) (n k : ℕ) → k < n → slice_index (firsts f n) k ≡ f k
unfolding firsts
at-firsts f zero k lt = absurd (omega (arith, lt))
at-firsts f (suc n) k lt = elim (cases_eq k n) [
  | inl same ↦ subst (λ (m : ℕ). slice_index (firsts f n ++ f n ∷ []) m ≡ f m) (sym same) (get_or_push (firsts f n) (f n) 0 n (length-firsts f n))
  | inr other ↦ get_or_append_left (firsts f n) (f n ∷ []) 0 k (omega (arith, length-firsts f n, lt, other)) ∙ at-firsts f n k (omega (arith, lt, other))
]

-- laying values over words does not change how many there are
pub length-laid : (at : ℕ) (f : ℕ → ℕ) (n : ℕ) (x : List ℕ) → length (laid at f n x) ≡ length x
unfolding laid
length-laid at f zero x = refl
length-laid at f (suc n) x = length-set (laid at f n x) (at + n) (f n) ∙ length-laid at f n x

-- a word outside of the places that are laid over stays
pub laid_other : (at : ℕ) (f : ℕ → ℕ) (n b : ℕ) (x : List ℕ) → (b < at) ⊎ (at + n ≤ b) → slice_index (laid at f n x) b ≡ slice_index x b
unfolding laid
laid_other at f zero b x apart = refl
laid_other at f (suc n) b x apart =
    let ne : b ≢ at + n = elim apart [ inl before ↦ omega (arith, before) | inr behind ↦ omega (arith, behind) ] in
    let rest : slice_index (laid at f n x) b ≡ slice_index x b = laid_other at f n b x (elim apart [ inl before ↦ inl before | inr behind ↦ inr (omega (arith, behind)) ]) in
    let other : slice_index (set (laid at f n x) (at + n) (f n)) b ≡ slice_index (laid at f n x) b = rw get_or-set_other refl in
    other ∙ rest

-- a word inside of them is the value that is laid there
pub laid_here : (at : ℕ) (f : ℕ → ℕ) (n k : ℕ) (x : List ℕ) → k < n → at + n ≤ length x → slice_index (laid at f n x) (at + k) ≡ f k
unfolding laid
laid_here at f zero k x lt fits = absurd (omega (arith, lt))
laid_here at f (suc n) k x lt fits = elim (cases_eq k n) [
  | inl same ↦
      let inside : at + n < length (laid at f n x) = omega (arith, fits, length-laid at f n x) in
      let here : slice_index (set (laid at f n x) (at + n) (f n)) (at + n) ≡ f n = rw get_or-set_same refl in
      subst (λ (m : ℕ). slice_index (set (laid at f n x) (at + n) (f n)) (at + m) ≡ f m) (sym same) here
  | inr other ↦
      let ne : at + k ≢ at + n = omega (arith, other) in
      let stays : slice_index (set (laid at f n x) (at + n) (f n)) (at + k) ≡ slice_index (laid at f n x) (at + k) = rw get_or-set_other refl in
      stays ∙ laid_here at f n k x (omega (arith, lt, other)) (omega (arith, fits))
]

-- laying values over words that have room for them is writing them
pub laid_many : (at : ℕ) (f : ℕ → ℕ) (n : ℕ) (x : List ℕ) → at + n ≤ length x → WritesMany at (firsts f n) x (laid at f n x)
laid_many at f n x fits = record {
  only = record {
    as_long = length-laid at f n x;
    before = λ k h. laid_other at f n k x (inl h);
    behind = λ k h. laid_other at f n k x (inr (omega (arith, h, length-firsts f n)));
  };
  either = λ k lt. let less : k < n = omega (arith, lt, length-firsts f n) in inr (laid_here at f n k x less fits ∙ sym (at-firsts f n k less));
}

-- laying the words of a run over others does not change how many there are
pub length_over : (run : Run) (x : List ℕ) {n : ℕ} → length x ≡ n → length (with_run run x) ≡ n
length_over run x long = length-laid run.first (nth_of run) run.count x ∙ long

module _ {M : Type 0} (shown : ShownDevice M) (run : Run) (m : M) where
  pub reads_as_image : run.first + run.count ≤ length (shown.words m) → shown.leaves m (shown.words m) → may_leave shown run m (with_run run (shown.words m))
  reads_as_image fits left = record { from = shown.words m; was = left; by = laid_many run.first (nth_of run) run.count (shown.words m) fits }

  pub images_as_long : (i : List ℕ) {n : ℕ} → ((j : List ℕ) → shown.leaves m j → length j ≡ n) → may_leave shown run m i → length i ≡ n
  images_as_long i long left = left.by.only.as_long ∙ long left.from left.was

  pub is_since : (t : ℕ) (i : List ℕ) → may_leave shown run m i → may_leave shown run m i ⊎ shown.left_since m t i
  is_since t i left = inl left

  pub is_now : (i : List ℕ) → (shown.left_since m (shown.clock m) i → shown.leaves m i) → may_leave shown run m i ⊎ shown.left_since m (shown.clock m) i → may_leave shown run m i
  is_now i now (inl left) = left
  is_now i now (inr past) = record {
    from = i;
    was = now past;
    by = record { only = record { as_long = refl; before = λ k h. refl; behind = λ k h. refl }; either = λ k h. inl refl };
  }
