-- The images that a stop may leave are those whose words are each one of its possible values.
use Rattle.std.proofs.Common.{◌≡◌, ◌≢◌, ◌⊎◌, inl, inr, ⊎_elim, ℕ, zero, suc, ◌+◌, ◌%◌, ◌<◌, ◌≤◌, Bool, true, false, ◌==◌, if◌then◌else◌, List, [], ◌∷◌, ◌++◌, length, slice_index, refl, arith, sym, ap, ◌∙◌, subst, set, length-set, length-append, get_or-set_other, get_or-set_same}
use Rattle.std.proofs.Math.Nat.{mod-eq_of_lt}
use Rattle.std.proofs.lemmas.Bool.{cases_eq, cases_lt}
use Rattle.std.proofs.lemmas.Bool.Decides.{nat_tests}
use Rattle.std.proofs.lemmas.Grind.{same_number_lists}
use Rattle.rom_device.specs.Device.{WritesWord}
use Rattle.rom_device.specs.Log.{words_after, MayLeave}
use Rattle.rom_device.specs.Choice.{possible, picked}
use Rattle.rom_device.specs.declared.call.LoggedCall.{LoggedCall}
use Rattle.rom_device.specs.declared.call.LoggedCall.TheVariants.{Read, Write, Sync}
use Rattle.rom_device.specs.Images.{length-words_after, length-MayLeave}

abbrev pub Among : ℕ → List ℕ → Type 0
Among x [] = ⊥
Among x (y ∷ ys) = (x ≡ y) ⊎ Among x ys

here : (w : List ℕ) (k v : ℕ) → k < length w → slice_index (set w k v) k ≡ v
here w k v lt = rw get_or-set_same refl

there : (w : List ℕ) (k v j : ℕ) → j ≢ k → slice_index (set w k v) j ≡ slice_index w j
there w k v j ne = rw get_or-set_other refl

among_push : (x v : ℕ) (ys : List ℕ) → Among x (ys ++ v ∷ []) → Among x ys ⊎ (x ≡ v)
among_push x v [] (inl is) = inr is
among_push x v [] (inr none) = absurd none
among_push x v (y ∷ ys) (inl is) = inl (inl is)
among_push x v (y ∷ ys) (inr more) = ⊎_elim (λ old. inl (inr old)) (λ new. inr new) (among_push x v ys more)

some : (base : List ℕ) (log : List LoggedCall) (k : ℕ) → (x : ℕ) × Among x (possible base log k)
some base [] k = (slice_index base k, inl refl)
some base (Read at ∷ log) k = some base log k
some base (Write at value lands ∷ log) k = go (at == k) (some base log k)
  where
    first : (ys : List ℕ) → ((x : ℕ) × Among x ys) → (x : ℕ) × Among x (ys ++ value ∷ [])
    first [] w = absurd w.1
    first (y ∷ ys) w = (y, inl refl)

    go : (t : Bool) → ((x : ℕ) × Among x (possible base log k)) → (x : ℕ) × Among x (if t then possible base log k ++ value ∷ [] else possible base log k)
    go true w = first (possible base log k) w
    go false w = w
some base (Sync true ∷ log) k = (slice_index (words_after base log) k, inl refl)
some base (Sync false ∷ log) k = some base log k

one : (i base : List ℕ) → length i ≡ length base → ((k : ℕ) → k < length base → Among (slice_index i k) (slice_index base k ∷ [])) → i ≡ base
one i base long each = same_number_lists i base long (λ k lt. ⊎_elim (λ is. is) (λ none. absurd none) (each k (omega (arith, lt, long))))

-- an image whose words are each among the possible values may be left
pub chosen_may : (base : List ℕ) (log : List LoggedCall) (i : List ℕ) → length i ≡ length base → ((k : ℕ) → k < length base → Among (slice_index i k) (possible base log k)) → MayLeave base log i
chosen_may base [] i long each = one i base long each
chosen_may base (Read at ∷ log) i long each = chosen_may base log i long each
chosen_may base (Sync false ∷ log) i long each = chosen_may base log i long each
chosen_may base (Sync true ∷ log) i long each = one i (words_after base log) (long ∙ sym (length-words_after base log)) (λ k lt. each k (omega (arith, lt, length-words_after base log)))
chosen_may base (Write at value lands ∷ log) i long each = elim (cases_lt at (length base)) [
  | inl inside ↦ ⊎_elim
      (λ old. record { from = i; was = chosen_may base log i long (λ k lt. elim (cases_eq at k) [ inl same ↦ subst (λ a. Among (slice_index i a) (possible base log a)) same old | inr other ↦ before k lt other ]); by = inl refl })
      (λ new.
      let x = some base log at in
      let from = set i at x.0 in
      let at_in : at < length i = omega (arith, long, inside) in
      record {
        from = from;
        was = chosen_may base log from (length-set i at x.0 ∙ long) (λ k lt. elim (cases_eq at k) [
          | inl same ↦ subst (λ a. Among (slice_index from a) (possible base log a)) same (subst (λ a. Among a (possible base log at)) (sym (here i at x.0 at_in)) x.1)
          | inr other ↦ subst (λ a. Among a (possible base log k)) (sym (there i at x.0 k (λ e. other (sym e)))) (before k lt other)
        ]);
        by = inr (restored i at x.0 value at_in new);
      })
      (among_push (slice_index i at) value (possible base log at) (written inside))
  | inr outside ↦ record { from = i; was = chosen_may base log i long (λ k lt. before k lt (λ e. absurd (omega (arith, e, lt, outside)))); by = inl refl }
]
  where
    before : (k : ℕ) → k < length base → at ≢ k → Among (slice_index i k) (possible base log k)
    before k lt ne = let no_test : (at == k) ≡ false = grind (arith, nat_tests) in subst (λ (t : Bool). Among (slice_index i k) (if t then possible base log k ++ value ∷ [] else possible base log k)) no_test (each k lt)

    written : at < length base → Among (slice_index i at) (possible base log at ++ value ∷ [])
    written lt = let test : (at == at) ≡ true = grind (arith, nat_tests) in subst (λ (t : Bool). Among (slice_index i at) (if t then possible base log at ++ value ∷ [] else possible base log at)) test (each at lt)

    restored : (w : List ℕ) (k x v : ℕ) → k < length w → slice_index w k ≡ v → w ≡ set (set w k x) k v
    restored w k x v lt is =
        let in_set : k < length (set w k x) = omega (arith, length-set w k x) in
        same_number_lists w (set (set w k x) k v) (sym (length-set (set w k x) k v ∙ length-set w k x)) (λ j h. elim (cases_eq j k) [
          | inl same ↦ ap (λ a. slice_index w a) same ∙ is ∙ sym (here (set w k x) k v in_set) ∙ ap (λ a. slice_index (set (set w k x) k v) a) (sym same)
          | inr other ↦ sym (there w k x j other) ∙ sym (there (set w k x) k v j other)
        ])

among_last : (v : ℕ) (ys : List ℕ) → Among v (ys ++ v ∷ [])
among_last v [] = inl refl
among_last v (y ∷ ys) = inr (among_last v ys)

among_more : (x v : ℕ) (ys : List ℕ) → Among x ys → Among x (ys ++ v ∷ [])
among_more x v [] none = absurd none
among_more x v (y ∷ ys) (inl is) = inl is
among_more x v (y ∷ ys) (inr more) = inr (among_more x v ys more)

-- a word of an image that a stop may leave is one of its possible values
pub may_among : (base : List ℕ) (log : List LoggedCall) (i : List ℕ) → MayLeave base log i → (k : ℕ) → k < length base → Among (slice_index i k) (possible base log k)
may_among base [] i is k lt = inl (ap (λ w. slice_index w k) is)
may_among base (Read at ∷ log) i may k lt = may_among base log i may k lt
may_among base (Sync true ∷ log) i is k lt = inl (ap (λ w. slice_index w k) is)
may_among base (Sync false ∷ log) i may k lt = may_among base log i may k lt
may_among base (Write at value lands ∷ log) i may k lt = written may.from may.by (length-MayLeave base log may.from may.was) (may_among base log may.from may.was k lt)
  where
    kept : (x : ℕ) → Among x (possible base log k) → Among x (if at == k then possible base log k ++ value ∷ [] else possible base log k)
    kept x is = elim (at == k) as (λ t. Among x (if t then possible base log k ++ value ∷ [] else possible base log k)) [ true ↦ among_more x value (possible base log k) is | false ↦ is ]

    written : (from : List ℕ) → WritesWord at value from i → length from ≡ length base → Among (slice_index from k) (possible base log k) → Among (slice_index i k) (if at == k then possible base log k ++ value ∷ [] else possible base log k)
    written from (inl same) long was = subst (λ (w : List ℕ). Among (slice_index w k) (if at == k then possible base log k ++ value ∷ [] else possible base log k)) (sym same) (kept (slice_index from k) was)
    written from (inr changed) long was = elim (cases_eq at k) [
      | inl same ↦
          let test : (at == k) ≡ true = grind (arith, nat_tests) in
          let inside : at < length from = omega (arith, same, lt, long) in
          let new : slice_index i k ≡ value = ap (λ w. slice_index w k) changed ∙ ap (λ a. slice_index (set from at value) a) (sym same) ∙ here from at value inside in
          subst (λ (t : Bool). Among (slice_index i k) (if t then possible base log k ++ value ∷ [] else possible base log k)) (sym test) (subst (λ x. Among x (possible base log k ++ value ∷ [])) (sym new) (among_last value (possible base log k)))
      | inr other ↦
          let old : slice_index i k ≡ slice_index from k = ap (λ w. slice_index w k) changed ∙ there from at value k (λ e. other (sym e)) in
          subst (λ x. Among x (if at == k then possible base log k ++ value ∷ [] else possible base log k)) (sym old) (kept (slice_index from k) was)
    ]

number_among : (x : ℕ) (ys : List ℕ) → Among x ys → (n : ℕ) × (n < length ys) × (slice_index ys n ≡ x)
number_among x [] none = absurd none
number_among x (y ∷ ys) (inl is) = (0, omega arith, sym is)
number_among x (y ∷ ys) (inr more) = let w = number_among x ys more in (suc w.0, omega (arith, w.1), w.2)

value_among : (n : ℕ) (ys : List ℕ) → n < length ys → Among (slice_index ys n) ys
value_among n [] lt = absurd (omega (arith, lt))
value_among zero (y ∷ ys) lt = inl refl
value_among (suc n) (y ∷ ys) lt = inr (value_among n ys (omega (arith, lt)))

-- there is a possible value, and one more at most with each call
pub possible_many : (base : List ℕ) (log : List LoggedCall) (k : ℕ) → (0 < length (possible base log k)) × (length (possible base log k) ≤ length log + 1)
possible_many base [] k = (omega arith, omega arith)
possible_many base (Read at ∷ log) k = let many = possible_many base log k in (many.0, omega (arith, many.1))
possible_many base (Sync true ∷ log) k = (omega arith, omega arith)
possible_many base (Sync false ∷ log) k = let many = possible_many base log k in (many.0, omega (arith, many.1))
possible_many base (Write at value lands ∷ log) k = go (at == k) (possible_many base log k)
  where
    go : (t : Bool) → (0 < length (possible base log k)) × (length (possible base log k) ≤ length log + 1) → (0 < length (if t then possible base log k ++ value ∷ [] else possible base log k)) × (length (if t then possible base log k ++ value ∷ [] else possible base log k) ≤ suc (length log) + 1)
    go true many = (omega (arith, many.0, length-append (possible base log k) (value ∷ [])), omega (arith, many.1, length-append (possible base log k) (value ∷ [])))
    go false many = (many.0, omega (arith, many.1))

pub picked_may : (base : List ℕ) (log : List LoggedCall) (i choice : List ℕ) → length i ≡ length base → ((k : ℕ) → k < length base → slice_index i k ≡ picked base log k (slice_index choice k)) → MayLeave base log i
picked_may base log i choice long each = chosen_may base log i long (λ k lt.
    let some : 0 < length (possible base log k) = (possible_many base log k).0 in
    let below : slice_index choice k % length (possible base log k) < length (possible base log k) = omega (arith, some) in
    subst (λ x. Among x (possible base log k)) (sym (each k lt)) (value_among _ (possible base log k) below))

-- one number for each index below
numbers : (m : ℕ) (P : ℕ → ℕ → Type 0) → ((k : ℕ) → k < m → (n : ℕ) × P k n) → (choice : List ℕ) × ((k : ℕ) → k < m → P k (slice_index choice k))
numbers zero P each = ([], λ k lt. absurd (omega (arith, lt)))
numbers (suc m) P each =
    let first = each 0 (omega arith) in
    let rest = numbers m (λ k n. P (suc k) n) (λ k lt. each (suc k) (omega (arith, lt))) in
    (first.0 ∷ rest.0, λ k lt. at k lt first.0 rest.0 first.1 rest.1)
  where
    at : (k : ℕ) → k < suc m → (n : ℕ) (ns : List ℕ) → P 0 n → ((j : ℕ) → j < m → P (suc j) (slice_index ns j)) → P k (slice_index (n ∷ ns) k)
    at zero lt n ns first rest = first
    at (suc j) lt n ns first rest = rest j (omega (arith, lt))

-- each image that a stop may leave is picked by some choice
pub may_picked : (base : List ℕ) (log : List LoggedCall) (i : List ℕ) → MayLeave base log i → (choice : List ℕ) × ((k : ℕ) → k < length base → (slice_index choice k ≤ length log) × (slice_index i k ≡ picked base log k (slice_index choice k)))
may_picked base log i may = numbers (length base) (λ k n. (n ≤ length log) × (slice_index i k ≡ picked base log k n)) (λ k lt.
    let w = number_among (slice_index i k) (possible base log k) (may_among base log i may k lt) in
    let whole : w.0 % length (possible base log k) ≡ w.0 = mod-eq_of_lt w.1 in
    (w.0, (omega (arith, w.1, (possible_many base log k).1), sym (w.2) ∙ ap (λ n. slice_index (possible base log k) n) (sym whole))))
