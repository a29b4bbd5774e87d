-- Runs of calls of a device of which the first part is certain before the second begins.
use Rattle.std.proofs.Common.{◌≡◌, ◌≢◌, ◌⊎◌, inl, inr, ⊎_elim, ℕ, ◌+◌, ◌<◌, ◌≤◌, List, length, set, slice_index, subst, sym, ◌∙◌, refl, arith, length-set, get_or-set_other, get_or-set_same}
use Rattle.std.specs.Prelude.{IsTrue}
use Rattle.rom_device.specs.Device.{After, AreRenewed, AreSettled, Does, IsSynced, Runs, ShownDevice, Stays, TellsDoubts, WritesMany, WritesWord}
use Rattle.rom_device.proofs.Going.{does_then}
use Rattle.rom_name.specs.Identities.{WritesGuarded}

module _ {D : Type 0} (shown : ShownDevice D) (first second step : List ℕ → List ℕ → Type 0) (IsSure : List ℕ → Type 0)
    (keeps : (x y : List ℕ) → first x y → step x y) (joins : (x y z : List ℕ) → first x y → IsSure y → second y z → step x z) (a b c : D) where
  runs_sure : ((i : List ℕ) → shown.leaves b i → IsSure i) → Runs shown first a b → Runs shown second b c → Runs shown step a c
  runs_sure sure before behind = record {
    later = omega (arith, before.later, behind.later);
    now = λ i left. joined i (behind.now i left);
    nothing_else = λ t i left. ⊎_elim
        (λ past. ⊎_elim (λ old. inl old) (λ here. inr (kept i here)) (before.nothing_else t i past))
        (λ here. inr (joined i here))
        (behind.nothing_else t i left);
    keeps = λ t i le left. behind.keeps t i (omega (arith, le, before.later)) (before.keeps t i le left);
  }
    where
      kept : (i : List ℕ) → After first (shown.leaves a) i → After step (shown.leaves a) i
      kept i here = record { from = here.from; was = here.was; by = keeps here.from i here.by }

      joined : (i : List ℕ) → After second (shown.leaves b) i → After step (shown.leaves a) i
      joined i here = let from = before.now here.from here.was in record { from = from.from; was = from.was; by = joins from.from here.from i from.by (sure here.from here.was) here.by }

  -- what is sure of the words, and of each image that a stop may leave, when the second part begins
  pub does_sure : (IsTrue shown.tells_words → IsSure (shown.words b)) → (IsTrue shown.tells_images → (i : List ℕ) → shown.leaves b i → IsSure i)
      → (IsTrue shown.tells_doubts → (i : List ℕ) → shown.leaves b i → IsSure i) → Does shown first a b → Does shown second b c → Does shown step a c
  does_sure words images doubts before behind = record {
    size = behind.size ∙ before.size;
    words = λ told. joins (shown.words a) (shown.words b) (shown.words c) (before.words told) (words told) (behind.words told);
    images = λ told. runs_sure (images told) (before.images told) (behind.images told);
    doubts = λ told. runs_sure (doubts told) (before.doubts told) (behind.doubts told);
    fewer = λ at is. before.fewer at (behind.fewer at is);
  }

-- these words stand from that place on
abbrev pub AreThere : ℕ → List ℕ → List ℕ → Type 0
AreThere at values words = (k : ℕ) → k < length values → slice_index words (at + k) ≡ slice_index values k

module _ (at : ℕ) (values : List ℕ) (place guard : ℕ) (outside : (place < at) ⊎ (at + length values ≤ place)) where
  -- the words are written, and the one that says so is not
  pub only_written : (x y : List ℕ) → WritesMany at values x y → WritesGuarded at values place guard x y
  only_written x y many = record {
    as_long = many.only.as_long;
    others = λ k beside apart. ⊎_elim (λ low. many.only.before k low) (λ high. many.only.behind k high) beside;
    whole = inl (⊎_elim (λ low. many.only.before place low) (λ high. many.only.behind place high) outside);
  }

  -- then it may be
  pub then_guard : (x y z : List ℕ) → place < length y → WritesMany at values x y → AreThere at values y → WritesWord place guard y z → WritesGuarded at values place guard x z
  then_guard x y z long many there (inl same) = subst (λ (l : List ℕ). WritesGuarded at values place guard x l) (sym same) (only_written x y many)
  then_guard x y z long many there (inr put) = subst (λ (l : List ℕ). WritesGuarded at values place guard x l) (sym put) (record {
    as_long = length-set y place guard ∙ many.only.as_long;
    others = λ k beside apart. other k apart ∙ ⊎_elim (λ low. many.only.before k low) (λ high. many.only.behind k high) beside;
    whole = inr (rw get_or-set_same refl, λ k within. other (at + k) (⊎_elim (λ low. omega (arith, low)) (λ high. omega (arith, high, within)) outside) ∙ there k within);
  })
    where
      other : (k : ℕ) → k ≢ place → slice_index (set y place guard) k ≡ slice_index y k
      other k apart = rw get_or-set_other refl

-- Words are written, made certain, and then the word that says so may be written.
module _ {D : Type 0} (shown : ShownDevice D) (at : ℕ) (values : List ℕ) (place guard : ℕ) (outside : (place < at) ⊎ (at + length values ≤ place)) (a m b c : D) where
  abbrev IsSureHere : List ℕ → Type 0
  IsSureHere y = (place < length y) × AreThere at values y

  pub guarded_run : (IsTrue shown.tells_images → IsTrue shown.tells_words) → (IsTrue shown.tells_doubts → TellsDoubts shown) → (IsTrue shown.tells_words → length (shown.words b) ≡ shown.size b) → place < shown.size b
      → Does shown (WritesMany at values) a m → Does shown Stays m b → (IsTrue shown.tells_words → AreThere at values (shown.words m))
      → IsSynced shown b → (IsTrue shown.tells_doubts → AreSettled shown b) → AreRenewed shown at (length values) m
      → Does shown (WritesWord place guard) b c → Does shown (WritesGuarded at values place guard) a c
  guarded_run both doubts_told fit long writes syncs there synced settled renewed guards =
      does_sure shown (WritesMany at values) (WritesWord place guard) (WritesGuarded at values place guard) IsSureHere
      (λ x y many. only_written at values place guard outside x y many)
      (λ x y z many sure word. then_guard at values place guard outside x y z sure.0 many sure.1 word)
      a b c sure
      (λ told i left. subst IsSureHere (sym (synced told i left)) (sure (both told)))
      (λ told i left. (
        omega (arith, long, fit (doubts_told told).words, (doubts_told told).images_fit b i left),
        λ k within. ⊎_elim (λ same. same ∙ (sure (doubts_told told).words).1 k within) (λ doubted. absurd (renewed k within (syncs.fewer (at + k) doubted))) (settled told i left (at + k)),
      ))
      (does_then shown (WritesMany at values) a m b writes syncs) guards
    where
      sure : IsTrue shown.tells_words → IsSureHere (shown.words b)
      sure told = (omega (arith, long, fit told), subst (AreThere at values) (sym (syncs.words told)) (there told))
