-- Changes of different words, and what they store.
use Rattle.std.proofs.Common.{◌≡◌, ◌≢◌, ◌⊎◌, inl, inr, ℕ, suc, ◌+◌, ◌-◌, ◌*◌, ◌^◌, ◌<◌, List, [], ◌∷◌, length, get_or, set, refl, sym, ap, arith}
use Rattle.std.proofs.lemmas.Bool.{cases_lt}
use Rattle.std.specs.Prelude.{◌==◌, if◌then◌else◌}
use Rattle.std.proofs.lemmas.Bool.Decides.{nat_tests}
use Rattle.rom_model.specs.Space.{ShownSpace, Counts, Looks, IsSparing, ChangesOnly, differing}
use Rattle.rom_model.specs.Links.{KeepsTree}
use Rattle.rom_model.proofs.Nodes.{pow_positive}
use Rattle.rom_model.proofs.Differing.{differing_set}

is_same : (x y : ℕ) → x ≡ y → ◌≡◌ {A = ℕ} (if x == y then 0 else 1) 0
is_same x y e = grind (arith, nat_tests)

differing_self : (xs : List ℕ) → differing xs xs ≡ 0
differing_self [] = refl
differing_self (x ∷ xs) = omega (arith, is_same x x refl, differing_self xs)

-- Where no word changes twice, as many differ as in both changes.
differing_apart : (xs ys zs : List ℕ) → length ys ≡ length xs → length zs ≡ length ys → ((k : ℕ) → (get_or ys k 0 ≡ get_or xs k 0) ⊎ (get_or zs k 0 ≡ get_or ys k 0)) → differing xs zs ≡ differing xs ys + differing ys zs
differing_apart [] [] [] one two apart = refl
differing_apart [] [] (z ∷ zs) one two apart = absurd (omega arith)
differing_apart [] (y ∷ ys) zs one two apart = absurd (omega arith)
differing_apart (x ∷ xs) [] zs one two apart = absurd (omega arith)
differing_apart (x ∷ xs) (y ∷ ys) [] one two apart = absurd (omega arith)
differing_apart (x ∷ xs) (y ∷ ys) (z ∷ zs) one two apart =
    let rest = differing_apart xs ys zs (omega arith) (omega arith) (λ k. apart (suc k)) in
    elim (apart 0) [
      | inl stays ↦
          let same : y ≡ x = stays in
          let first : ◌≡◌ {A = ℕ} (if y == z then 0 else 1) (if x == z then 0 else 1) = ap (λ (a : ℕ). if a == z then 0 else 1) same in
          omega (arith, rest, is_same x y (sym same), first)
      | inr stays ↦
          let same : z ≡ y = stays in
          let second : ◌≡◌ {A = ℕ} (if x == z then 0 else 1) (if x == y then 0 else 1) = ap (λ (a : ℕ). if x == a then 0 else 1) same in
          omega (arith, rest, is_same y z (sym same), second)
    ]

module _ {M : Type 0} (shown : ShownSpace M) where
  -- calls that store no more than differs, and change different words
  pub sparing_then : (a b c : M) → length (shown.image b) ≡ length (shown.image a) → length (shown.image c) ≡ length (shown.image b)
      → ((k : ℕ) → (get_or (shown.image b) k 0 ≡ get_or (shown.image a) k 0) ⊎ (get_or (shown.image c) k 0 ≡ get_or (shown.image b) k 0))
      → IsSparing shown a b → IsSparing shown b c → IsSparing shown a c
  sparing_then a b c one two apart first second told = omega (arith, first told, second told, differing_apart (shown.image a) (shown.image b) (shown.image c) one two apart)

  -- a store of another word
  pub sparing_store : (a b : M) (k v : ℕ) → shown.image b ≡ set (shown.image a) k v → k < length (shown.image a) → get_or (shown.image a) k 0 ≢ v → Counts shown 0 1 a b → IsSparing shown a b
  sparing_store a b k v put lt other counts told =
      omega (arith, counts.stores_made told, differing_self (shown.image a), ap (differing (shown.image a)) put, differing_set (shown.image a) (shown.image a) k v refl lt refl other)

module _ {M : Type 0} (shown : ShownSpace M) (first old new : M) where
  -- one more, of a word that was as at the start and becomes another
  pub sparing_more : (k v : ℕ) → shown.image new ≡ set (shown.image old) k v → length (shown.image old) ≡ length (shown.image first) → k < length (shown.image first)
      → get_or (shown.image old) k 0 ≡ get_or (shown.image first) k 0 → get_or (shown.image first) k 0 ≢ v → Counts shown 0 1 old new → IsSparing shown first old → IsSparing shown first new
  sparing_more k v put long lt same other counts so_far told =
      omega (arith, so_far told, counts.stores_made told, ap (differing (shown.image first)) put, differing_set (shown.image first) (shown.image old) k v (sym long) (omega arith) same other)

  -- a load stores nothing
  pub sparing_load : shown.image new ≡ shown.image old → Counts shown 1 0 old new → IsSparing shown first old → IsSparing shown first new
  sparing_load image counts so_far told = omega (arith, so_far told, counts.stores_made told, ap (differing (shown.image first)) image)

  -- nor does a look before
  pub sparing_looks : {j : ℕ} → Looks shown j first old → IsSparing shown old new → IsSparing shown first new
  sparing_looks looks later told = omega (arith, later told, looks.costs.most_stores told, ap (λ ws. differing ws (shown.image new)) looks.image)

-- the tree's words, and others
pub tree_apart : (n : ℕ) (v w v' w' : List ℕ) → ChangesOnly 17 (2 * 2 ^ n - 1) v w → KeepsTree n v' w' → (k : ℕ) → (get_or w k 0 ≡ get_or v k 0) ⊎ (get_or w' k 0 ≡ get_or v' k 0)
tree_apart n v w v' w' only keeps k = elim (cases_lt k 17) [
  | inl low ↦ inl (only.before k low)
  | inr least ↦ elim (cases_lt k (16 + 2 * 2 ^ n)) [ inl most ↦ inr (keeps k least (omega (arith, most))) | inr late ↦ inl (only.behind k (omega (arith, late, pow_positive n))) ]
]
