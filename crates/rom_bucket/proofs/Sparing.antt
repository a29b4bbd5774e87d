-- What calls store one after another, where they change different words.
use Rattle.std.proofs.Common.{◌≡◌, ◌≢◌, ◌⊎◌, inl, inr, ℕ, ◌+◌, ◌<◌, ◌≤◌, List, length, get_or, set, ◌∙◌, ap, subst, sym, arith}
use Rattle.std.proofs.lemmas.Bool.{cases_lt}
use Rattle.rom_model.specs.Space.{ShownSpace, Counts, Looks, IsSparing, ChangesOnly, differing}
use Rattle.rom_model.proofs.Changes.{changes_set}
use Rattle.rom_block.proofs.Apart.{sparing_then, sparing_store}

module _ {M : Type 0} (shown : ShownSpace M) where
  -- a call after loads alone
  pub sparing_after : {loads : ℕ} (a b c : M) → Looks shown loads a b → IsSparing shown b c → IsSparing shown a c
  sparing_after {loads} a b c looks next told = omega (arith, next told, looks.costs.most_stores told, ap (λ (w : List ℕ). differing w (shown.image c)) looks.image)

  pub sparing_load : (a b c : M) → shown.image b ≡ shown.image a → Counts shown 1 0 a b → IsSparing shown b c → IsSparing shown a c
  sparing_load a b c image counts next told = omega (arith, next told, counts.stores_made told, ap (λ (w : List ℕ). differing w (shown.image c)) image)

  -- a range first, and then other words
  pub sparing_range : (at len : ℕ) (a b c : M) → ChangesOnly at len (shown.image a) (shown.image b) → length (shown.image c) ≡ length (shown.image b)
      → ((k : ℕ) → at ≤ k → k < at + len → get_or (shown.image c) k 0 ≡ get_or (shown.image b) k 0) → IsSparing shown a b → IsSparing shown b c → IsSparing shown a c
  sparing_range at len a b c only long stays = sparing_then shown a b c only.as_long long apart
    where
      apart : (k : ℕ) → (get_or (shown.image b) k 0 ≡ get_or (shown.image a) k 0) ⊎ (get_or (shown.image c) k 0 ≡ get_or (shown.image b) k 0)
      apart k = elim (cases_lt k at) [
        | inl less ↦ inl (only.before k less)
        | inr ge ↦ elim (cases_lt k (at + len)) [ inl inside ↦ inr (stays k ge inside) | inr behind ↦ inl (only.behind k behind) ]
      ]

  -- other words first, and then a range
  pub range_last : (at len : ℕ) (a b c : M) → length (shown.image b) ≡ length (shown.image a) → ChangesOnly at len (shown.image b) (shown.image c)
      → ((k : ℕ) → at ≤ k → k < at + len → get_or (shown.image b) k 0 ≡ get_or (shown.image a) k 0) → IsSparing shown a b → IsSparing shown b c → IsSparing shown a c
  range_last at len a b c long only stays = sparing_then shown a b c long only.as_long apart
    where
      apart : (k : ℕ) → (get_or (shown.image b) k 0 ≡ get_or (shown.image a) k 0) ⊎ (get_or (shown.image c) k 0 ≡ get_or (shown.image b) k 0)
      apart k = elim (cases_lt k at) [
        | inl less ↦ inr (only.before k less)
        | inr ge ↦ elim (cases_lt k (at + len)) [ inl inside ↦ inl (stays k ge inside) | inr behind ↦ inr (only.behind k behind) ]
      ]

  -- the size was loaded last, and another one stored
  pub then_size : (size : ℕ) (a b c d : M) (len : ℕ) → length (shown.image b) ≡ length (shown.image a) → get_or (shown.image b) size 0 ≡ get_or (shown.image a) size 0 → size < length (shown.image b) → get_or (shown.image b) size 0 ≢ len
      → shown.image c ≡ shown.image b → Counts shown 1 0 b c → shown.image d ≡ set (shown.image c) size len → Counts shown 0 1 c d → IsSparing shown a b → IsSparing shown a d
  then_size size a b c d len long same lt other load loads put stores first =
      let only : ChangesOnly size 1 (shown.image b) (shown.image d) = subst (λ (w : List ℕ). ChangesOnly size 1 (shown.image b) w) (sym (put ∙ ap (λ (w : List ℕ). set w size len) load)) (changes_set size 1 (shown.image b) size len (omega arith) (omega arith)) in
      let stays : (k : ℕ) → size ≤ k → k < size + 1 → get_or (shown.image b) k 0 ≡ get_or (shown.image a) k 0 = λ k ge less. (let here : size ≡ k = omega (arith, ge, less) in subst (λ j. get_or (shown.image b) j 0 ≡ get_or (shown.image a) j 0) here same) in
      range_last size 1 a b d long only stays first (sparing_load b c d load loads (sparing_store shown c d size len put (omega (arith, lt, ap length load)) (λ e. other (sym (ap (λ (w : List ℕ). get_or w size 0) load) ∙ e)) stores))
