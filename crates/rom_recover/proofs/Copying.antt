-- Copies that go on with one more piece.
use Rattle.std.proofs.Common.{IsTrue, ◌≡◌, ◌⊎◌, inl, inr, ℕ, ◌+◌, ◌-◌, ◌<◌, ◌≤◌, List, length, slice_index, refl, arith, sym, ap, subst, ◌∙◌}
use Rattle.std.proofs.lemmas.Bool.{cases_lt}
use Rattle.rom_model.specs.Space.{ChangesOnly}
use Rattle.rom_model.proofs.Changes.{changes_none, changes_joins, changes_wider}
use Rattle.rom_device.specs.Device.{ShownDevice, AreRenewed, Does, DoubtsNoMore, OnlyReads, Stays, WritesMany}
use Rattle.rom_device.proofs.Going.{does_by, runs_by, runs_on}
use Rattle.rom_recover.specs.Copied.{Copied, CopiesSome}

-- words beside the range that was written
outside : (at len : ℕ) (old new : List ℕ) → ChangesOnly at len old new → (k : ℕ) → (k < at) ⊎ (at + len ≤ k) → slice_index new k ≡ slice_index old k
outside at len old new within k (inl before) = within.before k before
outside at len old new within k (inr behind) = within.behind k behind

-- a word of the source is beside the range
beside : (from to len k : ℕ) → (from + len ≤ to) ⊎ (to + len ≤ from) → k < len → (from + k < to) ⊎ (to + len ≤ from + k)
beside from to len k (inl below) lt = inl (omega arith)
beside from to len k (inr above) lt = inr (omega arith)

-- the source of a copy stays
pub source_stays : (from to len : ℕ) (old mid : List ℕ) → (from + len ≤ to) ⊎ (to + len ≤ from) → ChangesOnly to len old mid → (k : ℕ) → k < len → slice_index mid (from + k) ≡ slice_index old (from + k)
source_stays from to len old mid apart only k lt = outside to len old mid only (from + k) (beside from to len k apart lt)

pub copied_on : (from to len done count : ℕ) (old mid new : List ℕ) → (from + len ≤ to) ⊎ (to + len ≤ from) → done + count ≤ len
    → ChangesOnly to len old mid → Copied from to done old mid → ChangesOnly (to + done) count mid new → Copied (from + done) (to + done) count mid new
    → Copied from to (done + count) old new
copied_on from to len done count old mid new apart fits before so_far within copied k lt = elim (cases_lt k done) [
  | inl earlier ↦ within.before (to + k) (omega (arith, earlier)) ∙ so_far k earlier
  | inr now ↦
      let there : to + done + (k - done) ≡ to + k = omega (arith, now) in
      let here : from + done + (k - done) ≡ from + k = omega (arith, now) in
      ap (slice_index new) (sym there) ∙ copied (k - done) (omega (arith, lt, now)) ∙ ap (slice_index mid) here ∙ source_stays from to len old mid apart before k (omega (arith, lt, fits))
]

pub copies_none : (source : List ℕ) (from to len : ℕ) (x : List ℕ) → CopiesSome source from to len x x
copies_none source from to len x = record { only = changes_none to len x; either = λ k lt. inl refl }

pub copies_joins : (source : List ℕ) (from to len : ℕ) (x y z : List ℕ) → CopiesSome source from to len x y → CopiesSome source from to len y z → CopiesSome source from to len x z
copies_joins source from to len x y z first second = record {
  only = changes_joins to len x y z first.only second.only;
  either = λ k lt. elim (second.either k lt) [
    | inl stays ↦ elim (first.either k lt) [
      | inl stayed ↦ inl (stays ∙ stayed)
      | inr put ↦ inr (stays ∙ put)
    ]
    | inr put ↦ inr put
  ];
}

-- a piece of a copy, whose source has the words there that the whole source has
pub copies_wider : (source mid : List ℕ) (from to len done count : ℕ) → done + count ≤ len → ((k : ℕ) → k < len → slice_index mid (from + k) ≡ slice_index source (from + k))
    → (x y : List ℕ) → CopiesSome mid (from + done) (to + done) count x y → CopiesSome source from to len x y
copies_wider source mid from to len done count fits same x y piece = record {
  only = changes_wider to len (to + done) count (omega arith) (omega (arith, fits)) x y piece.only;
  either = λ k lt. elim (cases_lt k done) [
    | inl earlier ↦ inl (piece.only.before (to + k) (omega (arith, earlier)))
    | inr now ↦ elim (cases_lt k (done + count)) [
      | inl inside ↦
          let there : to + done + (k - done) ≡ to + k = omega (arith, now) in
          let here : from + done + (k - done) ≡ from + k = omega (arith, now) in
          elim (piece.either (k - done) (omega (arith, now, inside))) [
            | inl stays ↦ inl (ap (slice_index y) (sym there) ∙ stays ∙ ap (slice_index x) there)
            | inr put ↦ inr (ap (slice_index y) (sym there) ∙ put ∙ ap (slice_index mid) here ∙ same k lt)
          ]
      | inr later ↦ inl (piece.only.behind (to + k) (omega (arith, later)))
    ]
  ];
}

module _ {D : Type 0} (shown : ShownDevice D) where
  -- words that were read are written
  pub does_copies : (from to : ℕ) (source values : List ℕ) → ((k : ℕ) → k < length values → slice_index values k ≡ slice_index source (from + k))
      → (a b : D) → Does shown (WritesMany to values) a b → Does shown (CopiesSome source from to (length values)) a b
  does_copies from to source values read = does_by shown (WritesMany to values) (CopiesSome source from to (length values)) (λ x y many. record {
    only = many.only;
    either = λ k lt. elim (many.either k lt) [
      | inl stays ↦ inl stays
      | inr put ↦ inr (put ∙ read k lt)
    ];
  })

  -- a piece that was read is written
  pub piece_does : (IsTrue shown.tells_images → IsTrue shown.tells_words) → (IsTrue shown.tells_doubts → IsTrue shown.tells_words) → (from to count : ℕ) (values : List ℕ) (a b c : D) → OnlyReads shown a b → Does shown (WritesMany to values) b c
      → length values ≡ count → (IsTrue shown.tells_words → (k : ℕ) → k < count → slice_index values k ≡ slice_index (shown.words a) (from + k)) → Does shown (CopiesSome (shown.words a) from to count) a c
  piece_does both doubts_both from to count values a b c only write size read = record {
    size = write.size ∙ only.size;
    words = λ told. copies told (shown.words a) (shown.words c) (subst (λ (l : List ℕ). WritesMany to values l (shown.words c)) (only.words told) (write.words told));
    images = λ told. runs_on shown step (copies_joins (shown.words a) from to count) a b c (runs_by shown Stays step still a b (only.images told)) (runs_by shown (WritesMany to values) step (copies (both told)) b c (write.images told));
    doubts = λ told. runs_on shown step (copies_joins (shown.words a) from to count) a b c (runs_by shown Stays step still a b (only.doubts told)) (runs_by shown (WritesMany to values) step (copies (doubts_both told)) b c (write.doubts told));
    fewer = λ at is. only.fewer at (write.fewer at is);
  }
    where
      step : List ℕ → List ℕ → Type 0
      step = CopiesSome (shown.words a) from to count

      still : (x y : List ℕ) → Stays x y → step x y
      still x y same = subst (λ (l : List ℕ). step x l) (sym same) (copies_none (shown.words a) from to count x)

      copies : IsTrue shown.tells_words → (x y : List ℕ) → WritesMany to values x y → step x y
      copies told x y many = record {
        only = subst (λ (n : ℕ). ChangesOnly to n x y) size many.only;
        either = λ k lt. elim (many.either k (omega (arith, lt, size))) [
          | inl stays ↦ inl stays
          | inr put ↦ inr (put ∙ read told k lt)
        ];
      }

  -- places that are not in doubt, and those of one piece more
  pub renewed_piece : (to done count : ℕ) (b c : D) → DoubtsNoMore shown b c → AreRenewed shown to done b → AreRenewed shown (to + done) count c → AreRenewed shown to (done + count) c
  renewed_piece to done count b c fewer so_far piece k lt is = elim (cases_lt k done) [
    | inl before ↦ so_far k before (fewer (to + k) is)
    | inr past ↦
        let there : to + k ≡ to + done + (k - done) = omega (arith, past) in
        piece (k - done) (omega (arith, lt, past)) (subst (λ (at : ℕ). shown.doubted c at) there is)
  ]

  -- one piece more
  pub does_piece : (IsTrue shown.tells_images → IsTrue shown.tells_words) → (IsTrue shown.tells_doubts → IsTrue shown.tells_words) → (from to len done count : ℕ) → (from + len ≤ to) ⊎ (to + len ≤ from) → done + count ≤ len → (a b c : D)
      → Does shown (CopiesSome (shown.words a) from to len) a b → Does shown (CopiesSome (shown.words b) (from + done) (to + done) count) b c
      → Does shown (CopiesSome (shown.words a) from to len) a c
  does_piece both doubts_both from to len done count apart fits a b c so_far piece = record {
    size = piece.size ∙ so_far.size;
    words = λ told. copies_joins (shown.words a) from to len (shown.words a) (shown.words b) (shown.words c) (so_far.words told) (wide told (shown.words b) (shown.words c) (piece.words told));
    images = λ told. runs_on shown (CopiesSome (shown.words a) from to len) (copies_joins (shown.words a) from to len) a b c (so_far.images told)
        (runs_by shown (CopiesSome (shown.words b) (from + done) (to + done) count) (CopiesSome (shown.words a) from to len) (wide (both told)) b c (piece.images told));
    doubts = λ told. runs_on shown (CopiesSome (shown.words a) from to len) (copies_joins (shown.words a) from to len) a b c (so_far.doubts told)
        (runs_by shown (CopiesSome (shown.words b) (from + done) (to + done) count) (CopiesSome (shown.words a) from to len) (wide (doubts_both told)) b c (piece.doubts told));
    fewer = λ at is. so_far.fewer at (piece.fewer at is);
  }
    where
      wide : IsTrue shown.tells_words → (x y : List ℕ) → CopiesSome (shown.words b) (from + done) (to + done) count x y → CopiesSome (shown.words a) from to len x y
      wide told = copies_wider (shown.words a) (shown.words b) from to len done count fits
          (source_stays from to len (shown.words a) (shown.words b) apart (so_far.words told).only)
