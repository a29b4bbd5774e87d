-- How a fuse passes calls on, one after another.
use Rattle.std.proofs.Common.{◌≡◌, ◌≢◌, inl, inr, ℕ, ◌+◌, ◌<◌, min, Bool, true, false, List, length, take, slice_index, nat_lt, if◌then◌else◌, Result, is_err, refl, sym, ap, subst, ◌∙◌, arith, set, get_or-set_other, get_or-set_same}
use Rattle.std.proofs.lemmas.Bool.{cases_lt, cases_eq}
use Rattle.std.proofs.lemmas.Bool.Decides.{nat_tests}
use Rattle.std.proofs.lemmas.List.{get_or-take, length-take-le}
use Rattle.rom_model.specs.Faults.{counted}
use Rattle.rom_model.specs.Space.{ChangesOnly}
use Rattle.rom_model.proofs.Changes.{changes_wider}
use Rattle.rom_device.specs.Device.{ShownDevice, Runs, CountsCalls, Does, WritesWord, WritesMany, WritesUpTo}
use Rattle.rom_device.specs.Fuse.{inner_of, calls_left, own_faults_of, shown_by_fuse, Passes, PassesUpTo, FailsLast, MadeWrites}
use Rattle.rom_device.specs.declared.fuse.Fuse.{Fuse}
use Rattle.rom_device.proofs.Going.{does_by}
use Rattle.rom_device.proofs.Many.{many_on, many_only}

-- the first of these words, and one more
many_wider : (at : ℕ) (values : List ℕ) (k : ℕ) → k < length values → (x y : List ℕ) → WritesMany at (take k values) x y → WritesMany at (take (k + 1) values) x y
many_wider at values k lt x y many =
    let short : length (take k values) ≡ k = length-take-le k values (omega arith) in
    let long : length (take (k + 1) values) ≡ k + 1 = length-take-le (k + 1) values (omega arith) in
    record {
      only = changes_wider at (length (take (k + 1) values)) at (length (take k values)) (omega arith) (omega (arith, short, long)) x y many.only;
      either = λ j below. elim (cases_lt j k) [
        | inl within ↦ elim (many.either j (omega (arith, short))) [
          | inl stays ↦ inl stays
          | inr put ↦ inr (put ∙ get_or-take k values j 0 within ∙ sym (get_or-take (k + 1) values j 0 (omega (arith, within))))
        ]
        | inr past ↦ inl (many.only.behind (at + j) (omega (arith, short, past)))
      ];
    }

-- the words so far, where the next is written or stays
pub still_written : (at index v : ℕ) (values y z : List ℕ) → WritesWord (at + index) v y z → ((k : ℕ) → k < index → slice_index y (at + k) ≡ slice_index values k)
    → (k : ℕ) → k < index → slice_index z (at + k) ≡ slice_index values k
still_written at index v values y z (inl same) so_far k lt = ap (λ (l : List ℕ). slice_index l (at + k)) same ∙ so_far k lt
still_written at index v values y z (inr put) so_far k lt =
    let ne : at + k ≢ at + index = omega (arith, lt) in
    let other : slice_index (set y (at + index) v) (at + k) ≡ slice_index y (at + k) = rw get_or-set_other refl in
    ap (λ (l : List ℕ). slice_index l (at + k)) put ∙ other ∙ so_far k lt

put_there : (at index v : ℕ) (y z : List ℕ) → at + index < length y → z ≡ set y (at + index) v → slice_index z (at + index) ≡ v
put_there at index v y z inside put =
    let here : slice_index (set y (at + index) v) (at + index) ≡ v = rw get_or-set_same refl in
    ap (λ (l : List ℕ). slice_index l (at + index)) put ∙ here

pub now_written : (at index : ℕ) (values y z : List ℕ) → at + index < length y → z ≡ set y (at + index) (slice_index values index) → ((k : ℕ) → k < index → slice_index y (at + k) ≡ slice_index values k)
    → (k : ℕ) → k < index + 1 → slice_index z (at + k) ≡ slice_index values k
now_written at index values y z inside put so_far k lt = elim (cases_eq k index) [
  | inl same ↦ subst (λ (n : ℕ). slice_index z (at + n) ≡ slice_index values n) (sym same) (put_there at index (slice_index values index) y z inside put)
  | inr other ↦ still_written at index (slice_index values index) values y z (inr put) so_far k (omega (arith, lt, other))
]

pub writes_up_to : (at index : ℕ) (values x y z : List ℕ) → at + index < length y → ChangesOnly at index x y → ((k : ℕ) → k < index → slice_index y (at + k) ≡ slice_index values k)
    → WritesWord (at + index) (slice_index values index) y z → WritesUpTo at index values x z
writes_up_to at index values x y z inside only so_far writes = record {
  only = many_only at index (slice_index values index) x y z only writes;
  written = still_written at index (slice_index values index) values y z writes so_far;
  next = elim writes [
    | inl same ↦ inl (ap (λ (l : List ℕ). slice_index l (at + index)) same ∙ only.behind (at + index) (omega arith))
    | inr put ↦ inr (put_there at index (slice_index values index) y z inside put)
  ];
}

module _ {D : Type 0} (shown : ShownDevice D) where
  fails_on : {T E : Type 0} (a b c : D) (r w s : ℕ) (result : Result T E) → FailsLast shown false a b → CountsCalls shown r w s b c result → FailsLast shown (is_err result) a c
  fails_on a b c r w s result so_far counts =
      let by = λ (t : Bool) (is : is_err result ≡ t). counts.faults ∙ ap (λ (u : Bool). if u then counted (shown.faults b) else shown.faults b) is in
      record {
        none = λ is. by false is ∙ so_far.none refl;
        last = λ is. record { once = by true is ∙ ap counted (so_far.none refl); last = counts.failing ∙ is };
      }

  -- what the fuse's own images say of those within
  inner_runs : (step : List ℕ → List ℕ → Type 0) (b c : Fuse D) → Runs (shown_by_fuse shown) step b c → Runs shown step (inner_of b) (inner_of c)
  inner_runs step b c runs = record { later = runs.later; now = runs.now; nothing_else = runs.nothing_else; keeps = runs.keeps }

  -- one call more that is passed on
  pub made_writes_on : {T E : Type 0} (at : ℕ) (values : List ℕ) (k : ℕ) → k < length values → (a b c : Fuse D) (result : Result T E) → MadeWrites shown at values k false (inner_of a) (inner_of b)
      → Does (shown_by_fuse shown) (WritesWord (at + k) (slice_index values k)) b c → CountsCalls shown 0 1 0 (inner_of b) (inner_of c) result
      → MadeWrites shown at values (k + 1) (is_err result) (inner_of a) (inner_of c)
  made_writes_on at values k lt a b c result so_far does counts =
      let inside : k < length (take (k + 1) values) = omega (arith, length-take-le (k + 1) values (omega (arith, lt))) in
      let value : slice_index values k ≡ slice_index (take (k + 1) values) k = sym (get_or-take (k + 1) values k 0 (omega arith)) in
      let next : Does shown (WritesWord (at + k) (slice_index values k)) (inner_of b) (inner_of c) =
      record { size = does.size; words = does.words; images = λ told. inner_runs (WritesWord (at + k) (slice_index values k)) b c (does.images told); doubts = λ told. inner_runs (WritesWord (at + k) (slice_index values k)) b c (does.doubts told); fewer = does.fewer } in
      record {
        does = many_on shown at (take (k + 1) values) k inside (inner_of a) (inner_of b) (inner_of c)
            (does_by shown (WritesMany at (take k values)) (WritesMany at (take (k + 1) values)) (many_wider at values k lt) (inner_of a) (inner_of b) so_far.does)
            (subst (λ (v : ℕ). Does shown (WritesWord (at + k) v) (inner_of b) (inner_of c)) value next);
        reads_made = omega (arith, so_far.reads_made, counts.reads_made);
        writes_made = omega (arith, so_far.writes_made, counts.writes_made);
        syncs_made = omega (arith, so_far.syncs_made, counts.syncs_made);
        fails = fails_on (inner_of a) (inner_of b) (inner_of c) 0 1 0 result so_far.fails counts;
      }

  -- a call that went well was passed on
  pub was_passed : {T E : Type 0} (r w s : ℕ) (b c : Fuse D) (result : Result T E) → Passes shown r w s b c result → is_err result ≡ false → 0 < calls_left b
  was_passed r w s b c result passes well = elim (cases_eq (calls_left b) 0) [
    | inl none ↦ let failed : is_err result ≡ true = (passes.spent none).0 in absurd (cc)
    | inr some ↦ omega (arith, some)
  ]

  -- the call of that number failed, or none did
  pub up_to_failed : {T E : Type 0} (Made : ℕ → Bool → D → D → Type 0) (well len : ℕ) (r w s : ℕ) (a b c : Fuse D) (result : Result T E) → well < len
      → calls_left b + well ≡ calls_left a → own_faults_of b ≡ own_faults_of a → Passes shown r w s b c result
      → Made well false (inner_of a) (inner_of b) → (0 < calls_left b → Made (well + 1) true (inner_of a) (inner_of c)) → PassesUpTo Made well len a c
  up_to_failed Made well len r w s a b c result lt left own passes so_far more =
      let tried : well + 1 ≡ min (well + 1) len = omega (arith, lt) in
      let fails : true ≡ nat_lt well len = sym (grind (arith, nat_tests)) in
      record {
        within = omega (arith, lt);
        left = omega (arith, passes.left, left, lt);
        passed = λ le.
            let some : 0 < calls_left b = omega (arith, le, left, lt) in
            (subst (λ (n : ℕ). Made n (nat_lt well len) (inner_of a) (inner_of c)) tried (subst (λ (t : Bool). Made (well + 1) t (inner_of a) (inner_of c)) fails (more some)), (passes.passed some).1 ∙ own);
        spent = λ none.
            let over : calls_left b ≡ 0 = omega (arith, none, left, lt) in
            let past = passes.spent over in
            (omega (arith, over, left), subst (λ (d : D). Made well false (inner_of a) d) (sym past.1) so_far, past.2 ∙ ap counted own);
      }
