-- A well-formed region passes all parts of the inspection.
use Rattle.std.proofs.Common.{◌≡◌, inl, inr, ℕ, zero, suc, ◌+◌, ◌-◌, ◌^◌, ◌<◌, ◌≤◌, true, List, [], ◌∷◌, ◌++◌, length, refl, sym, ◌∙◌, ap, arith, length-append}
use Rattle.std.specs.Prelude.{Ok, Err, slice_index, nat_le}
use Rattle.std.proofs.lemmas.Bool.{cases_lt, le-leb, lt-ltb}
use Rattle.rom_model.specs.State.{State}
use Rattle.rom_model.specs.Blocks.{block_of}
use Rattle.rom_model.specs.Chains.{times, Chain, each_word, HoldZero}
use Rattle.rom_model.specs.Rising.{IsRising}
use Rattle.rom_model.specs.Region.{Chains, buckets, bucket_of, all_of, map_blocks, element_blocks, taken_by, IsShape}
use Rattle.rom_model.specs.declared.unfit.Rule.TheVariants as rule
use Rattle.rom_model.proofs.Times.{times-append, times_here, times_more, times_bucket}
use Rattle.rom_model.proofs.Rising.{rising_tail}
use Rattle.rom_model.proofs.Members.{words_same}
use Rattle.rom_model.proofs.Room.{times_members}
use Rattle.rom_model.specs.declared.unfit.Break.{Break}
use Rattle.rom_heap.specs.declared.inspect.version.Version.{Version}
use Rattle.rom_heap.specs.declared.inspect.version.Version.TheVariants as version
use Rattle.rom_heap.specs.declared.inspect.walk.Walk.{Walk}
use Rattle.rom_heap.specs.declared.inspect.walk.Walk.TheVariants as along
use Rattle.rom_model.specs.Tests.{checked, test, is_word, are_zero}
use Rattle.rom_heap.specs.Tests.{number_of, newest, root_tests}
use Rattle.rom_heap.specs.Walks.{bucket_walk, key_of, is_above, first_link, next_word, next_link, node_tests, Reaches, Walks}
use Rattle.rom_heap.specs.Parts.{OneByOne, FirstBreak}
use Rattle.rom_heap.specs.Answers.{IsFit}
use Rattle.rom_model.proofs.Outcomes.{not_both, one_err}
use Rattle.rom_heap.proofs.Outcomes.{inspection_single}
use Rattle.rom_model.proofs.Holding.{word_holds, holds_more, zeros_hold}
use Rattle.rom_heap.proofs.Holding.{queue_holds, set_holds, old_holds, bucket_holds}
use Rattle.rom_heap.proofs.Onward.{onward, times_onward, length_onward, last_onward}
use Rattle.rom_heap.proofs.Passing.{HavePassed, passed_all}
use Rattle.rom_heap.proofs.Wellformed.{same_taken}

-- the blocks pass their tests, behind these
abbrev pub Fit : ℕ → List ℕ → Walk → List ℕ → List ℕ → Type 0
Fit n w walk bs [] = Unit {0}
Fit n w walk bs (c ∷ cs) = (checked (node_tests n w walk bs c) ≡ Ok tt) × Fit n w walk (c ∷ bs) cs

module _ (n : ℕ) (w : List ℕ) (walk : Walk) (seen : List ℕ) where
  -- a chain is walked to its end
  pub walk_along : (bs cs : List ℕ) → Reaches n w walk seen bs → Chain n w (next_link n walk bs) (next_word walk) cs → Fit n w walk bs cs
      → ((c : ℕ) → 0 < times c cs → (2 ^ (n - 4) ≤ c) × (c < 2 ^ n)) → ((c : ℕ) → times c cs + times c (bs ++ seen) ≤ 1) → Walks n w walk seen (Ok (onward cs bs))
  walk_along bs [] reach chain fit within once = (reach, chain)
  walk_along bs (c ∷ cs) reach chain fit within once =
      let at = within c (omega (arith, times_here c cs)) in
      walk_along (c ∷ bs) cs
      (reach, record { here = chain.0; least = at.0; most = at.1; fresh = (let none : times c (bs ++ seen) ≡ 0 = omega (arith, once c, times_here c cs) in none) }, fit.0)
      chain.1 fit.1
      (λ d some. within d (omega (arith, some, times_more d c cs)))
      (λ d. omega (arith, once d))

module _ (n : ℕ) (w : List ℕ) where
  queue_fits : (bs cs : List ℕ) → HoldZero n w 2 cs → HoldZero n w 3 cs → Fit n w along.Queue bs cs
  queue_fits bs [] third fourth = tt
  queue_fits bs (c ∷ cs) third fourth = (
    queue_holds n w bs c (third c (omega (arith, times_here c cs))) (fourth c (omega (arith, times_here c cs))),
    queue_fits (c ∷ bs) cs (λ d some. third d (omega (arith, some, times_more d c cs))) (λ d some. fourth d (omega (arith, some, times_more d c cs))),
  )

  -- the first key is above that of the last block
  abbrev Above : List ℕ → List ℕ → Type 0
  Above bs [] = Unit {0}
  Above bs (c ∷ cs) = is_above n w bs (key_of n w c) ≡ true

  next_above : (bs : List ℕ) (c : ℕ) (cs : List ℕ) → IsRising (each_word n w 0 (c ∷ cs)) → Above (c ∷ bs) cs
  next_above bs c [] rising = tt
  next_above bs c (d ∷ cs) rising = lt-ltb (key_of n w c) (key_of n w d) rising.0

  set_fits : (bs cs : List ℕ) → HoldZero n w 2 cs → HoldZero n w 3 cs → IsRising (each_word n w 0 cs) → Above bs cs → Fit n w along.Set bs cs
  set_fits bs [] third fourth rising above = tt
  set_fits bs (c ∷ cs) third fourth rising above = (
    set_holds n w bs c (third c (omega (arith, times_here c cs))) (fourth c (omega (arith, times_here c cs))) above,
    set_fits (c ∷ bs) cs (λ d some. third d (omega (arith, some, times_more d c cs))) (λ d some. fourth d (omega (arith, some, times_more d c cs))) (rising_tail (key_of n w c) (each_word n w 0 cs) rising) (next_above bs c cs rising),
  )

  old_fits : (i : ℕ) (bs cs : List ℕ) → HoldZero n w 3 cs → ((c : ℕ) → 0 < times c cs → bucket_of n (key_of n w c) ≡ i) → ((key : ℕ) → times key (each_word n w 0 bs) + times key (each_word n w 0 cs) ≤ 1) → Fit n w (along.OldBucket i) bs cs
  old_fits i bs [] fourth own once = tt
  old_fits i bs (c ∷ cs) fourth own once = (
    old_holds n w bs c i (fourth c (omega (arith, times_here c cs))) (own c (omega (arith, times_here c cs)))
        (let none : times (key_of n w c) (each_word n w 0 bs) ≡ 0 = omega (arith, once (key_of n w c), times_here (key_of n w c) (each_word n w 0 cs)) in none),
    old_fits i (c ∷ bs) cs (λ d some. fourth d (omega (arith, some, times_more d c cs))) (λ d some. own d (omega (arith, some, times_more d c cs))) (λ key. omega (arith, once key)),
  )

  bucket_fits : (i : ℕ) (bs cs : List ℕ) → ((c : ℕ) → 0 < times c cs → slice_index w (block_of n c + 3) ≤ slice_index w 2) → ((c : ℕ) → 0 < times c cs → bucket_of n (key_of n w c) ≡ i)
      → IsRising (each_word n w 0 cs) → Above bs cs → Fit n w (along.Bucket i) bs cs
  bucket_fits i bs [] stamps own rising above = tt
  bucket_fits i bs (c ∷ cs) stamps own rising above = (
    bucket_holds n w bs c i (stamps c (omega (arith, times_here c cs))) (own c (omega (arith, times_here c cs))) above,
    bucket_fits i (c ∷ bs) cs (λ d some. stamps d (omega (arith, some, times_more d c cs))) (λ d some. own d (omega (arith, some, times_more d c cs))) (rising_tail (key_of n w c) (each_word n w 0 cs) rising) (next_above bs c cs rising),
  )

  first_above : (cs : List ℕ) → Above [] cs
  first_above [] = tt
  first_above (c ∷ cs) = refl

times_first : (f : ℕ → List ℕ) (c k m : ℕ) → k ≤ m → times c (all_of f k) ≤ times c (all_of f m)
times_first f c k zero le = let e : k ≡ 0 = omega arith in omega (arith, ap (λ i. times c (all_of f i)) e)
times_first f c k (suc m) le = elim (cases_lt k (suc m)) [
  | inl lt ↦ omega (arith, times_first f c k m (omega (arith, lt)), times-append c (all_of f m) (f m))
  | inr ge ↦ let e : k ≡ suc m = omega arith in omega (arith, ap (λ i. times c (all_of f i)) e)
]

-- the chains with the numbers below k were walked
pub record Walked (n : ℕ) (w : List ℕ) (walks : ℕ → Walk) (seen : List ℕ) (k : ℕ) (chains : ℕ → List ℕ) : Type 0 where
  pub blocks : List ℕ
  pub walk : OneByOne n w walks seen k (Ok blocks)
  pub same : (c : ℕ) → times c blocks ≡ times c (all_of chains k)
  pub long : length blocks ≡ length (all_of chains k)

-- chains whose blocks are apart are walked one by one
module _ (n : ℕ) (w : List ℕ) (walks : ℕ → Walk) (seen : List ℕ) (m : ℕ) (chains : ℕ → List ℕ)
    (are : (i : ℕ) → i < m → Chain n w (first_link n (walks i)) (next_word (walks i)) (chains i))
    (fit : (i : ℕ) → i < m → Fit n w (walks i) [] (chains i))
    (lie : (c : ℕ) → 0 < times c (all_of chains m) → (2 ^ (n - 4) ≤ c) × (c < 2 ^ n))
    (apart : (c : ℕ) → times c (all_of chains m) + times c seen ≤ 1) where
  pub walk_all : (k : ℕ) → k ≤ m → Walked n w walks seen k chains
  walk_all zero le = record { blocks = []; walk = refl; same = λ c. refl; long = refl }
  walk_all (suc k) le =
      let lt : k < m = omega arith in
      let before = walk_all k (omega arith) in
      let bs = onward (chains k) [] in
      let among : (c : ℕ) → times c (all_of chains k) + times c (chains k) ≤ times c (all_of chains m) = (λ c. omega (arith, times-append c (all_of chains k) (chains k), times_first chains c (suc k) m le)) in
      let more : Walks n w (walks k) (before.blocks ++ seen) (Ok bs) = walk_along n w (walks k) (before.blocks ++ seen) [] (chains k) tt (are k lt) (fit k lt)
      (λ c some. lie c (omega (arith, some, among c)))
      (λ c. omega (arith, apart c, among c, before.same c, times-append c before.blocks seen)) in
      record {
        blocks = bs ++ before.blocks;
        walk = (before.blocks, before.walk, (bs, more, refl));
        same = λ c. omega (arith, times-append c bs before.blocks, times_onward c (chains k) [], before.same c, times-append c (all_of chains k) (chains k));
        long = omega (arith, length-append bs before.blocks, length_onward (chains k) [], before.long, length-append (all_of chains k) (chains k));
      }

module _ (v : Version) (n : ℕ) (w : List ℕ) (p : Chains) (st : State) (count : ℕ) (shape : IsShape n w p st count) (number : slice_index w 1 ≡ number_of v)
    (chains : (i : ℕ) → i < buckets n → Chain n w (first_link n (bucket_walk v i)) (next_word (bucket_walk v i)) (p.bucket i))
    (map_fits : (i : ℕ) → i < buckets n → Fit n w (bucket_walk v i) [] (p.bucket i)) where
  root_holds : checked (root_tests v n w) ≡ Ok tt
  root_holds =
      let root = shape.root in
      let zeros = are_zero w 10 7 rule.Root in
      let t8 = is_word w 8 rule.Root (block_of n 0) in
      let t2 = test 2 rule.Root (nat_le (slice_index w 2) (2 ^ 62)) in
      let t1 = is_word w 1 rule.Root (number_of v) in
      word_holds w 0 rule.Root 1 (t1 ∷ t2 ∷ t8 ∷ zeros) tt root.kind
      ∙ (word_holds w 1 rule.Root (number_of v) (t2 ∷ t8 ∷ zeros) tt number
      ∙ (holds_more t2 (t8 ∷ zeros) tt (le-leb (slice_index w 2) (2 ^ 62) (let fits : slice_index w 2 ≤ 2 ^ 62 = omega (arith, root.count_is, root.count_fits) in fits))
      ∙ (word_holds w 8 rule.Root (block_of n 0) zeros tt root.table
      ∙ zeros_hold w 10 7 rule.Root (λ k lt. root.zeros (10 + k) (omega arith) (omega (arith, lt))))))

  apart : (c : ℕ) → times c p.queue + times c p.set + times c (map_blocks n p) ≤ 1
  apart c = omega (arith, times_members n p c, shape.different c)

  inside : (c : ℕ) → 0 < times c p.queue + times c p.set + times c (map_blocks n p) → (2 ^ (n - 4) ≤ c) × (c < 2 ^ n)
  inside c some = shape.within c (omega (arith, times_members n p c, some))

  abbrev q : List ℕ
  q = onward p.queue []

  abbrev s : List ℕ
  s = onward p.set []

  queue_walks : Walks n w along.Queue [] (Ok q)
  queue_walks = walk_along n w along.Queue [] [] p.queue tt shape.queue.chain (queue_fits n w [] p.queue shape.queue.third shape.queue.fourth) (λ c some. inside c (omega (arith, some))) (λ c. omega (arith, apart c))

  set_walks : Walks n w along.Set (q ++ []) (Ok s)
  set_walks =
      walk_along n w along.Set (q ++ []) [] p.set tt shape.set.chain (set_fits n w [] p.set shape.set.third shape.set.fourth shape.set.rising (first_above n w p.set)) (λ c some. inside c (omega (arith, some)))
      (λ c. omega (arith, apart c, times-append c q [], times_onward c p.queue []))

  abbrev seen : List ℕ
  seen = s ++ (q ++ [])

  times_seen : (c : ℕ) → times c seen ≡ times c p.set + times c p.queue
  times_seen c = omega (arith, times-append c s (q ++ []), times-append c q [], times_onward c p.queue [], times_onward c p.set [])

  pub map_walks : Walked n w (bucket_walk v) seen (buckets n) p.bucket
  map_walks =
      walk_all n w (bucket_walk v) seen (buckets n) p.bucket chains map_fits (λ c some. inside c (omega (arith, some))) (λ c. omega (arith, apart c, times_seen c)) (buckets n) (omega arith)

  abbrev walked : Walked n w (bucket_walk v) seen (buckets n) p.bucket
  walked = map_walks

  pub have_passed : HavePassed v n w q s walked.blocks
  have_passed = record {
    root = root_holds;
    queue = queue_walks;
    queue_ends =
        word_holds w 4 rule.Ends (newest n q) (is_word w 5 rule.Count (length q) ∷ []) tt (shape.queue.tail ∙ last_newest p.queue)
        ∙ word_holds w 5 rule.Count (length q) [] tt (let e : slice_index w 5 ≡ length q = omega (arith, shape.queue.len, length_onward p.queue []) in e);
    set = set_walks;
    set_ends = word_holds w 7 rule.Count (length s) [] tt (let e : slice_index w 7 ≡ length s = omega (arith, shape.set.len, length_onward p.set []) in e);
    map = walked.walk;
    map_ends = word_holds w 9 rule.Count (length walked.blocks) [] tt (let e : slice_index w 9 ≡ length walked.blocks = omega (arith, shape.map.len, walked.long) in e);
    tree = words_same n (taken_by n (element_blocks n p)) (taken_by n (walked.blocks ++ seen)) w (same_taken n (element_blocks n p) (walked.blocks ++ seen) (λ c. let e : times c (element_blocks n p) ≡ times c (walked.blocks ++ seen) = omega (arith, times_members n p c, times-append c walked.blocks seen, times_seen c, walked.same c) in e)) shape.tree;
  }
    where
      twice : (bs cs : List ℕ) → onward (onward bs cs) [] ≡ onward cs bs
      twice [] cs = refl
      twice (b ∷ bs) cs = twice bs (b ∷ cs)

      last_newest : (cs : List ℕ) → Rattle.rom_model.specs.Chains.last_of n cs ≡ newest n (onward cs [])
      last_newest cs = ap (λ (xs : List ℕ). Rattle.rom_model.specs.Chains.last_of n xs) (sym (twice cs [])) ∙ last_onward n (onward cs [])

-- what a well-formed region passes
pub record Passes (v : Version) (n : ℕ) (w : List ℕ) : Type 0 where
  pub q : List ℕ
  pub s : List ℕ
  pub m : List ℕ
  pub passed : HavePassed v n w q s m

pub passes : (v : Version) {n : ℕ} {w : List ℕ} → IsFit v n w → Passes v n w
passes version.Old {n} {w} is =
    let p = is.contents.0 in
    let r = is.contents.1 in
    let fits : (i : ℕ) → i < buckets n → Fit n w (along.OldBucket i) [] (p.bucket i) =
    (λ i lt. old_fits n w i [] (p.bucket i) (λ c some. r.version.fourth c (omega (arith, some, times_bucket p.bucket (buckets n) i c lt))) (λ c some. r.shape.map.own_bucket i c lt some) (λ key. omega (arith, r.version.keys_differ i key lt))) in
    record { q = _; s = _; m = _; passed = have_passed version.Old n w p is.state is.count r.shape r.version.version r.shape.map.chains fits }
passes version.Now {n} {w} is =
    let p = is.contents.0 in
    let r = is.contents.1 in
    let fits : (i : ℕ) → i < buckets n → Fit n w (along.Bucket i) [] (p.bucket i) =
    (λ i lt. bucket_fits n w i [] (p.bucket i) (λ c some. omega (arith, r.version.stamps c (omega (arith, some, times_bucket p.bucket (buckets n) i c lt)), r.shape.root.count_is)) (λ c some. r.shape.map.own_bucket i c lt some) (r.version.rising i lt) (first_above n w (p.bucket i))) in
    record { q = _; s = _; m = _; passed = have_passed version.Now n w p is.state is.count r.shape r.version.version r.shape.map.chains fits }

-- a well-formed region breaks nowhere
pub breaks_nowhere : (v : Version) {n : ℕ} {w : List ℕ} (e : Break) → FirstBreak v n w e → IsFit v n w → ⊥
breaks_nowhere v {n} {w} e broke is = let p = passes v is in not_both (p.m ++ (p.s ++ (p.q ++ []))) e (inspection_single v n w (Ok (p.m ++ (p.s ++ (p.q ++ [])))) (Err e) (passed_all v n w p.q p.s p.m p.passed) broke)

pub breaks_once : (v : Version) {n : ℕ} {w : List ℕ} (e d : Break) → FirstBreak v n w e → FirstBreak v n w d → e ≡ d
breaks_once v {n} {w} e d broke also = one_err {A = List ℕ} e d (inspection_single v n w (Err e) (Err d) broke also)
