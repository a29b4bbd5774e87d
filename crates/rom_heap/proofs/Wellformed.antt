-- A region that passed all parts of the inspection is well-formed.
use Rattle.std.proofs.Common.{◌≡◌, ◌≢◌, inl, inr, ℕ, zero, suc, ◌+◌, ◌-◌, ◌^◌, ◌<◌, ◌≤◌, Bool, true, false, List, [], ◌∷◌, ◌++◌, length, refl, sym, ◌∙◌, ap, subst, arith, length-append, append_assoc}
use Rattle.std.specs.Prelude.{Ok, slice_index, ◌==◌, ◌||◌, ◌&&◌, nat_le, nat_lt, if◌then◌else◌}
use Rattle.std.specs.FinSet as set
use Rattle.std.specs.FinMap as finite
use Rattle.std.proofs.lemmas.Bool.{cases_eq, cases_lt, eqb-true, leb-true}
use Rattle.std.proofs.lemmas.Bool.Decides.{nat_tests}
use Rattle.rom_model.specs.State.{State}
use Rattle.rom_model.specs.Blocks.{block_of}
use Rattle.rom_model.specs.Chains.{times, Chain, each_word, each_pair, HoldZero}
use Rattle.rom_model.specs.Rising.{IsRising}
use Rattle.rom_model.specs.Blocks.{region_len}
use Rattle.rom_model.specs.Region.{Chains, buckets, bucket_of, all_of, map_blocks, element_blocks, taken_by, IsRoot, IsQueue, IsSet, IsMap, IsShape}
use Rattle.rom_model.specs.declared.unfit.Rule.TheVariants as rule
use Rattle.rom_model.proofs.Times.{times-append}
use Rattle.rom_model.proofs.Contents.{one_all}
use Rattle.rom_model.proofs.Members.{words_same}
use Rattle.rom_model.proofs.Room.{times_members}
use Rattle.rom_heap.specs.declared.inspect.version.Version.{Version}
use Rattle.rom_heap.specs.declared.inspect.version.Version.TheVariants as version
use Rattle.rom_heap.specs.declared.inspect.walk.Walk.{Walk}
use Rattle.rom_heap.specs.declared.inspect.walk.Walk.TheVariants as along
use Rattle.rom_model.specs.Tests.{checked, test, is_word, are_zero}
use Rattle.rom_heap.specs.Tests.{number_of, newest, root_tests}
use Rattle.rom_heap.specs.Walks.{bucket_walk, key_of, next_link, Reaches, AreDistinctBlocks}
use Rattle.rom_heap.specs.Parts.{OneByOne}
use Rattle.rom_heap.specs.Answers.{IsFit}
use Rattle.rom_model.proofs.Outcomes.{one_ok}
use Rattle.rom_model.proofs.Holding.{all_hold, held_zeros}
use Rattle.rom_heap.proofs.Holding.{set_above, bucket_above}
use Rattle.rom_heap.proofs.Onward.{onward, times_onward, length_onward, last_onward, key_times_onward, IsBelow, chain_onward, apart_onward, queue_zeros, set_zeros, old_zeros, old_keys, bucket_keys, stamps_within, rising_onward, keys_once}
use Rattle.rom_heap.proofs.Passing.{HavePassed}

-- one bucket more
pub extend : (ℕ → List ℕ) → ℕ → List ℕ → ℕ → List ℕ
extend f k bs i = if i == k then bs else f i

extend_here : (f : ℕ → List ℕ) (k : ℕ) (bs : List ℕ) → extend f k bs k ≡ bs
unfolding extend
extend_here f k bs = go (k == k) (let e : (k == k) ≡ true = grind (arith, nat_tests) in e)
  where
    go : (b : Bool) → b ≡ true → (if b then bs else f k) ≡ bs
    go true is = refl
    go false is = absurd cc

extend_away : (f : ℕ → List ℕ) (k : ℕ) (bs : List ℕ) (i : ℕ) → i ≢ k → extend f k bs i ≡ f i
unfolding extend
extend_away f k bs i other = go (i == k) (let e : (i == k) ≡ false = grind (arith, nat_tests) in e)
  where
    go : (b : Bool) → b ≡ false → (if b then bs else f i) ≡ f i
    go false is = refl
    go true is = absurd cc

extend_all : (P : ℕ → List ℕ → Type 0) (f : ℕ → List ℕ) (k : ℕ) (bs : List ℕ) → ((i : ℕ) → i < k → P i (f i)) → P k bs → (i : ℕ) → i < suc k → P i (extend f k bs i)
extend_all P f k bs before here i lt = elim (cases_eq i k) [
  | inl same ↦ subst (λ (a : ℕ). P a (extend f k bs a)) (sym same) (subst (λ (xs : List ℕ). P k xs) (sym (extend_here f k bs)) here)
  | inr other ↦ subst (λ (xs : List ℕ). P i xs) (sym (extend_away f k bs i other)) (before i (omega (arith, lt, other)))
]

-- what is in some buckets is in one of them
pub in_some : (f : ℕ → List ℕ) (k c : ℕ) → 0 < times c (all_of f k) → (i : ℕ) × (i < k) × (0 < times c (f i))
in_some f zero c some = absurd (omega (arith, some))
in_some f (suc k) c some = elim (cases_lt 0 (times c (f k))) [
  | inl here ↦ (k, omega arith, here)
  | inr none ↦
      let before = in_some f k c (omega (arith, some, none, times-append c (all_of f k) (f k))) in
      (before.0, omega (arith, before.1), before.2)
]

-- a walk to the end of its chain, which has these blocks in its order
pub record IsWalked (n : ℕ) (w : List ℕ) (walk : Walk) (blocks : List ℕ) : Type 0 where
  pub seen : List ℕ
  pub reached : List ℕ
  pub reaches : Reaches n w walk seen reached
  pub ends : slice_index w (next_link n walk reached) ≡ 0
  pub order : blocks ≡ onward reached []

-- the first of these walks, and all blocks that they reached
pub record AreWalked (n : ℕ) (w : List ℕ) (walks : ℕ → Walk) (k : ℕ) (m : List ℕ) : Type 0 where
  pub blocks : ℕ → List ℕ
  pub each : (i : ℕ) → i < k → IsWalked n w (walks i) (blocks i)
  pub same : (c : ℕ) → times c (all_of blocks k) ≡ times c m
  pub long : length (all_of blocks k) ≡ length m

module _ (n : ℕ) (w : List ℕ) (walks : ℕ → Walk) (seen : List ℕ) where
  pub all_walked : (k : ℕ) (m : List ℕ) → OneByOne n w walks seen k (Ok m) → AreWalked n w walks k m
  all_walked zero m is =
      let none : m ≡ [] = one_ok m [] is in
      record {
        blocks = λ i. [];
        each = λ i lt. absurd (omega arith);
        same = λ c. sym (ap (times c) none);
        long = sym (ap (λ (xs : List ℕ). length xs) none);
      }
  all_walked (suc k) m is =
      let before = is.0 in
      let bs = is.2.0 in
      let old = all_walked k before is.1 in
      let whole : m ≡ bs ++ before = one_ok m (bs ++ before) is.2.2 in
      let f = extend old.blocks k (onward bs []) in
      let low : all_of f k ≡ all_of old.blocks k = one_all f old.blocks k (λ i lt. extend_away old.blocks k (onward bs []) i (λ e. absurd (omega (arith, e, lt)))) in
      let last : f k ≡ onward bs [] = extend_here old.blocks k (onward bs []) in
      let all : all_of f (suc k) ≡ all_of old.blocks k ++ onward bs [] = λ i. low i ++ last i in
      let more : IsWalked n w (walks k) (onward bs []) = record { seen = before ++ seen; reached = bs; reaches = is.2.1.0; ends = is.2.1.1; order = refl } in
      record {
        blocks = f;
        each = extend_all (λ i xs. IsWalked n w (walks i) xs) old.blocks k (onward bs []) old.each more;
        same = λ c. omega (arith, ap (times c) all, times-append c (all_of old.blocks k) (onward bs []), old.same c, times_onward c bs [], times-append c bs before, ap (times c) whole);
        long = omega (arith, ap (λ (xs : List ℕ). length xs) all, length-append (all_of old.blocks k) (onward bs []), old.long, length_onward bs [], length-append bs before, ap (λ (xs : List ℕ). length xs) whole);
      }

  pub all_apart : (k : ℕ) (m : List ℕ) → OneByOne n w walks seen k (Ok m) → AreDistinctBlocks n seen → AreDistinctBlocks n (m ++ seen)
  all_apart zero m is apart = subst (λ (xs : List ℕ). AreDistinctBlocks n (xs ++ seen)) (sym (one_ok m [] is)) apart
  all_apart (suc k) m is apart =
      let before = is.0 in
      let bs = is.2.0 in
      let whole : m ≡ bs ++ before = one_ok m (bs ++ before) is.2.2 in
      let more = apart_onward n w (walks k) (before ++ seen) bs is.2.1.0 (all_apart k before is.1 apart) in
      subst (λ (xs : List ℕ). AreDistinctBlocks n (xs ++ seen)) (sym whole) (subst (λ (xs : List ℕ). AreDistinctBlocks n xs) (sym (append_assoc bs before seen)) more)

below_none : (n : ℕ) (w bs : List ℕ) → IsBelow n w bs []
below_none n w [] = tt
below_none n w (b ∷ bs) = tt

-- a bucket that was walked
in_order : (c : ℕ) (blocks reached : List ℕ) → blocks ≡ onward reached [] → 0 < times c blocks → 0 < times c (onward reached [])
in_order c blocks reached order some = omega (arith, some, ap (times c) order)

bucket_chain : (v : Version) (n : ℕ) (w : List ℕ) (i : ℕ) (blocks : List ℕ) → IsWalked n w (bucket_walk v i) blocks → Chain n w (block_of n 0 + i) 2 blocks
bucket_chain version.Old n w i blocks is = subst (λ (xs : List ℕ). Chain n w (block_of n 0 + i) 2 xs) (sym is.order) (chain_onward n w (along.OldBucket i) is.seen is.reached [] is.reaches is.ends)
bucket_chain version.Now n w i blocks is = subst (λ (xs : List ℕ). Chain n w (block_of n 0 + i) 2 xs) (sym is.order) (chain_onward n w (along.Bucket i) is.seen is.reached [] is.reaches is.ends)

bucket_owns : (v : Version) (n : ℕ) (w : List ℕ) (i : ℕ) (blocks : List ℕ) → IsWalked n w (bucket_walk v i) blocks → (c : ℕ) → 0 < times c blocks → bucket_of n (key_of n w c) ≡ i
bucket_owns version.Old n w i blocks is c some = old_keys n w is.seen is.reached i is.reaches c (in_order c blocks is.reached is.order some)
bucket_owns version.Now n w i blocks is c some = bucket_keys n w is.seen is.reached i is.reaches c (in_order c blocks is.reached is.order some)

module _ (n : ℕ) (w : List ℕ) (i : ℕ) (blocks : List ℕ) where
  old_differs : IsWalked n w (along.OldBucket i) blocks → (key : ℕ) → times key (each_word n w 0 blocks) ≤ 1
  old_differs is key = omega (arith, ap (λ (xs : List ℕ). times key (each_word n w 0 xs)) is.order, key_times_onward n w key is.reached [], keys_once n w is.seen i is.reached key is.reaches)

  old_fourth : IsWalked n w (along.OldBucket i) blocks → HoldZero n w 3 blocks
  old_fourth is c some = old_zeros n w is.seen is.reached i is.reaches c (in_order c blocks is.reached is.order some)

  bucket_rises : IsWalked n w (along.Bucket i) blocks → IsRising (each_word n w 0 blocks)
  bucket_rises is = subst (λ (xs : List ℕ). IsRising (each_word n w 0 xs)) (sym is.order) (rising_onward n w (along.Bucket i) is.seen (λ before b hold. bucket_above n w before b i hold) is.reached [] is.reaches (below_none n w is.reached) tt)

  bucket_stamps : IsWalked n w (along.Bucket i) blocks → (c : ℕ) → 0 < times c blocks → slice_index w (block_of n c + 3) ≤ slice_index w 2
  bucket_stamps is c some = stamps_within n w is.seen is.reached i is.reaches c (in_order c blocks is.reached is.order some)

pub none_apart : (n : ℕ) → AreDistinctBlocks n []
none_apart n = record { different = λ b. omega arith; within = λ b some. absurd (omega (arith, some)) }

-- the same blocks are taken
pub same_taken : (n : ℕ) (xs ys : List ℕ) → ((c : ℕ) → times c xs ≡ times c ys) → (i : ℕ) → taken_by n xs i ≡ taken_by n ys i
same_taken n xs ys same i = ap (λ t. (i == 16) || (nat_le (2 ^ n) i && nat_lt 0 t)) (same (i - 2 ^ n))

-- the root words
record Rooted (v : Version) (n : ℕ) (w : List ℕ) : Type 0 where
  root : IsRoot n w (slice_index w 2)
  number : slice_index w 1 ≡ number_of v

rooted : (v : Version) (n : ℕ) (w : List ℕ) → checked (root_tests v n w) ≡ Ok tt → Rooted v n w
rooted v n w is =
    let zeros = are_zero w 10 7 rule.Root in
    let t8 = is_word w 8 rule.Root (block_of n 0) in
    let t2 = test 2 rule.Root (nat_le (slice_index w 2) (2 ^ 62)) in
    let t1 = is_word w 1 rule.Root (number_of v) in
    let a = all_hold (is_word w 0 rule.Root 1) (t1 ∷ t2 ∷ t8 ∷ zeros) tt tt is in
    let b = all_hold t1 (t2 ∷ t8 ∷ zeros) tt tt a.rest in
    let c = all_hold t2 (t8 ∷ zeros) tt tt b.rest in
    let d = all_hold t8 zeros tt tt c.rest in
    record {
      root = record {
        kind = eqb-true (slice_index w 0) 1 a.here;
        count_is = refl;
        count_fits = leb-true (slice_index w 2) (2 ^ 62) c.here;
        table = eqb-true (slice_index w 8) (block_of n 0) d.here;
        zeros = λ k lo hi. (let e : k ≡ 10 + (k - 10) = omega arith in ap (λ i. slice_index w i) e) ∙ held_zeros w 10 7 rule.Root d.rest (k - 10) (omega arith);
      };
      number = eqb-true (slice_index w 1) (number_of v) b.here;
    }

module _ (v : Version) (n : ℕ) (w q s m : List ℕ) (long : length w ≡ region_len n) (p : HavePassed v n w q s m) where
  abbrev walked : AreWalked n w (bucket_walk v) (buckets n) m
  walked = all_walked n w (bucket_walk v) (s ++ (q ++ [])) (buckets n) m p.map

  -- the chains that were walked
  abbrev found : Chains
  found = record { queue = onward q []; set = onward s []; bucket = walked.blocks }

  apart : AreDistinctBlocks n (m ++ (s ++ (q ++ [])))
  apart = all_apart n w (bucket_walk v) (s ++ (q ++ [])) (buckets n) m p.map (apart_onward n w along.Set (q ++ []) s p.set.0 (apart_onward n w along.Queue [] q p.queue.0 (none_apart n)))

  counted : (c : ℕ) → times c (element_blocks n found) ≡ times c (m ++ (s ++ (q ++ [])))
  counted c =
      omega (arith, times_members n found c, times_onward c q [], times_onward c s [], walked.same c, times-append c m (s ++ (q ++ [])), times-append c s (q ++ []), times-append c q [])

  queue_is : IsQueue n w (onward q []) (each_word n w 0 (onward q []))
  queue_is =
      let t5 = is_word w 5 rule.Count (length q) in
      let a = all_hold (is_word w 4 rule.Ends (newest n q)) (t5 ∷ []) tt tt p.queue_ends in
      let b = all_hold t5 [] tt tt a.rest in
      record {
        chain = chain_onward n w along.Queue [] q [] p.queue.0 p.queue.1;
        tail = eqb-true (slice_index w 4) (newest n q) a.here ∙ sym (last_onward n q);
        len = eqb-true (slice_index w 5) (length q) b.here ∙ (let e : length q ≡ length (onward q []) = omega (arith, length_onward q []) in e);
        values_are = refl;
        third = queue_zeros n w [] q p.queue.0 2 (omega arith) (omega arith);
        fourth = queue_zeros n w [] q p.queue.0 3 (omega arith) (omega arith);
      }

  set_is : IsSet n w (onward s []) (set.from_list (each_word n w 0 (onward s [])))
  set_is =
      let a = all_hold (is_word w 7 rule.Count (length s)) [] tt tt p.set_ends in
      record {
        chain = chain_onward n w along.Set (q ++ []) s [] p.set.0 p.set.1;
        len = eqb-true (slice_index w 7) (length s) a.here ∙ (let e : length s ≡ length (onward s []) = omega (arith, length_onward s []) in e);
        rising = rising_onward n w along.Set (q ++ []) (λ before b hold. set_above n w before b hold) s [] p.set.0 (below_none n w s) tt;
        keys_are = refl;
        third = set_zeros n w (q ++ []) s p.set.0 2 (omega arith) (omega arith);
        fourth = set_zeros n w (q ++ []) s p.set.0 3 (omega arith) (omega arith);
      }

  map_is : IsMap n w found (finite.from_entries (each_pair n w (map_blocks n found)))
  map_is =
      let a = all_hold (is_word w 9 rule.Count (length m)) [] tt tt p.map_ends in
      record {
        chains = λ i lt. bucket_chain v n w i (walked.blocks i) (walked.each i lt);
        len = eqb-true (slice_index w 9) (length m) a.here ∙ sym walked.long;
        own_bucket = λ i b lt some. bucket_owns v n w i (walked.blocks i) (walked.each i lt) b some;
        pairs_are = refl;
      }

  abbrev state : State
  state = record { queue = each_word n w 0 (onward q []); members = set.from_list (each_word n w 0 (onward s [])); pairs = finite.from_entries (each_pair n w (map_blocks n found)) }

  root : Rooted v n w
  root = rooted v n w p.root

  shape : IsShape n w found state (slice_index w 2)
  shape = record {
    as_long = long;
    root = root.root;
    queue = queue_is;
    set = set_is;
    map = map_is;
    different = λ c. omega (arith, counted c, apart.different c);
    within = λ c some. apart.within c (omega (arith, some, counted c));
    tree = words_same n (taken_by n (m ++ (s ++ (q ++ [])))) (taken_by n (element_blocks n found)) w (same_taken n (m ++ (s ++ (q ++ []))) (element_blocks n found) (λ c. sym (counted c))) p.tree;
  }

pub well_formed : (v : Version) (n : ℕ) (w q s m : List ℕ) → length w ≡ region_len n → HavePassed v n w q s m → IsFit v n w
well_formed version.Old n w q s m long p =
    let all = walked version.Old n w q s m long p in
    record {
      state = state version.Old n w q s m long p;
      count = slice_index w 2;
      contents = (
        found version.Old n w q s m long p,
        record {
          shape = shape version.Old n w q s m long p;
          version = record {
            version = (root version.Old n w q s m long p).number;
            keys_differ = λ i key lt. old_differs n w i (all.blocks i) (all.each i lt) key;
            fourth = λ c some. let x = in_some all.blocks (buckets n) c some in old_fourth n w x.0 (all.blocks x.0) (all.each x.0 x.1) c x.2;
          };
        },
      );
    }
well_formed version.Now n w q s m long p =
    let all = walked version.Now n w q s m long p in
    record {
      state = state version.Now n w q s m long p;
      count = slice_index w 2;
      contents = (
        found version.Now n w q s m long p,
        record {
          shape = shape version.Now n w q s m long p;
          version = record {
            version = (root version.Now n w q s m long p).number;
            rising = λ i lt. bucket_rises n w i (all.blocks i) (all.each i lt);
            stamps = λ c some. let x = in_some all.blocks (buckets n) c some in bucket_stamps n w x.0 (all.blocks x.0) (all.each x.0 x.1) c x.2;
          };
        },
      );
    }
