-- The sums of a number of each block along a chain, and over the buckets.
use Rattle.std.proofs.Common.{◌≡◌, inl, inr, ℕ, zero, suc, ◌+◌, ◌*◌, ◌^◌, ◌<◌, ◌≤◌, add-one, List, [], ◌∷◌, ◌++◌, map, length, refl, sym, ◌∙◌, ap, arith, length-append}
use Rattle.std.specs.Prelude.{slice_index, nat_lt}
use Rattle.std.specs.List.{sum_by}
use Rattle.std.specs.Ordering.{nat_cmp}
use Rattle.std.specs.FinMap as finite
use Rattle.std.proofs.lemmas.Bool.{cases_lt}
use Rattle.std.proofs.lemmas.List.{length-map}
use Rattle.std.proofs.lemmas.List.Sums.{sum_by-cons, sum_by-append, sum_by_push, count_by-le-length}
use Rattle.rom_model.specs.State.{State, Stamped, fresh_after}
use Rattle.rom_model.specs.Blocks.{block_of}
use Rattle.rom_model.specs.Chains.{stamped_at, each_pair}
use Rattle.rom_model.specs.Region.{Chains, all_of, map_blocks, IsRegion}
use Rattle.rom_model.proofs.Links.{chain_first}
use Rattle.rom_bucket.specs.Walk.{head_of, IsBucket}
use Rattle.rom_bucket.proofs.Walking.{Along, whole, first, further, further-front}
use Rattle.rom_bucket.proofs.Entries.{sum_entries}
use Rattle.rom_bucket.proofs.Keys.{once}
use Rattle.rom_map.specs.Sums.{word_of_measure, taken_from, amount, counted_at}
use Rattle.rom_map.specs.declared.sums.Measure.{Measure}
use Rattle.rom_map.specs.declared.sums.Measure.TheVariants.{Value, Fresh}
use Rattle.rom_map.proofs.Keyed.{map_keys, map_pairs}

-- the sum before a node of a bucket's chain
pub record Summed (f : ℕ → ℕ) (n i : ℕ) (w bs : List ℕ) (total node : ℕ) : Type 0 where
  pub way : Along n (head_of n i) w bs node
  pub total_is : total ≡ sum_by f way.front
  pub fits : total ≤ length way.front * 2 ^ 64

pub at_start : {f : ℕ → ℕ} {n i : ℕ} {w bs : List ℕ} (head node : ℕ) → IsBucket n w i bs → head ≡ head_of n i → node ≡ slice_index w head → Summed f n i w bs 0 node
at_start {f} {n} {i} {w} {bs} head node is here load = record {
  way = record { front = []; back = bs; chain = is; are = refl; node_is = load ∙ ap (λ k. slice_index w k) here ∙ chain_first n (head_of n i) 2 w bs is };
  total_is = refl;
  fits = omega arith;
}

module _ {f : ℕ → ℕ} {n i : ℕ} {w bs : List ℕ} {total node : ℕ} (x : Summed f n i w bs total node) where
  pub summed_all : node ≡ 0 → total ≡ sum_by f bs
  summed_all none = x.total_is ∙ ap (λ cs. sum_by f cs) (sym (whole x.way none))

  pub summed_fits : node ≡ 0 → total ≤ length bs * 2 ^ 64
  summed_fits none = omega (arith, x.fits, ap length (whole x.way none))

  pub passed_all : node ≡ 0 → length x.way.front ≡ length bs
  passed_all none = ap length (sym (whole x.way none))

  module _ (some : node ≡ 0 → ⊥) where
    -- the node's block
    abbrev pub block_there : ℕ
    block_there = (first x.way some).block

    pub block_here : node ≡ block_of n block_there
    block_here = (first x.way some).here

    next_summed : (value next : ℕ) → value ≡ f block_there → value < 2 ^ 64 → next ≡ slice_index w (node + 2) → (y : Summed f n i w bs (total + value) next) × (length y.way.front ≡ length x.way.front + 1)
    next_summed value next here small load =
        let front = further-front x.way some next load in
        let long : length (further x.way some next load).front ≡ length x.way.front + 1 = ap length front ∙ length-append x.way.front (block_there ∷ []) in
        let sums = ap (λ cs. sum_by f cs) front ∙ sum_by_push f x.way.front block_there in
        (record { way = further x.way some next load; total_is = omega (arith, x.total_is, here, sums); fits = omega (arith, x.fits, small, long) }, long)

-- the buckets' blocks
pub all_next : (f : ℕ → List ℕ) (m : ℕ) → all_of f (m + 1) ≡ all_of f m ++ f m
all_next f m = ap (all_of f) (add-one m)

pub all_shorter : (f : ℕ → List ℕ) (m k : ℕ) → m ≤ k → length (all_of f m) ≤ length (all_of f k)
all_shorter f m zero le = let same : m ≡ 0 = omega arith in omega (arith, ap (λ j. length (all_of f j)) same)
all_shorter f m (suc k) le = elim (cases_lt k m) [
  | inl last ↦ let same : m ≡ suc k = omega arith in omega (arith, ap (λ j. length (all_of f j)) same)
  | inr before ↦ omega (arith, all_shorter f m k before, length-append (all_of f k) (f k))
]

-- the sum over the first buckets
pub record SummedTo (f : ℕ → ℕ) (m : ℕ) (bucket : ℕ → List ℕ) (total : ℕ) : Type 0 where
  pub total_is : total ≡ sum_by f (all_of bucket m)
  pub fits : total ≤ length (all_of bucket m) * 2 ^ 64

pub next_bucket : {f : ℕ → ℕ} {m : ℕ} {bucket : ℕ → List ℕ} {total : ℕ} (value : ℕ) → SummedTo f m bucket total → value ≡ sum_by f (bucket m) → value ≤ length (bucket m) * 2 ^ 64 → SummedTo f (m + 1) bucket (total + value)
next_bucket {f} {m} {bucket} value x is fits =
    let sums = ap (λ cs. sum_by f cs) (all_next bucket m) ∙ sum_by-append f (all_of bucket m) (bucket m) in
    let long = ap length (all_next bucket m) ∙ length-append (all_of bucket m) (bucket m) in
    record { total_is = omega (arith, x.total_is, is, sums); fits = omega (arith, x.fits, fits, long) }

sum_by-map : {X Y : Type 0} (f : Y → ℕ) (g : X → Y) (xs : List X) → sum_by f (map g xs) ≡ sum_by (λ x. f (g x)) xs
sum_by-map f g [] = refl
sum_by-map f g (x ∷ xs) = sum_by-cons f (g x) (map g xs) ∙ ap (λ m. f (g x) + m) (sum_by-map f g xs) ∙ sym (sum_by-cons (λ x. f (g x)) x xs)

module _ {n : ℕ} {w : List ℕ} {p : Chains} {s : State} {k : ℕ} (is : IsRegion n w p s k) where
  -- a sum over all keys is one over the blocks
  pub blocks_sum : (h : Stamped → ℕ) → sum_by h (finite.values s.pairs) ≡ sum_by (λ b. h (stamped_at n w b)) (map_blocks n p)
  blocks_sum h =
      let es : List (ℕ × Stamped) = each_pair n w (map_blocks n p) in
      let kept : finite.FinMap nat_cmp Stamped = finite.from_entries es in
      ap (λ pairs. sum_by h (finite.values pairs)) (sym (map_pairs is)) ∙ sum_by-map h (λ e. e.1) (finite.entries kept) ∙ sum_entries (λ e. h e.1) es (once (map_keys is) (stamped_at n w))
      ∙ sum_by-map (λ (e : ℕ × Stamped). h e.1) (λ b. (slice_index w (block_of n b + 0), stamped_at n w b)) (map_blocks n p)

-- no more keys have a stamp above a place than there are
pub fresh_few : (s : State) (place : ℕ) → fresh_after s place ≤ finite.len s.pairs
fresh_few s place = omega (arith, count_by-le-length (λ (kept : Stamped). nat_lt place kept.stamp) (finite.values s.pairs), length-map (finite.entries s.pairs) (λ e. e.1), finite.len-entries s.pairs)

-- the word that is taken from a node
taken_word : (measure : Measure) (n : ℕ) (w : List ℕ) (b node : ℕ) → node ≡ block_of n b → slice_index w (node + word_of_measure measure) ≡ taken_from measure (stamped_at n w b)
taken_word Value n w b node here = ap (λ a. slice_index w (a + 1)) here
taken_word (Fresh place) n w b node here = ap (λ a. slice_index w (a + 3)) here

pub word_small : (measure : Measure) → word_of_measure measure < 4
word_small Value = omega arith
word_small (Fresh place) = omega arith

-- one key more is counted by the word of its node
pub next_counted : (measure : Measure) {n i : ℕ} {w bs : List ℕ} {total node : ℕ} (x : Summed (counted_at measure n w) n i w bs total node) (some : node ≡ 0 → ⊥) (word value next : ℕ) → word ≡ slice_index w (node + word_of_measure measure) → value ≡ amount measure word → value < 2 ^ 64 → next ≡ slice_index w (node + 2)
    → (y : Summed (counted_at measure n w) n i w bs (total + value) next) × (length y.way.front ≡ length x.way.front + 1)
next_counted measure {n} {i} {w} {bs} {total} {node} x some word value next load is small link = next_summed x some value next (is ∙ ap (amount measure) (load ∙ taken_word measure n w (block_there x some) node (block_here x some))) small link
