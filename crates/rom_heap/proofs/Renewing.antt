-- A region of version 1 of which some chains are sorted.
use Rattle.std.proofs.Common.{◌≡◌, ◌≢◌, ◌⊎◌, inl, inr, ⊎_elim, ℕ, ◌+◌, ◌-◌, ◌^◌, ◌<◌, ◌≤◌, List, length, refl, sym, ◌∙◌, ap, subst, arith}
use Rattle.std.specs.Prelude.{slice_index, IsPermutation}
use Rattle.std.proofs.lemmas.Bool.{cases_eq}
use Rattle.std.proofs.lemmas.List.Sorted.{IsPermutation-refl, IsPermutation-map, IsPermutation-trans}
use Rattle.rom_model.specs.State.{State}
use Rattle.rom_model.specs.Blocks.{block_of}
use Rattle.rom_model.specs.Chains.{times, Chain, each_word}
use Rattle.rom_model.specs.Rising.{IsRising}
use Rattle.rom_model.specs.Region.{Chains, buckets, map_blocks, IsOldRegion}
use Rattle.rom_model.proofs.Times.{times_bucket}
use Rattle.rom_model.proofs.Counting.{at_most}
use Rattle.rom_model.proofs.Frames.{chain_same, each_same}
use Rattle.rom_model.proofs.Room.{times_members}
use Rattle.rom_heap.specs.Node.{head_of, IsOldBucket}
use Rattle.rom_heap.specs.Renewed.{IsSortedBucket}
use Rattle.rom_heap.proofs.Heads.{table_ends, head_apart}
use Rattle.rom_heap.proofs.Permuted.{times_permuted}

-- A bucket's chain has the blocks that it had, and is sorted if it is one of the first.
pub record ChainNow (n first j : ℕ) (p : Chains) (now : List ℕ) : Type 0 where
  pub blocks : List ℕ
  pub same : IsPermutation (p.bucket j) blocks
  pub chain : j < buckets n → Chain n now (head_of n j) 2 blocks
  pub rising : j < first → IsRising (each_word n now 0 blocks)

-- the chains of the first buckets are sorted, and no word differs but those of the table and the links
pub record Renewing (n first : ℕ) (p : Chains) (old now : List ℕ) : Type 0 where
  pub each : (j : ℕ) → ChainNow n first j p now
  pub as_long : length now ≡ length old
  pub others : (k : ℕ) → (k < head_of n 0) ⊎ (head_of n (buckets n) ≤ k) → ((b : ℕ) → 0 < times b (map_blocks n p) → k ≢ block_of n b + 2) → slice_index now k ≡ slice_index old k

pub all_first : {n first : ℕ} {p : Chains} {old now : List ℕ} → first ≡ buckets n → Renewing n first p old now → Renewing n (buckets n) p old now
all_first {n} {first} {p} {old} {now} is x = subst (λ i. Renewing n i p old now) is x

module _ {n : ℕ} {old : List ℕ} {p : Chains} {s : State} {count : ℕ} (le : 4 ≤ n) (is : IsOldRegion n old p s count) where
  pub none_yet : Renewing n 0 p old old
  none_yet = record {
    each = λ j. record { blocks = p.bucket j; same = IsPermutation-refl (p.bucket j); chain = λ lt. is.shape.map.chains j lt; rising = λ lt. absurd (omega (arith, lt)) };
    as_long = refl;
    others = λ k outside away. refl;
  }

  pub placed : (b : ℕ) → 0 < times b (map_blocks n p) → (2 ^ (n - 4) ≤ b) × (b < 2 ^ n)
  placed b some = is.shape.within b (omega (arith, some, times_members n p b))

  module _ {first : ℕ} {now : List ℕ} (x : Renewing n first p old now) where
    abbrev pub chain_of : ℕ → List ℕ
    chain_of j = (x.each j).blocks

    pub times_now : (j b : ℕ) → times b (chain_of j) ≡ times b (p.bucket j)
    times_now j b = times_permuted b (p.bucket j) (chain_of j) (x.each j).same

    pub in_map : (j b : ℕ) → j < buckets n → 0 < times b (chain_of j) → 0 < times b (map_blocks n p)
    in_map j b lt some = omega (arith, some, times_now j b, times_bucket p.bucket (buckets n) j b lt)

    -- the words of the map's nodes stay, but for the links
    pub word_stays : (b j : ℕ) → 0 < times b (map_blocks n p) → j < 4 → j ≢ 2 → slice_index now (block_of n b + j) ≡ slice_index old (block_of n b + j)
    word_stays b j some lt ne = x.others (block_of n b + j) (inr (omega (arith, table_ends n le, (placed b some).0))) (λ c there e. absurd (omega (arith, e, lt, ne)))

    keys_now : (j : ℕ) → j < buckets n → each_word n now 0 (chain_of j) ≡ each_word n old 0 (chain_of j)
    keys_now j lt = each_same n 0 old now (chain_of j) (λ c some. word_stays c 0 (in_map j c lt some) (omega arith) (omega arith))

    pub old_bucket : (j : ℕ) → j < buckets n → IsOldBucket n j now (chain_of j)
    old_bucket j lt = record {
      number = lt;
      chain = (x.each j).chain lt;
      blocks_are = record {
        are = record {
          different = single;
          within = λ b some. (placed b (in_map j b lt some)).1;
          few = at_most 0 (2 ^ n) (chain_of j) single (λ b some. let at = placed b (in_map j b lt some) in (omega arith, omega (arith, at.1)));
        };
        behind = λ b some. (placed b (in_map j b lt some)).0;
      };
      keys_differ = λ key.
          let moved = times_permuted key (each_word n old 0 (p.bucket j)) (each_word n old 0 (chain_of j)) (IsPermutation-map (λ b. slice_index old (block_of n b + 0)) (p.bucket j) (chain_of j) (x.each j).same) in
          omega (arith, ap (times key) (keys_now j lt), moved, is.version.keys_differ j key lt);
    }
      where
        single : (b : ℕ) → times b (chain_of j) ≤ 1
        single b = omega (arith, times_now j b, times_bucket p.bucket (buckets n) j b lt, times_members n p b, is.shape.different b)

    -- a block is in one bucket
    one_bucket : (i j b : ℕ) → i < buckets n → j < buckets n → 0 < times b (chain_of i) → 0 < times b (chain_of j) → i ≡ j
    one_bucket i j b lt less some there = sym (is.shape.map.own_bucket i b lt (omega (arith, some, times_now i b))) ∙ is.shape.map.own_bucket j b less (omega (arith, there, times_now j b))

    -- one bucket more
    module _ {next : List ℕ} (lt : first < buckets n) (t : IsSortedBucket n first (chain_of first) now next) where
      -- a word of a block but its link, and a link of another bucket's block
      stays : (i b j : ℕ) → i < buckets n → 0 < times b (chain_of i) → j < 4 → (j ≡ 2 → i ≢ first) → slice_index next (block_of n b + j) ≡ slice_index now (block_of n b + j)
      stays i b j less some small other = t.others.others (block_of n b + j)
          (λ e. head_apart n first b j le lt (placed b (in_map i b less some)).0 (sym e))
          (λ c there e.
          let two : j ≡ 2 = omega (arith, e, small) in
          let same : b ≡ c = omega (arith, e, two) in
          other two (one_bucket i first b less lt some (subst (λ a. 0 < times a (chain_of first)) (sym same) there)))

      chain_next : (j : ℕ) → ChainNow n (first + 1) j p next
      chain_next j = elim (cases_eq j first) [
        | inl same ↦ subst (λ a. ChainNow n (first + 1) a p next) (sym same) record {
          blocks = t.sorted;
          same = IsPermutation-trans (p.bucket first) (chain_of first) t.sorted (x.each first).same t.same;
          chain = λ less. t.chain;
          rising = λ less. t.rising;
        }
        | inr other ↦ record {
          blocks = chain_of j;
          same = (x.each j).same;
          chain = λ less.
              let head : slice_index next (head_of n j) ≡ slice_index now (head_of n j) = t.others.others (head_of n j) (λ e. other (omega (arith, e))) (λ b there e. head_apart n j b 2 le less (placed b (in_map first b lt there)).0 e) in
              chain_same n (head_of n j) 2 now next (chain_of j) head (λ c some. stays j c 2 less some (omega arith) (λ two. other)) ((x.each j).chain less);
          rising = λ less.
              let before : j < first = omega (arith, less, other) in
              let inside : j < buckets n = omega (arith, before, lt) in
              subst IsRising (sym (each_same n 0 now next (chain_of j) (λ c some. stays j c 0 inside some (omega arith) (λ two. absurd (omega (arith, two)))))) ((x.each j).rising before);
        }
      ]

      pub one_more : Renewing n (first + 1) p old next
      one_more = record {
        each = chain_next;
        as_long = t.others.as_long ∙ x.as_long;
        others = λ k outside away.
            t.others.others k
            (λ e. ⊎_elim (λ low. absurd (omega (arith, e, low))) (λ high. absurd (omega (arith, e, high, lt))) outside)
            (λ b there. away b (in_map first b lt there))
            ∙ x.others k outside away;
      }
