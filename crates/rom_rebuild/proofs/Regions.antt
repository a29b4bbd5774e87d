-- The chains of a region, and the keys that stand in them.
use Rattle.std.proofs.Common.{◌≡◌, ℕ, ◌+◌, ◌^◌, ◌<◌, ◌≤◌, List, [], ◌∷◌, map, refl, sym, ◌∙◌, ap, arith}
use Rattle.std.specs.Prelude.{slice_index, is_some}
use Rattle.std.specs.List.{list_any}
use Rattle.std.specs.List.Sorted.{IsPermutation, IsSorted}
use Rattle.std.specs.Ordering.{nat_cmp, eq_by_cmp}
use Rattle.std.specs.Cmp.{nat_cmp_total}
use Rattle.std.specs.FinMap as finite
use Rattle.std.specs.FinMap.Entries.{is_some-find}
use Rattle.std.proofs.lemmas.List.Sorted.{list_any-IsPermutation}
use Rattle.rom_model.specs.Blocks.{block_of}
use Rattle.rom_model.specs.Chains.{times, Chain, each_word, each_pair}
use Rattle.rom_model.specs.Region.{Chains, IsRegion, buckets, element_blocks, map_blocks}
use Rattle.rom_model.specs.State.{State}
use Rattle.rom_model.proofs.Counting.{at_most}
use Rattle.rom_model.proofs.Room.{times_members}
use Rattle.rom_bucket.proofs.Keys.{holds_bucket, keys_single}
use Rattle.rom_map.proofs.Keyed.{map_keys}
use Rattle.rom_rebuild.specs.Chains.{HoldsChain}
use Rattle.rom_carry.proofs.Sorted.{keys_sorted, rising_sorted, same_sorted, sorted_rising, times_permuted}

module _ {n : ℕ} {w : List ℕ} {p : Chains} {s : State} {k : ℕ} (is : IsRegion n w p s k) where
  held : (l : ℕ) (bs : List ℕ) → Chain n w l 1 bs → ((b : ℕ) → times b bs ≤ times b (element_blocks n p)) → HoldsChain n w l 1
  held l bs chain among = record {
    blocks = bs;
    are = chain;
    within = λ b some. (is.shape.within b (omega (arith, some, among b))).1;
    few = at_most 0 (2 ^ n) bs (λ b. omega (arith, is.shape.different b, among b)) (λ b some. (omega arith, omega (arith, (is.shape.within b (omega (arith, some, among b))).1)));
  }

  pub holds_queue : HoldsChain n w 3 1
  holds_queue = held 3 p.queue is.shape.queue.chain (λ b. omega (arith, times_members n p b))

  pub holds_set : HoldsChain n w 6 1
  holds_set = held 6 p.set is.shape.set.chain (λ b. omega (arith, times_members n p b))

  pub holds_bucket_of : (i : ℕ) → i < buckets n → HoldsChain n w (block_of n 0 + i) 2
  holds_bucket_of i lt = let q = holds_bucket (map_keys is) i lt in record { blocks = q.blocks; are = q.are; within = q.within; few = q.few }

  first_keys : (bs : List ℕ) → map (λ e. e.0) (each_pair n w bs) ≡ each_word n w 0 bs
  first_keys [] = refl
  first_keys (b ∷ bs) = ap (λ xs. slice_index w (block_of n b + 0) ∷ xs) (first_keys bs)

  -- the keys of all buckets are those of the map
  any_key : (q : ℕ) → list_any (eq_by_cmp nat_cmp q) (each_word n w 0 (map_blocks n p)) ≡ list_any (eq_by_cmp nat_cmp q) (finite.keys s.pairs)
  any_key q =
      let es = each_pair n w (map_blocks n p) in
      ap (list_any (eq_by_cmp nat_cmp q)) (sym (first_keys (map_blocks n p))) ∙ sym (is_some-find nat_cmp q es) ∙ ap is_some (sym (finite.get-from_entries nat_cmp_total es q))
      ∙ ap (λ m. is_some (finite.get m q)) is.shape.map.pairs_are ∙ finite.contains_key-keys s.pairs q

  -- and in order they are its keys
  pub sorted_keys : (found sorted : List ℕ) → found ≡ each_word n w 0 (map_blocks n p) → IsPermutation found sorted → IsSorted nat_cmp sorted → sorted ≡ finite.keys s.pairs
  sorted_keys found sorted are permuted order =
      let once : (b : ℕ) → times b sorted ≤ 1 = λ b. let same = times_permuted b found sorted permuted ∙ ap (times b) are in omega (arith, same, keys_single (map_keys is) b) in
      same_sorted sorted (finite.keys s.pairs) (rising_sorted sorted (sorted_rising sorted order once)) (keys_sorted s.pairs)
      (λ q. sym (list_any-IsPermutation (eq_by_cmp nat_cmp q) found sorted permuted) ∙ ap (list_any (eq_by_cmp nat_cmp q)) are ∙ any_key q)
