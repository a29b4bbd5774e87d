-- The keys that stand in the chains of a region.
use Rattle.std.proofs.Common.{◌≡◌, ℕ, ◌≤◌, List, sym, ◌∙◌, ap, arith}
use Rattle.std.specs.Prelude.{is_some}
use Rattle.std.specs.List.{list_any}
use Rattle.std.specs.List.Sorted.{IsPermutation, IsSorted}
use Rattle.std.specs.Ordering.{nat_cmp, eq_by_cmp}
use Rattle.std.specs.Cmp.{nat_cmp_total}
use Rattle.std.specs.FinMap as finite
use Rattle.std.specs.FinMap.Entries.{is_some-find}
use Rattle.std.proofs.lemmas.List.Sorted.{list_any-IsPermutation}
use Rattle.rom_model.specs.Chains.{times, each_word}
use Rattle.rom_bucket.specs.Buckets.{blocks_of_buckets, entries_of}
use Rattle.rom_bucket.proofs.Keys.{entry_keys, keys_single}
use Rattle.rom_blob_region.specs.State.{BlobState}
use Rattle.rom_blob_region.specs.Region.{blob_at, IsBlobs}
use Rattle.rom_carry.proofs.Sorted.{keys_sorted, rising_sorted, same_sorted, sorted_rising, times_permuted}

module _ {n : ℕ} {w : List ℕ} {f : ℕ → List ℕ} {s : BlobState} {k : ℕ} (is : IsBlobs n w f s k) where
  -- the keys of all buckets are those of the state
  any_key : (q : ℕ) → list_any (eq_by_cmp nat_cmp q) (each_word n w 0 (blocks_of_buckets n f)) ≡ list_any (eq_by_cmp nat_cmp q) (finite.keys s)
  any_key q =
      let es = entries_of n w (blob_at n w) (blocks_of_buckets n f) in
      ap (list_any (eq_by_cmp nat_cmp q)) (sym (entry_keys n w (blob_at n w) (blocks_of_buckets n f))) ∙ sym (is_some-find nat_cmp q es) ∙ ap is_some (sym (finite.get-from_entries nat_cmp_total es q))
      ∙ ap (λ (m : BlobState). is_some (finite.get m q)) is.state_is ∙ finite.contains_key-keys s q

  -- and in order they are its keys
  pub sorted_keys : (found sorted : List ℕ) → found ≡ each_word n w 0 (blocks_of_buckets n f) → IsPermutation found sorted → IsSorted nat_cmp sorted → sorted ≡ finite.keys s
  sorted_keys found sorted are permuted order =
      let once : (b : ℕ) → times b sorted ≤ 1 = λ b. let same = times_permuted b found sorted permuted ∙ ap (times b) are in omega (arith, same, keys_single is.keys b) in
      same_sorted sorted (finite.keys s) (rising_sorted sorted (sorted_rising sorted order once)) (keys_sorted s)
      (λ q. sym (list_any-IsPermutation (eq_by_cmp nat_cmp q) found sorted permuted) ∙ ap (list_any (eq_by_cmp nat_cmp q)) are ∙ any_key q)
