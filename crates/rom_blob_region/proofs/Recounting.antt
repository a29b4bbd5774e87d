-- The region with one update more.
use Rattle.std.proofs.Common.{◌≡◌, inr, ℕ, ◌+◌, ◌<◌, ◌≤◌, List, refl, sym, ◌∙◌, ap, subst, arith}
use Rattle.std.specs.Prelude.{slice_index}
use Rattle.std.specs.FinMap as finite
use Rattle.rom_model.specs.Space.{ChangesOnly}
use Rattle.rom_model.specs.History.{LAST_COUNT}
use Rattle.rom_model.specs.Blocks.{AreWords, block_of}
use Rattle.rom_model.specs.Chains.{times}
use Rattle.rom_model.proofs.Room.{tree_stays}
use Rattle.rom_bucket.specs.Walk.{head_of}
use Rattle.rom_bucket.specs.Buckets.{blocks_of_buckets}
use Rattle.rom_bucket.proofs.Keys.{entries_same, buckets_same}
use Rattle.rom_blob_region.specs.State.{BlobState, taken_with}
use Rattle.rom_blob_region.specs.Region.{data_at, blob_at, AreBlobsApart, IsBlobs, BlobContents}
use Rattle.rom_blob_region.proofs.Beside.{block_least}
use Rattle.rom_blob_region.proofs.Held.{held_same}
use Rattle.rom_blob_region.proofs.Places.{Same, own_word}
use Rattle.rom_blob_region.proofs.Keeping.{stays_same, held}

module _ {n : ℕ} {w w' : List ℕ} {f : ℕ → List ℕ} {s : BlobState} {k : ℕ} (le : 4 ≤ n) (below : k < LAST_COUNT) (now : slice_index w' 2 ≡ k + 1) (only : ChangesOnly 2 1 w w') (is : IsBlobs n w f s k) where
  high : (j : ℕ) → 3 ≤ j → slice_index w' j ≡ slice_index w j
  high j ge = only.behind j (omega (arith, ge))

  same : (b : ℕ) → 0 < times b (blocks_of_buckets n f) → Same n w w' b
  same b some = stays_same n w w' b (is.blobs b some) record {
    node = λ j lt. high (block_of n b + j) (omega arith);
    body = λ j lt.
        let at = own_word n w b le (is.keys.within b some).1 (is.blobs b some) (data_at n w b + j) (inr (j, lt, refl)) in
        high (data_at n w b + j) (omega (arith, block_least n at.0 (data_at n w b + j) at.2));
  }

  stay : held n w' f ≡ held n w f
  stay = held_same (blob_at n w) (blob_at n w') (blocks_of_buckets n f) (λ b some. (same b some).blob)

  recounted : IsBlobs n w' f s (k + 1)
  recounted = record {
    order = is.order;
    as_long = only.as_long ∙ is.as_long;
    root = record {
      kind = only.before 0 (omega arith) ∙ is.root.kind;
      version = only.before 1 (omega arith) ∙ is.root.version;
      count_is = now;
      count_fits = omega (arith, below);
      table = high 8 (omega arith) ∙ is.root.table;
      low_zeros = λ j lo hi. high j (omega (arith, lo)) ∙ is.root.low_zeros j lo hi;
      high_zeros = λ j lo hi. high j (omega (arith, lo)) ∙ is.root.high_zeros j lo hi;
    };
    keys = buckets_same w' (λ i lt. high (head_of n i) (omega arith)) (high 3 (omega arith)) (λ c some. high (block_of n c + 0) (omega arith)) (λ c some. high (block_of n c + 2) (omega arith)) is.keys;
    blobs = λ b some. (same b some).is;
    state_is = ap (λ es. finite.from_entries es) (entries_same n w w' (blob_at n w) (blob_at n w') (blocks_of_buckets n f) (λ c some. high (block_of n c + 0) (omega arith)) (λ c some. (same c some).blob)) ∙ is.state_is;
    apart = subst (λ ys. AreBlobsApart n ys) (sym stay) is.apart;
    tree = subst (λ ys. AreWords n (taken_with ys) w') (sym stay) (tree_stays n (taken_with (held n w f)) w w' (λ j least most. high j (omega (arith, least))) is.tree);
  }

pub raised : {n : ℕ} {w w' : List ℕ} {s : BlobState} {k : ℕ} → 4 ≤ n → k < LAST_COUNT → slice_index w' 2 ≡ slice_index w 2 + 1 → ChangesOnly 2 1 w w' → BlobContents n w s k → BlobContents n w' s (k + 1)
raised le below now only held_now = (held_now.0, recounted le below (now ∙ ap (λ c. c + 1) held_now.1.root.count_is) only held_now.1)
