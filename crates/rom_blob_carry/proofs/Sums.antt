-- Sums over the keys of a state are sums over their nodes.
use Rattle.std.proofs.Common.{◌≡◌, ℕ, ◌+◌, List, [], ◌∷◌, length, refl, sym, ◌∙◌, ap}
use Rattle.std.specs.Prelude.{slice_index}
use Rattle.std.specs.List.{sum_by}
use Rattle.std.specs.FinMap as finite
use Rattle.std.proofs.lemmas.List.Sums.{sum_by-cons, sum-map}
use Rattle.rom_model.specs.Blocks.{block_of}
use Rattle.rom_bucket.specs.Buckets.{blocks_of_buckets, entries_of}
use Rattle.rom_bucket.proofs.Entries.{sum_entries}
use Rattle.rom_bucket.proofs.Keys.{once}
use Rattle.rom_blob_region.specs.Packed.{long_at}
use Rattle.rom_blob_region.specs.State.{Blob, BlobState, units_in, units_of}
use Rattle.rom_blob_region.specs.Region.{blob_at, data_at, len_at, IsBlobs}
use Rattle.rom_blob_carry.specs.declared.totals.Measure.{Measure}
use Rattle.rom_blob_carry.specs.declared.totals.Measure.TheVariants.{Units}
use Rattle.rom_blob_carry.specs.Sizes.{amount, counted_at, total_of}

-- a sum over entries is one over their blocks
pub entries_sum : (n : ℕ) (w : List ℕ) (blob : ℕ → Blob) (f : ℕ × Blob → ℕ) (g : ℕ → ℕ) → ((b : ℕ) → f (slice_index w (block_of n b + 0), blob b) ≡ g b) → (bs : List ℕ) → sum_by f (entries_of n w blob bs) ≡ sum_by g bs
entries_sum n w blob f g same [] = refl
entries_sum n w blob f g same (b ∷ bs) =
    let rest = entries_sum n w blob f g same bs in
    let here = same b in
    sum_by-cons f (slice_index w (block_of n b + 0), blob b) (entries_of n w blob bs) ∙ (λ i. here i + rest i) ∙ sym (sum_by-cons g b bs)

-- a sum over the keys is one over the nodes of the region
pub blocks_total : {n : ℕ} {w : List ℕ} {f : ℕ → List ℕ} {s : BlobState} {k : ℕ} → IsBlobs n w f s k → (measure : Measure) → total_of measure s ≡ sum_by (counted_at measure n w) (blocks_of_buckets n f)
blocks_total {n} {w} {f} {s} {k} is measure =
    let each : ℕ × Blob → ℕ = λ e. amount measure (length e.1.bytes) in
    let es = entries_of n w (blob_at n w) (blocks_of_buckets n f) in
    ap (λ (m : BlobState). total_of measure m) (sym is.state_is) ∙ sum_entries each es (once is.keys (blob_at n w))
    ∙ entries_sum n w (blob_at n w) each (counted_at measure n w) (λ b. ap (amount measure) (long_at w (data_at n w b) (len_at n w b))) (blocks_of_buckets n f)

pub units_total : (s : BlobState) → units_in s ≡ total_of Units s
units_total s = sum-map (λ e. units_of e.1) (finite.entries s)
