-- A region stands for one state and one count.
use Rattle.std.proofs.Common.{◌≡◌, ℕ, ◌≤◌, List, length, sym, ◌∙◌, ap}
use Rattle.std.specs.Prelude.{slice_index}
use Rattle.std.specs.FinMap as finite
use Rattle.rom_model.specs.History.{LAST_COUNT}
use Rattle.rom_model.specs.Blocks.{region_len}
use Rattle.rom_model.specs.Region.{buckets}
use Rattle.rom_model.proofs.Contents.{one_chain, one_all}
use Rattle.rom_bucket.specs.Walk.{head_of}
use Rattle.rom_bucket.specs.Buckets.{entries_of}
use Rattle.rom_blob_region.specs.State.{BlobState}
use Rattle.rom_blob_region.specs.Region.{blob_at, BlobContents}

pub one_contents : {n : ℕ} {w : List ℕ} {s t : BlobState} {k j : ℕ} → BlobContents n w s k → BlobContents n w t j → (s ≡ t) × (k ≡ j)
one_contents {n} {w} {s} {t} {k} {j} one two = (
  sym one.1.state_is ∙ ap (λ bs. finite.from_entries (entries_of n w (blob_at n w) bs)) (one_all one.0 two.0 (buckets n) (λ i lt. one_chain n (head_of n i) 2 w (one.0 i) (two.0 i) (one.1.keys.chains i lt) (two.1.keys.chains i lt))) ∙ two.1.state_is,
  sym one.1.root.count_is ∙ two.1.root.count_is,
)

pub contents_within : {n : ℕ} {w : List ℕ} {s : BlobState} {k : ℕ} → BlobContents n w s k → (length w ≡ region_len n) × (slice_index w 2 ≡ k) × (k ≤ LAST_COUNT) × (slice_index w 0 ≡ 2)
contents_within is = (is.1.as_long, is.1.root.count_is, is.1.root.count_fits, is.1.root.kind)
