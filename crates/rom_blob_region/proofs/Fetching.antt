-- What the search for a key tells of a region.
use Rattle.std.proofs.Common.{◌≡◌, ◌≢◌, ℕ, ◌+◌, ◌-◌, ◌*◌, ◌^◌, ◌<◌, ◌≤◌, List, length, sym, ◌∙◌, ap, subst, arith}
use Rattle.std.specs.Prelude.{slice_index, None, Some}
use Rattle.std.specs.FinMap as finite
use Rattle.rom_model.specs.Space.{ShownSpace, Looks}
use Rattle.rom_model.specs.Blocks.{IsOrder, block_of}
use Rattle.rom_model.proofs.Nodes.{pow_small}
use Rattle.rom_bucket.specs.Walk.{Finds}
use Rattle.rom_bucket.specs.Buckets.{There, keys_beside}
use Rattle.rom_bucket.specs.declared.walk.Place.{Place}
use Rattle.rom_bucket.proofs.Finding.{node, looked_beside, sooner_beside, no_value, value_there}
use Rattle.rom_blob_region.specs.Bytes.{words_for}
use Rattle.rom_blob_region.specs.State.{BlobState}
use Rattle.rom_blob_region.specs.Region.{len_at, data_at, blob_at, IsBlob, IsBlobs}
use Rattle.rom_blob_region.proofs.Beside.{block_least, block_most}
use Rattle.rom_blob_region.proofs.Places.{in_body}

-- the bytes of a key lie inside of the region
pub body_inside : (n : ℕ) (w : List ℕ) (b : ℕ) → 4 ≤ n → IsBlob n w b → len_at n w b ≢ 0 → (block_of n 0 ≤ data_at n w b) × (data_at n w b + words_for (len_at n w b) ≤ 16 + 6 * 2 ^ n)
body_inside n w b le is some =
    let x = is.block some in
    let len = len_at n w b in
    let last = words_for len - 1 in
    let first = in_body n len x.0 (data_at n w b) 0 le is.few x.1 x.2 (omega (arith, some)) in
    let end = in_body n len x.0 (data_at n w b) last le is.few x.1 x.2 (omega (arith, some)) in
    (omega (arith, block_least n x.0 (data_at n w b + 0) first), omega (arith, block_most n x.0 (data_at n w b + last) end))

module _ {M : Type 0} {shown : ShownSpace M} {n key : ℕ} {place : Place} {old mid : M} {f : ℕ → List ℕ} {s : BlobState} {k : ℕ} (o : IsOrder n) (is : IsBlobs n (shown.image old) f s k) (finds : Finds shown n key place old mid) where
  abbrev w : List ℕ
  w = shown.image old

  pub looked : Looks shown (1 + 2 * keys_beside n s key) old mid
  looked = subst (λ (m : BlobState). Looks shown (1 + 2 * keys_beside n m key) old mid) is.state_is (looked_beside o is.keys finds (blob_at n w))

  pub stays : shown.image mid ≡ w
  stays = looked.image

  -- where there is no node
  pub gone : place.node ≡ 0 → finite.get s key ≡ None
  gone none = ap (λ (m : BlobState). finite.get m key) (sym is.state_is) ∙ no_value o is.keys finds (blob_at n w) none

  -- where there is one
  module _ (some : place.node ≡ 0 → ⊥) where
    pub spot : There n w f key place
    spot = node o is.keys finds some

    pub sooner : Looks shown (2 * keys_beside n s key) old mid
    sooner = subst (λ (m : BlobState). Looks shown (2 * keys_beside n m key) old mid) is.state_is (sooner_beside o is.keys finds (blob_at n w) spot)

    pub has : finite.get s key ≡ Some (blob_at n w spot.block)
    has = ap (λ (m : BlobState). finite.get m key) (sym is.state_is) ∙ value_there o is.keys finds (blob_at n w) spot

    pub fits : IsBlob n w spot.block
    fits = is.blobs spot.block spot.among

    pub inside : place.node + 4 ≤ length (shown.image mid)
    inside = omega (arith, spot.node_is, spot.within, is.as_long, ap length stays)

    pub small : place.node < 2 ^ 32
    small = omega (arith, inside, is.as_long, ap length stays, pow_small n o.most)

    pub len_is : slice_index (shown.image mid) (place.node + 1) ≡ len_at n w spot.block
    len_is = ap (λ (v : List ℕ). slice_index v (place.node + 1)) stays ∙ ap (λ a. slice_index w (a + 1)) spot.node_is

    pub data_is : slice_index (shown.image mid) (place.node + 3) ≡ data_at n w spot.block
    data_is = ap (λ (v : List ℕ). slice_index v (place.node + 3)) stays ∙ ap (λ a. slice_index w (a + 3)) spot.node_is

    pub body_within : len_at n w spot.block ≢ 0 → data_at n w spot.block + words_for (len_at n w spot.block) ≤ length (shown.image mid)
    body_within is_some = omega (arith, body_inside n w spot.block o.least fits is_some, is.as_long, ap length stays)

    pub body_small : len_at n w spot.block ≢ 0 → data_at n w spot.block < 2 ^ 32
    body_small is_some = omega (arith, body_inside n w spot.block o.least fits is_some, pow_small n o.most)
