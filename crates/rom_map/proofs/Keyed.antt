-- The map of a region as keys in the chains of buckets, where a key's value and its stamp are its node's second and fourth word.
use Rattle.std.proofs.Common.{◌≡◌, ℕ, ◌-◌, ◌^◌, ◌<◌, ◌≤◌, List, length, sym, ◌∙◌, ap, arith}
use Rattle.std.specs.Ordering.{nat_cmp}
use Rattle.std.specs.FinMap as finite
use Rattle.rom_model.specs.State.{State, Stamped}
use Rattle.rom_model.specs.Chains.{times, stamped_at}
use Rattle.rom_model.specs.Region.{Chains, map_blocks, IsMap, IsVersion, IsRegion}
use Rattle.rom_model.proofs.Contents.{keys_differ}
use Rattle.rom_model.proofs.Room.{times_members}
use Rattle.rom_bucket.specs.Buckets.{AreBuckets, keyed}
use Rattle.rom_bucket.specs.declared.node.Node.{Node}
use Rattle.rom_bucket.proofs.Keys as keys

-- the node of a key with its value and its stamp
abbrev pub node_of : ℕ → ℕ → ℕ → Node
node_of key value stamp = record { key = key; second = value; last = stamp }

pub buckets_of : {n : ℕ} {w : List ℕ} {p : Chains} {pairs : finite.FinMap nat_cmp Stamped} {count : ℕ} → IsMap n w p pairs → IsVersion n w p count → ((b : ℕ) → times b (map_blocks n p) ≤ 1)
    → ((b : ℕ) → 0 < times b (map_blocks n p) → (2 ^ (n - 4) ≤ b) × (b < 2 ^ n)) → AreBuckets n 9 w p.bucket
buckets_of map version different within = record {
  chains = map.chains;
  len = map.len;
  own_bucket = map.own_bucket;
  keys_differ = keys_differ version;
  different = different;
  within = within;
}

pub map_of : {n : ℕ} {w : List ℕ} {p : Chains} {pairs : finite.FinMap nat_cmp Stamped} → AreBuckets n 9 w p.bucket → keyed n w (stamped_at n w) p.bucket ≡ pairs → IsMap n w p pairs
map_of are pairs_are = record {
  chains = are.chains;
  len = are.len;
  own_bucket = are.own_bucket;
  pairs_are = pairs_are;
}

module _ {n : ℕ} {w : List ℕ} {p : Chains} {s : State} {k : ℕ} (is : IsRegion n w p s k) where
  pub map_keys : AreBuckets n 9 w p.bucket
  map_keys = buckets_of is.shape.map is.version (λ b. omega (arith, is.shape.different b, times_members n p b)) (λ b some. is.shape.within b (omega (arith, some, times_members n p b)))

  pub map_pairs : keyed n w (stamped_at n w) p.bucket ≡ s.pairs
  map_pairs = is.shape.map.pairs_are

  pub many : finite.len s.pairs ≡ length (map_blocks n p)
  many = ap (λ m. finite.len m) (sym map_pairs) ∙ keys.many map_keys (stamped_at n w)
