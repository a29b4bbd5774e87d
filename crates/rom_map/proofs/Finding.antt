-- What the search for a key tells of a well-formed region.
use Rattle.std.proofs.Common.{◌≡◌, ℕ, ◌+◌, ◌*◌, ◌^◌, ◌<◌, ◌≤◌, true, false, List, length, sym, ◌∙◌, ap, subst, arith}
use Rattle.std.specs.Prelude.{slice_index, None, Some, option_map}
use Rattle.std.specs.FinMap as finite
use Rattle.rom_model.specs.Space.{ShownSpace, Looks}
use Rattle.rom_model.specs.State.{State, Stamped, value_of}
use Rattle.rom_model.specs.Blocks.{IsOrder, block_of}
use Rattle.rom_model.specs.Chains.{times, each_word, stamped_at}
use Rattle.rom_model.specs.Walks.{keys_under, end_loads}
use Rattle.rom_model.specs.Region.{Chains, bucket_of, map_blocks, IsRegion}
use Rattle.rom_model.proofs.Nodes.{pow_small}
use Rattle.rom_bucket.specs.Buckets.{There}
use Rattle.rom_bucket.specs.Rising.{IsSought, Seeks}
use Rattle.rom_bucket.specs.declared.rising.Sought.{Sought}
use Rattle.rom_bucket.proofs.Found as found
use Rattle.rom_bucket.proofs.Ordered.{sought_same}
use Rattle.rom_map.specs.Map.{get_loads}
use Rattle.rom_map.proofs.Keyed.{map_keys, map_pairs}

module _ {M : Type 0} {shown : ShownSpace M} {n key : ℕ} {sought : Sought} {old mid : M} {p : Chains} {s : State} {k : ℕ} (o : IsOrder n) (region : IsRegion n (shown.image old) p s k) (seeks : Seeks shown n key sought old mid) where
  -- where the walk stopped
  abbrev pub stopped : IsSought n (shown.image old) (p.bucket (bucket_of n key)) key sought
  stopped = found.stopped o (map_keys region) region.version.rising seeks

  pub looked : Looks shown (get_loads n s.pairs key) old mid
  looked = subst (λ pairs. Looks shown (get_loads n pairs key) old mid) (map_pairs region) (found.looked o (map_keys region) region.version.rising seeks (stamped_at n (shown.image old)))

  pub image_same : shown.image mid ≡ shown.image old
  image_same = looked.image

  pub long : length (shown.image mid) ≡ 16 + 6 * 2 ^ n
  long = ap length image_same ∙ region.shape.as_long

  -- the same of the words after it
  pub still : IsRegion n (shown.image mid) p s k
  still = subst (λ v. IsRegion n v p s k) (sym image_same) region

  abbrev pub still_stopped : IsSought n (shown.image mid) (p.bucket (bucket_of n key)) key sought
  still_stopped = sought_same (shown.image mid) (λ c some. ap (λ v. slice_index v (block_of n c + 0)) image_same) stopped

  -- where the key is not there
  module _ (missing : sought.found ≡ false) where
    pub no_key : times key (each_word n (shown.image old) 0 (map_blocks n p)) ≡ 0
    no_key = found.no_key o (map_keys region) region.version.rising seeks missing

    pub still_no_key : times key (each_word n (shown.image mid) 0 (map_blocks n p)) ≡ 0
    still_no_key = ap (λ (v : List ℕ). times key (each_word n v 0 (map_blocks n p))) image_same ∙ no_key

    pub no_pair : finite.get s.pairs key ≡ None
    no_pair = ap (λ pairs. finite.get pairs key) (sym (map_pairs region)) ∙ found.no_value o (map_keys region) region.version.rising seeks (stamped_at n (shown.image old)) missing

    pub no_value : value_of s key ≡ None
    no_value = ap (option_map (λ (kept : Stamped). kept.value)) no_pair

  -- where it is
  module _ (has : sought.found ≡ true) where
    pub node : There n (shown.image old) p.bucket key sought.place
    node = found.node o (map_keys region) region.version.rising seeks has

    -- one load is left for the value
    pub sooner : Looks shown (2 * keys_under n s.pairs key + end_loads n s.pairs key) old mid
    sooner = subst (λ pairs. Looks shown (2 * keys_under n pairs key + end_loads n pairs key) old mid) (map_pairs region) (found.looked_found o (map_keys region) region.version.rising seeks (stamped_at n (shown.image old)) has)

    pub value : value_of s key ≡ Some (slice_index (shown.image old) (sought.place.node + 1))
    value =
        ap (λ pairs. option_map (λ (kept : Stamped). kept.value) (finite.get pairs key)) (sym (map_pairs region))
        ∙ ap (option_map (λ (kept : Stamped). kept.value)) (found.value_there o (map_keys region) region.version.rising seeks (stamped_at n (shown.image old)) node)
        ∙ ap (λ a. Some (slice_index (shown.image old) (a + 1))) (sym node.node_is)

    pub inside : sought.place.node + 4 ≤ length (shown.image mid)
    inside = omega (arith, node.node_is, node.within, long)

    pub small : sought.place.node < 2 ^ 32
    small = omega (arith, inside, long, pow_small n o.most)
