-- The map without a block of one bucket.
use Rattle.std.proofs.Common.{◌≡◌, ⊎_elim, ℕ, ◌+◌, ◌<◌, ◌≤◌, List, [], ◌∷◌, ◌++◌, ◌∙◌, ap, arith}
use Rattle.std.specs.FinMap as finite
use Rattle.rom_model.specs.State.{State}
use Rattle.rom_model.specs.Chains.{times, stamped_at, each_pair}
use Rattle.rom_model.specs.Region.{Chains, buckets, bucket_of, map_blocks, IsMap, IsVersion, IsRegion, ChangesPart}
use Rattle.rom_model.proofs.Times.{times_here, times_more, times-append}
use Rattle.rom_model.proofs.Nodes.{pow_positive}
use Rattle.rom_model.proofs.Frames.{pairs_same}
use Rattle.rom_model.proofs.Links.{link_in}
use Rattle.rom_bucket.specs.Walk.{head_of}
use Rattle.rom_bucket.specs.Link.{IsNodeUnlinked}
use Rattle.rom_bucket.specs.Buckets.{There}
use Rattle.rom_bucket.specs.declared.walk.Place.{Place}
use Rattle.rom_bucket.proofs.Keys.{in_all}
use Rattle.rom_bucket.proofs.Ordered.{removed_rising}
use Rattle.rom_bucket.proofs.Removed.{one_node_fewer, node_stays, stood_all, removed_buckets, removed_keyed, removed_low}
use Rattle.rom_map.specs.Map.{with_bucket, table_block}
use Rattle.rom_map.proofs.Keyed.{map_keys, map_pairs, map_of}

module _ {n : ℕ} {w w' : List ℕ} {p : Chains} {s : State} {k key : ℕ} {place : Place} (le : 4 ≤ n) (is : IsRegion n w p s k) (within : bucket_of n key < buckets n) (t : There n w p.bucket key place) (un : IsNodeUnlinked 9 place w w') where
  abbrev own : ℕ
  own = bucket_of n key

  abbrev next : Chains
  next = with_bucket p own (t.front ++ t.back)

  root : 9 ≤ 16
  root = omega arith

  in_own : (c : ℕ) → times c (p.bucket own) ≡ times c t.front + times c (t.block ∷ t.back)
  in_own c = ap (times c) t.blocks ∙ times-append c t.front (t.block ∷ t.back)

  pub one_block_fewer : (c : ℕ) → times c (map_blocks n p) ≡ times c (map_blocks n next) + times c (t.block ∷ [])
  one_block_fewer c = one_node_fewer le root (map_keys is) within t un c

  stood : (c : ℕ) → 0 < times c (map_blocks n next) → 0 < times c (map_blocks n p)
  stood c some = stood_all le root (map_keys is) within t un c some

  -- the bucket's other blocks keep all words but the links
  pub pairs_stay : each_pair n w' (t.front ++ t.back) ≡ each_pair n w (t.front ++ t.back)
  pairs_stay = pairs_same n w w' (t.front ++ t.back) (λ c j link lt some.
      let among : 0 < times c (map_blocks n p) = in_all (map_keys is) own within c (omega (arith, some, times-append c t.front t.back, in_own c, times_more c t.block t.back)) in
      node_stays le root (map_keys is) within t un c j among lt link)

  still_has : (c : ℕ) → 0 < times c (map_blocks n next) → stamped_at n w' c ≡ stamped_at n w c
  still_has c some =
      let one = node_stays le root (map_keys is) within t un c 1 (stood c some) (omega arith) (omega arith) in
      let three = node_stays le root (map_keys is) within t un c 3 (stood c some) (omega arith) (omega arith) in
      λ i. record { value = one i; stamp = three i }

  pub removed_map : IsMap n w' next (finite.remove s.pairs key)
  removed_map = map_of (removed_buckets le root (map_keys is) within t un) (removed_keyed le root (map_keys is) within t un (stamped_at n w) (stamped_at n w') still_has ∙ ap (λ pairs. finite.remove pairs key) (map_pairs is))

  pub removed_version : IsVersion n w' next k
  removed_version = record {
    version = removed_low le root (map_keys is) within t un 1 (omega arith) (omega arith) ∙ is.version.version;
    rising = removed_rising le root (map_keys is) within t un is.version.rising;
    stamps = λ c some. omega (arith, node_stays le root (map_keys is) within t un c 3 (stood c some) (omega arith) (omega arith), is.version.stamps c (stood c some));
  }

  pub removed_part : ChangesPart n 9 10 (table_block own ∷ p.bucket own) w w'
  removed_part = record {
    as_long = un.as_long;
    root = λ a small apart. removed_low le root (map_keys is) within t un a (omega (arith, small, pow_positive n)) (λ e. ⊎_elim (λ lt. absurd (omega (arith, e, lt))) (λ ge. absurd (omega (arith, e, ge))) apart);
    others = λ a high outside. un.others a
        (λ e. ⊎_elim
        (λ at. outside (table_block own) (omega (arith, times_here (table_block own) (p.bucket own))) (omega (arith, e, t.link_is, at), omega (arith, e, t.link_is, at)))
        (λ x. outside x.0 (omega (arith, times_more x.0 (table_block own) (p.bucket own), in_own x.0, x.1)) (omega (arith, e, t.link_is, x.2), omega (arith, e, t.link_is, x.2)))
        (link_in n (head_of n own) 2 t.front))
        (λ e. absurd (omega (arith, e, high)));
  }
