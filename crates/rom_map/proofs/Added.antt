-- The map with one more block, at the place where its key's bucket wants it.
use Rattle.std.proofs.Common.{◌≡◌, inl, inr, ⊎_elim, ℕ, ◌+◌, ◌<◌, ◌≤◌, false, List, [], ◌∷◌, ◌++◌, ◌∙◌, ap, subst, arith}
use Rattle.std.specs.Prelude.{slice_index}
use Rattle.std.specs.Ordering.{nat_cmp}
use Rattle.std.specs.FinMap as finite
use Rattle.std.proofs.lemmas.Bool.{cases_eq, cases_lt}
use Rattle.rom_model.specs.State.{Stamped, written}
use Rattle.rom_model.specs.Blocks.{block_of}
use Rattle.rom_model.specs.Chains.{times, stamped_at, each_pair}
use Rattle.rom_model.specs.Region.{Chains, bucket_of, map_blocks, IsMap, IsVersion, ChangesPart}
use Rattle.rom_model.proofs.Times.{times_here, times_away, times_more}
use Rattle.rom_model.proofs.Frames.{pairs_same}
use Rattle.rom_model.proofs.Links.{link_in}
use Rattle.rom_bucket.specs.Walk.{head_of}
use Rattle.rom_bucket.specs.Link.{IsNodeLinked}
use Rattle.rom_bucket.specs.Buckets.{Between, keyed}
use Rattle.rom_bucket.specs.Rising.{IsSought}
use Rattle.rom_bucket.specs.declared.rising.Sought.{Sought}
use Rattle.rom_bucket.proofs.Keys.{in_all}
use Rattle.rom_bucket.proofs.Ordered.{between, added_rising}
use Rattle.rom_bucket.proofs.Added.{MayAdd, one_node_more, node_stays, added_buckets, added_keyed, added_root}
use Rattle.rom_map.specs.Map.{with_bucket, table_block}
use Rattle.rom_map.proofs.Keyed.{node_of, map_of}

module _ {n : ℕ} {w w' : List ℕ} {p : Chains} {pairs : finite.FinMap nat_cmp Stamped} {count key block value stamp : ℕ} {sought : Sought} (may : MayAdd n 9 w p.bucket key block) (pairs_are : keyed n w (stamped_at n w) p.bucket ≡ pairs) (version : IsVersion n w p count) (most : stamp ≤ count)
    (at : IsSought n w (p.bucket (bucket_of n key)) key sought) (missing : sought.found ≡ false) (linked : IsNodeLinked 9 sought.place (block_of n block) (node_of key value stamp) w w') where
  abbrev pub spot : Between n p.bucket key sought.place
  spot = between may.are version.rising may.within at

  abbrev own : ℕ
  own = bucket_of n key

  abbrev next : Chains
  next = with_bucket p own (spot.front ++ block ∷ spot.back)

  pub one_block_more : (c : ℕ) → times c (map_blocks n next) ≡ times c (map_blocks n p) + times c (block ∷ [])
  one_block_more c = one_node_more may spot linked c

  -- what the key has there, and the others
  pub added_has : stamped_at n w' block ≡ record { value = value; stamp = stamp }
  added_has = λ i. record { value = linked.second_is i; stamp = linked.last_is i }

  still_has : (c : ℕ) → 0 < times c (map_blocks n p) → stamped_at n w' c ≡ stamped_at n w c
  still_has c some =
      let one = node_stays may spot linked c 1 some (omega arith) (omega arith) in
      let three = node_stays may spot linked c 3 some (omega arith) (omega arith) in
      λ i. record { value = one i; stamp = three i }

  pub added_map : IsMap n w' next (written pairs stamp key value)
  added_map = map_of (added_buckets may spot linked) (added_keyed may spot linked (stamped_at n w) (stamped_at n w') still_has ∙ (λ i. finite.insert (pairs_are i) key (added_has i)))

  stamps : (c : ℕ) → 0 < times c (map_blocks n next) → slice_index w' (block_of n c + 3) ≤ count
  stamps c some = elim (cases_eq block c) [
    | inl same ↦ subst (λ b. slice_index w' (block_of n b + 3) ≤ count) same (omega (arith, linked.last_is, most))
    | inr ne ↦
        let old : 0 < times c (map_blocks n p) = omega (arith, some, one_block_more c, times_away c block [] ne) in
        omega (arith, node_stays may spot linked c 3 old (omega arith) (omega arith), version.stamps c old)
  ]

  pub added_version : IsVersion n w' next count
  added_version = record {
    version = added_root may spot linked 1 (omega arith) (omega arith) ∙ version.version;
    rising = added_rising may version.rising at missing linked;
    stamps = stamps;
  }

  -- the bucket's other blocks keep all words but the links
  pub added_stay : each_pair n w' (spot.front ++ spot.back) ≡ each_pair n w (spot.front ++ spot.back)
  added_stay = pairs_same n w w' (spot.front ++ spot.back) (λ c j link lt some. node_stays may spot linked c j (in_all may.are own may.within c (omega (arith, some, ap (times c) spot.blocks))) lt link)

  pub added_part : ChangesPart n 9 10 (table_block own ∷ block ∷ spot.front) w w'
  added_part = record {
    as_long = linked.as_long;
    root = λ k small apart. added_root may spot linked k small (λ e. ⊎_elim (λ lt. absurd (omega (arith, e, lt))) (λ ge. absurd (omega (arith, e, ge))) apart);
    others = λ k late outside. linked.others k
        (elim (cases_lt k (block_of n block)) [
          | inl lt ↦ inl lt
          | inr ge ↦ elim (cases_lt k (block_of n block + 4)) [
            | inl inside ↦ absurd (outside block (omega (arith, times_more block (table_block own) (block ∷ spot.front), times_here block spot.front)) (ge, inside))
            | inr le ↦ inr le
          ]
        ])
        (λ e. ⊎_elim
        (λ head. outside (table_block own) (omega (arith, times_here (table_block own) (block ∷ spot.front))) (omega (arith, e, spot.link_is, head), omega (arith, e, spot.link_is, head)))
        (λ x. outside x.0 (omega (arith, times_more x.0 (table_block own) (block ∷ spot.front), times_more x.0 block spot.front, x.1)) (omega (arith, e, spot.link_is, x.2), omega (arith, e, spot.link_is, x.2)))
        (link_in n (head_of n own) 2 spot.front))
        (λ e. absurd (omega (arith, e, late)));
  }
