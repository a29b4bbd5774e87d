-- A block that was taken, and goes to its key's place in a bucket.
use Rattle.std.proofs.Common.{◌≡◌, ◌≢◌, ◌⊎◌, ℕ, ◌+◌, ◌-◌, ◌*◌, ◌^◌, ◌<◌, ◌≤◌, Bool, false, List, [], ◌∷◌, ◌++◌, ◌∙◌, ap, sym, subst, arith}
use Rattle.std.specs.Prelude.{slice_index}
use Rattle.rom_model.specs.Space.{ChangesOnly}
use Rattle.rom_model.specs.State.{State, live, cap, written}
use Rattle.rom_model.specs.Blocks.{IsLowest, IsDisjoint, AreWords, taking, block_at, block_of, region_len}
use Rattle.rom_model.specs.Chains.{times, each_word}
use Rattle.rom_model.specs.Region.{Chains, buckets, bucket_of, map_blocks, element_blocks, taken_by, IsMap, IsVersion, IsRegion}
use Rattle.rom_model.proofs.Times.{times_away, times-append, times_bucket}
use Rattle.rom_model.proofs.Nodes.{pow_positive, pow_small}
use Rattle.rom_model.proofs.Members.{NewBlock}
use Rattle.rom_model.proofs.Elements.{AreElements, one_more}
use Rattle.rom_model.proofs.Frames.{tree_part, part_then, each_same, pairs_same}
use Rattle.rom_model.proofs.Room.{times_members, tree_stays, region_disjoint, new_block, not_full}
use Rattle.rom_block.specs.Taken.{Takes}
use Rattle.rom_bucket.specs.Link.{IsNodeLinked}
use Rattle.rom_bucket.specs.Buckets.{Between}
use Rattle.rom_bucket.specs.Rising.{IsSought}
use Rattle.rom_bucket.specs.declared.rising.Sought.{Sought}
use Rattle.rom_bucket.proofs.Heads.{four_each}
use Rattle.rom_bucket.proofs.Keys.{few}
use Rattle.rom_bucket.proofs.Places.{link_high, link_inside}
use Rattle.rom_bucket.proofs.Added.{MayAdd, link_outside, link_differs, added_tree}
use Rattle.rom_bucket.proofs.Ordered.{sought_same, between, over}
use Rattle.rom_map.specs.Map.{with_bucket, table_block, IsAddedToMap}
use Rattle.rom_map.proofs.Keyed.{node_of, buckets_of, map_keys}
use Rattle.rom_map.proofs.Regions.{map_stays, version_stays, remapped}
use Rattle.rom_map.proofs.Added.{one_block_more, added_has, added_map, added_version, added_stay, added_part}

module _ {n : ℕ} {w : List ℕ} {p : Chains} {s : State} {k : ℕ} (le : 4 ≤ n) (is : IsRegion n w p s k) {w1 : List ℕ} {at : ℕ} (only : ChangesOnly 17 (2 * 2 ^ n - 1) w w1)
    (take : (taken : ℕ → Bool) → IsDisjoint n taken → AreWords n taken w → Takes n 0 taken w1 at) where
  takes : Takes n 0 (taken_by n (element_blocks n p)) w1 at
  takes = take (taken_by n (element_blocks n p)) (region_disjoint le is) is.shape.tree

  new : NewBlock n takes.node (element_blocks n p)
  new = new_block le is takes.node takes.lowest

  -- there was room
  pub had_room : live s < cap n
  had_room = not_full le is takes.node new

  here : at ≡ block_of n new.block
  here = takes.here ∙ (let unit : block_at n 0 takes.node ≡ block_of n new.block = omega (arith, new.node_is) in unit)

  pub at_least : block_of n (2 ^ (n - 4)) ≤ at
  at_least = omega (arith, here, new.least)

  pub at_most : at + 4 ≤ region_len n
  at_most = omega (arith, here, new.most)

  pub size_small : n ≤ 16 → slice_index w1 9 < 2 ^ 63
  size_small most = omega (arith, only.before 9 (omega arith), is.shape.map.len, few (map_keys is), pow_small n most)

  -- the tree's words are none of a block
  block_same : (c j : ℕ) → slice_index w1 (block_of n c + j) ≡ slice_index w (block_of n c + j)
  block_same c j = only.behind (block_of n c + j) (omega (arith, pow_positive n))

  module _ {key : ℕ} {sought : Sought} (lt : bucket_of n key < buckets n) (none : times key (each_word n w 0 (map_blocks n p)) ≡ 0) (stopped : IsSought n w (p.bucket (bucket_of n key)) key sought) where
    abbrev map : IsMap n w1 p s.pairs
    map = map_stays w1 only is.shape.map

    abbrev version : IsVersion n w1 p k
    version = version_stays w1 only is.version

    may_add : MayAdd n 9 w1 p.bucket key new.block
    may_add = record {
      least = le;
      root = omega arith;
      are = buckets_of map version (map_keys is).different (map_keys is).within;
      block_late = new.least;
      block_most = new.most;
      absent = omega (arith, new.absent, times_members n p new.block);
      within = lt;
      missing = ap (times key) (each_same n 0 w w1 (map_blocks n p) (λ c some. block_same c 0)) ∙ none;
    }

    abbrev stops : IsSought n w1 (p.bucket (bucket_of n key)) key sought
    stops = sought_same w1 (λ c some. block_same c 0) stopped

    abbrev spot : Between n p.bucket key sought.place
    spot = between may_add.are version.rising lt stops

    -- the link stands inside of the region, beside the block, and leads elsewhere
    pub place_high : block_of n 0 ≤ sought.place.link
    place_high = link_high le may_add.are lt spot

    pub place_inside : sought.place.link < region_len n
    place_inside = link_inside le may_add.are lt spot

    pub place_outside : (sought.place.link < at) ⊎ (at + 4 ≤ sought.place.link)
    place_outside = subst (λ a. (sought.place.link < a) ⊎ (a + 4 ≤ sought.place.link)) (sym here) (link_outside may_add spot)

    pub place_differs : slice_index w1 sought.place.link ≢ at
    place_differs e = link_differs may_add spot (e ∙ here)

    module _ (missing : sought.found ≡ false) (value stamp : ℕ) (most : stamp ≤ k) (w2 : List ℕ) (linked : IsNodeLinked 9 sought.place (block_of n new.block) (node_of key value stamp) w1 w2) where
      abbrev own : ℕ
      own = bucket_of n key

      abbrev next : Chains
      next = with_bucket p own (spot.front ++ new.block ∷ spot.back)

      abbrev touched : List ℕ
      touched = table_block own ∷ new.block ∷ spot.front

      away : (c : ℕ) → 0 < times c p.queue + times c p.set → times c touched ≡ 0
      away c some =
          let low : 2 ^ (n - 4) ≤ c = (is.shape.within c (omega (arith, some, times_members n p c))).0 in
          let other : new.block ≢ c = λ e. absurd (omega (arith, some, times_members n p c, ap (λ x. times x (element_blocks n p)) e, new.absent)) in
          let front : times c spot.front ≡ 0 = omega (arith, some, times_members n p c, is.shape.different c, times_bucket p.bucket (buckets n) own c lt, ap (times c) spot.blocks, times-append c spot.front spot.back) in
          times_away c (table_block own) (new.block ∷ spot.front) (λ e. absurd (omega (arith, e, low, lt, four_each n le))) ∙ times_away c new.block spot.front other ∙ front

      elements : AreElements n (taking takes.node (taken_by n (element_blocks n p))) next
      elements = one_more le is.shape next takes.node new (λ c. omega (arith, times_members n next c, times_members n p c, one_block_more may_add map.pairs_are version most stops missing linked c))

      added_block : IsAddedToMap n w p s k key value stamp w2
      added_block =
          let part = part_then n 9 10 [] touched touched w w1 w2 (λ b some. absurd (omega (arith, some))) (λ b some. some) (tree_part n 9 10 w w1 only) (added_part may_add map.pairs_are version most stops missing linked) in
          record {
            front = stopped.walked.front;
            block = new.block;
            back = stopped.walked.back;
            blocks = stopped.walked.blocks_are;
            below = stopped.walked.below;
            above = over (map_keys is) is.version.rising lt stopped missing;
            lowest = subst (λ x. IsLowest n (taken_by n (element_blocks n p)) 0 x) new.node_is takes.lowest;
            holds = (let plain : block_of n new.block + 0 ≡ block_of n new.block = omega arith in ap (λ a. slice_index w2 a) plain) ∙ linked.key_is;
            has = added_has may_add map.pairs_are version most stops missing linked;
            stay = added_stay may_add map.pairs_are version most stops missing linked ∙ pairs_same n w w1 (spot.front ++ spot.back) (λ c j link small some. block_same c j);
            becomes = record {
              region = remapped is w2 touched 10 (omega arith) next.bucket (written s.pairs stamp key value) part away elements (tree_stays n (taking takes.node (taken_by n (element_blocks n p))) w1 w2 (added_tree may_add spot linked) takes.words_are) (added_map may_add map.pairs_are version most stops missing linked)
                  (added_version may_add map.pairs_are version most stops missing linked);
              others = part;
            };
          }

    pub added : sought.found ≡ false → (value stamp : ℕ) → stamp ≤ k → (w2 : List ℕ) → IsNodeLinked 9 sought.place at (node_of key value stamp) w1 w2 → IsAddedToMap n w p s k key value stamp w2
    added missing value stamp most w2 linked = added_block missing value stamp most w2 (subst (λ a. IsNodeLinked 9 sought.place a (node_of key value stamp) w1 w2) here linked)
