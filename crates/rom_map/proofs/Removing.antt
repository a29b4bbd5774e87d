-- The region once a node was unlinked and its block given back.
use Rattle.std.proofs.Common.{◌≡◌, ℕ, ◌+◌, ◌-◌, ◌*◌, ◌^◌, ◌<◌, ◌≤◌, Bool, true, List, [], ◌∷◌, ◌++◌, ◌∙◌, subst, arith}
use Rattle.std.specs.FinMap as finite
use Rattle.rom_model.specs.Space.{ChangesOnly}
use Rattle.rom_model.specs.State.{State}
use Rattle.rom_model.specs.Blocks.{IsNode, IsDisjoint, AreWords, giving, block_at, block_of}
use Rattle.rom_model.specs.Chains.{times}
use Rattle.rom_model.specs.Region.{Chains, buckets, bucket_of, element_blocks, taken_by, IsRegion}
use Rattle.rom_model.proofs.Times.{times_away, times_bucket}
use Rattle.rom_model.proofs.Nodes.{pow_positive}
use Rattle.rom_model.proofs.Members.{member_taken, quarter_pow}
use Rattle.rom_model.proofs.Elements.{AreElements, one_fewer}
use Rattle.rom_model.proofs.Frames.{pairs_same, tree_part, part_then}
use Rattle.rom_model.proofs.Room.{times_members, tree_stays, region_disjoint}
use Rattle.rom_block.specs.Taken.{IsTakenAt}
use Rattle.rom_bucket.specs.Link.{IsNodeUnlinked}
use Rattle.rom_bucket.specs.Buckets.{There}
use Rattle.rom_bucket.specs.declared.walk.Place.{Place}
use Rattle.rom_bucket.proofs.Heads.{four_each}
use Rattle.rom_bucket.proofs.Removed as gone
use Rattle.rom_map.specs.Map.{with_bucket, table_block, IsDeleted}
use Rattle.rom_map.proofs.Keyed.{map_keys}
use Rattle.rom_map.proofs.Regions.{map_stays, version_stays, remapped}
use Rattle.rom_map.proofs.Removed.{one_block_fewer, removed_map, removed_version, removed_part, pairs_stay}

module _ {n : ℕ} {w : List ℕ} {p : Chains} {s : State} {k key : ℕ} {place : Place} (le : 4 ≤ n) (is : IsRegion n w p s k) (within : bucket_of n key < buckets n) (t : There n w p.bucket key place) where
  module _ {w1 : List ℕ} (un : IsNodeUnlinked 9 place w w1) where
    abbrev own : ℕ
    own = bucket_of n key

    abbrev taken : ℕ → Bool
    taken = taken_by n (element_blocks n p)

    node : IsNode (n - 0) (2 ^ n + t.block)
    node = let e : n ≡ n - 0 = omega arith in subst (λ d. IsNode d (2 ^ n + t.block)) e record { least = omega arith; most = omega (arith, t.within) }

    at : place.node ≡ block_at n 0 (2 ^ n + t.block)
    at = t.node_is ∙ (let unit : block_of n t.block ≡ block_at n 0 (2 ^ n + t.block) = omega arith in unit)

    held : taken (2 ^ n + t.block) ≡ true
    held = member_taken n t.block (element_blocks n p) (omega (arith, quarter_pow n le, pow_positive (n - 4), t.within)) (omega (arith, times_members n p t.block, t.among))

    words : AreWords n taken w1
    words = tree_stays n taken w w1 (λ j least most. gone.removed_low le (omega arith) (map_keys is) within t un j most (omega (arith, least))) is.shape.tree

    -- the block may be given back
    pub may_give : IsTakenAt n 0 place.node w1
    may_give = (taken, 2 ^ n + t.block, region_disjoint le is, words, node, at, held)

    abbrev next : Chains
    next = with_bucket p own (t.front ++ t.back)

    abbrev touched : List ℕ
    touched = table_block own ∷ p.bucket own

    away : (c : ℕ) → 0 < times c p.queue + times c p.set → times c touched ≡ 0
    away c some =
        let low = (is.shape.within c (omega (arith, some, times_members n p c))).0 in
        let none : times c (p.bucket own) ≡ 0 = omega (arith, some, times_members n p c, is.shape.different c, times_bucket p.bucket (buckets n) own c within) in
        times_away c (table_block own) (p.bucket own) (λ e. absurd (omega (arith, e, low, within, four_each n le))) ∙ none

    elements : AreElements n (giving (2 ^ n + t.block) taken) next
    elements = one_fewer le is.shape next t.block (λ c. omega (arith, times_members n next c, times_members n p c, one_block_fewer le is within t un c))

    -- after it was given back
    pub deleted : (w2 : List ℕ) → ((taken : ℕ → Bool) (x : ℕ) → IsDisjoint n taken → AreWords n taken w1 → IsNode (n - 0) x → place.node ≡ block_at n 0 x → taken x ≡ true → IsDisjoint n (giving x taken) × AreWords n (giving x taken) w2)
        → ChangesOnly 17 (2 * 2 ^ n - 1) w1 w2 → IsDeleted n w p s k key w2
    deleted w2 given only =
        let part = part_then n 9 10 touched [] touched w w1 w2 (λ b some. some) (λ b some. absurd (omega (arith, some))) (removed_part le is within t un) (tree_part n 9 10 w1 w2 only) in
        record {
          block = t.block;
          holds = t.holds;
          front = t.front;
          back = t.back;
          blocks = t.blocks;
          kept = λ j lt. only.behind (block_of n t.block + j) (omega (arith, pow_positive n)) ∙ gone.block_stays le (omega arith) (map_keys is) within t un j lt;
          stay = pairs_same n w1 w2 (t.front ++ t.back) (λ c j link lt some. only.behind (block_of n c + j) (omega (arith, pow_positive n))) ∙ pairs_stay le is within t un;
          becomes = record {
            region = remapped is w2 touched 10 (omega arith) next.bucket (finite.remove s.pairs key) part away elements (given taken (2 ^ n + t.block) (region_disjoint le is) words node at held).1
                (map_stays w2 only (removed_map le is within t un)) (version_stays w2 only (removed_version le is within t un));
            others = part;
          };
        }
