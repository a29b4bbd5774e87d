-- Regions, and what a call leaves of one.
use Rattle.std.proofs.Common.{◌≡◌, ◌≢◌, ℕ, ◌+◌, ◌*◌, ◌^◌, ◌<◌, ◌≤◌, Bool, List, [], ◌∷◌, length, sym, ◌∙◌, ap, subst, arith}
use Rattle.std.specs.Prelude.{slice_index, Some}
use Rattle.std.specs.Ordering.{nat_cmp}
use Rattle.std.specs.FinMap as map
use Rattle.std.specs.FinMap.{find}
use Rattle.rom_model.specs.Blocks.{IsOrder, AreWords}
use Rattle.rom_model.proofs.Nodes.{node_fits, pow_positive}
use Rattle.rom_order_region.specs.Tree.{Tree, entries, blocks, height, IsBalanced}
use Rattle.rom_order_region.specs.Nodes.{TreeStands, ChangesNodes, IsTree, BuildsTreeAt, level_at}
use Rattle.rom_order_region.specs.Find.{HasOrdered, IsFound}
use Rattle.rom_order_region.specs.Keys.{EntriesRise}
use Rattle.rom_order_region.specs.High.{high}
use Rattle.rom_order_region.proofs.Frame.{stands_same, level_is, few_nodes, half_small}
use Rattle.rom_order_region.proofs.Sorted.{rises}
use Rattle.rom_order_region.proofs.High.{height_high, high_most}
use Rattle.rom_order_region.proofs.Walked.{length-entries}
use Rattle.rom_order_region.proofs.Placed.{not_none}
use Rattle.rom_order_region.specs.Region.{taken_pairs, IsIndexRegion}

-- the words below the nodes stay where nodes alone change
pub below_same : {n : ℕ} {bs w w' : List ℕ} (k : ℕ) → ChangesNodes n bs w w' → k < 16 + 2 * 2 ^ n → slice_index w' k ≡ slice_index w k
below_same k changes lt = changes.others k (λ b some inside. absurd (omega (arith, inside.least, lt)))

-- the tree's words where the words of the allocator stay
pub tree_same : (n : ℕ) (taken : ℕ → Bool) (w w' : List ℕ) → ((k : ℕ) → 17 ≤ k → k < 16 + 2 * 2 ^ n → slice_index w' k ≡ slice_index w k) → AreWords n taken w → AreWords n taken w'
tree_same n taken w w' same are depth order i deep node =
    same (16 + i) (omega (arith, node.least, pow_positive depth)) (omega (arith, node_fits n depth order i deep node)) ∙ are depth order i deep node

-- a tree stands where no word of a node changes
pub stands_above : (n : ℕ) (w w' : List ℕ) (t : Tree) → ((k : ℕ) → 16 + 2 * 2 ^ n ≤ k → slice_index w' k ≡ slice_index w k) → TreeStands n w t → TreeStands n w' t
stands_above n w w' t same stands = stands_same w w' t (λ c k some inside. same k (omega (arith, inside.least))) stands

module _ {n : ℕ} {w : List ℕ} {t : Tree} {s : map.FinMap nat_cmp ℕ} {k : ℕ} (is : IsIndexRegion n w t s k) where
  -- its keys rise
  pub region_rises : EntriesRise (entries t)
  region_rises = subst (λ es. EntriesRise es) is.entries_are (rises s)

  pub region_ordered : HasOrdered n w (slice_index w 3)
  region_ordered = record { tree = t; is = is.top; rises = region_rises }

  pub region_size : map.len s ≡ length (entries t)
  region_size = map.len-entries s ∙ ap (λ es. length es) is.entries_are

  -- its level is bounded by its size
  pub region_level : level_at w (slice_index w 3) ≤ high (map.len s)
  region_level = omega (arith, level_is n (slice_index w 3) w t is.top.at_is is.top.stands, height_high t is.balance, ap (λ m. high m) region_size)

-- after a call that changes the tree, the words 3 and 4, and words of nodes and of the allocator
pub region_next : {n : ℕ} {w : List ℕ} {t : Tree} {s : map.FinMap nat_cmp ℕ} {k : ℕ} (w' : List ℕ) (u : Tree) (m : map.FinMap nat_cmp ℕ) → IsIndexRegion n w t s k
    → length w' ≡ length w → ((j : ℕ) → j ≤ 16 → j ≢ 3 → j ≢ 4 → slice_index w' j ≡ slice_index w j)
    → IsTree n w' (slice_index w' 3) u → IsBalanced u → slice_index w' 4 ≡ map.len m → map.entries m ≡ entries u → AreWords n (taken_pairs n (blocks u)) w' → IsIndexRegion n w' u m k
region_next w' u m is long same top balance size entries_are tree = record {
  as_long = long ∙ is.as_long;
  kind = same 0 (omega arith) (omega arith) (omega arith) ∙ is.kind;
  version = same 1 (omega arith) (omega arith) (omega arith) ∙ is.version;
  count_is = same 2 (omega arith) (omega arith) (omega arith) ∙ is.count_is;
  count_fits = is.count_fits;
  top = top;
  balance = balance;
  size = size;
  zeros = λ j lo hi. same j hi (omega arith) (omega arith) ∙ is.zeros j lo hi;
  entries_are = entries_are;
  tree = tree;
}

-- the bounds of a region's tree
module _ {n : ℕ} {w : List ℕ} {t : Tree} {s : map.FinMap nat_cmp ℕ} {k : ℕ} (order : IsOrder n) (is : IsIndexRegion n w t s k) where
  pub region_few : map.len s ≤ 32768
  region_few = omega (arith, region_size is, length-entries t, few_nodes (blocks t) is.top.apart, half_small n order)

  pub region_low : height t ≤ 21
  region_low = omega (arith, height_high t is.balance, ap (λ m. high m) (region_size is), high_most (map.len s) region_few)

  -- the words that are below the nodes stay where a tree becomes another
  pub size_kept : {w1 : List ℕ} {bs : List ℕ} {u : Tree} {to : ℕ} → BuildsTreeAt n bs w w1 u to → slice_index w1 4 ≡ map.len s
  size_kept done = below_same 4 done.becomes.others (omega (arith, pow_positive n)) ∙ is.size

some_entries : (key u : ℕ) (es : List (ℕ × ℕ)) → find nat_cmp key es ≡ Some u → 1 ≤ length es
some_entries key u [] found = absurd (not_none u (sym found))
some_entries key u (e ∷ es) found = omega arith

pub region_some : {n : ℕ} {w : List ℕ} {t : Tree} {s : map.FinMap nat_cmp ℕ} {k : ℕ} (key node : ℕ) → IsIndexRegion n w t s k → IsFound n w t key node → (node ≡ 0 → ⊥) → 1 ≤ map.len s
region_some {w = w} {t = t} key node is found some = omega (arith, region_size is, some_entries key (slice_index w (node + 1)) (entries t) (found.some some))
