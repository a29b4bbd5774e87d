-- What a region and the answers to queries tell of an index.
use Rattle.std.proofs.Common.{◌≡◌, ℕ, ◌≤◌, List, arith}
use Rattle.std.specs.FinMap as map
use Rattle.rom_order_region.specs.declared.call.OrderAnswer.TheVariants as answer
use Rattle.rom_order_region.specs.Region.{IsIndexRegion, room_for}
use Rattle.rom_order_region.specs.State.{Pairs}
use Rattle.rom_order_region.specs.Tree.{Tree, blocks}
use Rattle.rom_order_region.proofs.Frame.{few_nodes}
use Rattle.rom_order_region.proofs.Regions.{region_size}
use Rattle.rom_order_region.proofs.Walked.{length-entries}

-- it has no more keys than there is room for
pub few_keys : {n : ℕ} {w : List ℕ} {t : Tree} {s : Pairs} {k : ℕ} → IsIndexRegion n w t s k → map.len s ≤ room_for n
few_keys {t = t} is = omega (arith, region_size is, length-entries t, few_nodes (blocks t) is.top.apart)

-- the numbers of answers that are one
pub range_count : {c d x y : ℕ} → answer.Range c x ≡ answer.Range d y → c ≡ d
range_count is = let same = is in cc

pub range_sum : {c d x y : ℕ} → answer.Range c x ≡ answer.Range d y → x ≡ y
range_sum is = let same = is in cc

pub pair_key : {j k u v : ℕ} → answer.Pair j u ≡ answer.Pair k v → j ≡ k
pair_key is = let same = is in cc

pub pair_value : {j k u v : ℕ} → answer.Pair j u ≡ answer.Pair k v → u ≡ v
pair_value is = let same = is in cc
