-- Queries on a region.
use Rattle.std.proofs.Common.{◌≡◌, ℕ, ◌+◌, ◌≤◌, List, length, sym, ◌∙◌, ap, subst, arith}
use Rattle.std.specs.Prelude.{slice_index, Option, Some, None}
use Rattle.std.specs.Ordering.{nat_cmp}
use Rattle.std.specs.FinMap as map
use Rattle.std.specs.FinMap.{find}
use Rattle.rom_model.specs.Blocks.{IsOrder, region_len}
use Rattle.rom_model.proofs.Nodes.{pow_small}
use Rattle.rom_order_region.specs.declared.tree.find.Near.{Near}
use Rattle.rom_order_region.specs.Tree.{Tree, entries}
use Rattle.rom_order_region.specs.Nodes.{level_at}
use Rattle.rom_order_region.specs.Find.{IsFound, HasOrdered}
use Rattle.rom_order_region.specs.Query.{first_from, inside, total}
use Rattle.rom_order_region.proofs.Finding.{FoundBy}
use Rattle.rom_order_region.proofs.Walked.{NearBy, CountBy, SumBy}
use Rattle.rom_order_region.specs.declared.call.OrderAnswer.TheVariants as answer
use Rattle.rom_order_region.specs.declared.call.OrderQuery.TheVariants as query
use Rattle.rom_order_region.specs.State.{Pairs, index_pair_answer, index_tell, index_value_answer}
use Rattle.rom_order_region.specs.Region.{IsIndexRegion}
use Rattle.rom_order_region.proofs.Regions.{region_rises}

pub region_small : (n : ℕ) → IsOrder n → region_len n ≤ 393232
region_small n order = omega (arith, pow_small n order.most)

-- a tree in words that were only looked at
pub tree_read : {n : ℕ} (w v : List ℕ) (at : ℕ) → v ≡ w → at ≡ slice_index w 3 → HasOrdered n w (slice_index w 3) → HasOrdered n v at
tree_read {n} w v at same is h = subst (λ (x : List ℕ). HasOrdered n x at) (sym same) (subst (λ a. HasOrdered n w a) (sym is) h)

-- the level of the tree, and what the map's size bounds
pub level_now : (w v : List ℕ) (at : ℕ) → v ≡ w → at ≡ slice_index w 3 → level_at v at ≡ level_at w (slice_index w 3)
level_now w v at same is = λ i. level_at (same i) (is i)

module _ {n : ℕ} {w : List ℕ} {t : Tree} {s : Pairs} {k : ℕ} (is : IsIndexRegion n w t s k) where
  pub get_is : (key : ℕ) → map.get s key ≡ find nat_cmp key (entries t)
  get_is key = map.get-entries s key ∙ ap (λ es. find nat_cmp key es) is.entries_are

  pub found_in : (v : List ℕ) (at key node : ℕ) → v ≡ w → at ≡ slice_index w 3 → FoundBy n v at key node → IsFound n w t key node
  found_in v at key node same at_is found = (subst (λ a. FoundBy n w a key node) at_is (subst (λ (x : List ℕ). FoundBy n x at key node) same found)) t is.top (region_rises is)

  pub told_missing : (key node : ℕ) → IsFound n w t key node → node ≡ 0 → answer.Missing ≡ index_tell s (query.Get key)
  told_missing key node found none = ap (λ o. index_value_answer o) (sym (get_is key ∙ found.none none))

  pub told_value : (key node value : ℕ) → IsFound n w t key node → (node ≡ 0 → ⊥) → value ≡ slice_index w (node + 1) → answer.Value value ≡ index_tell s (query.Get key)
  told_value key node value found some value_is = ap (λ x. answer.Value x) value_is ∙ ap (λ o. index_value_answer o) (sym (get_is key ∙ found.some some))

  pub near_in : (v : List ℕ) (at key : ℕ) (near : Option Near) → v ≡ w → at ≡ slice_index w 3 → NearBy n v at key near → NearBy n w (slice_index w 3) key near
  near_in v at key near same at_is found = subst (λ a. NearBy n w a key near) at_is (subst (λ (x : List ℕ). NearBy n x at key near) same found)

  pub told_none : (key : ℕ) → NearBy n w (slice_index w 3) key None → answer.Missing ≡ index_tell s (query.From key)
  told_none key found = ap (λ o. index_pair_answer o) (sym (ap (λ es. first_from key es) is.entries_are ∙ found t is.top (region_rises is)))

  pub told_pair : (key value : ℕ) (near : Near) → NearBy n w (slice_index w 3) key (Some near) → value ≡ slice_index w (near.node + 1) → answer.Pair near.key value ≡ index_tell s (query.From key)
  told_pair key value near found value_is = ap (λ x. answer.Pair near.key x) value_is ∙ ap (λ o. index_pair_answer o) (sym (ap (λ es. first_from key es) is.entries_are ∙ found t is.top (region_rises is)))

  pub count_in : (v : List ℕ) (at low high count : ℕ) → v ≡ w → at ≡ slice_index w 3 → CountBy n v at low high count → count ≡ length (inside low high (map.entries s))
  count_in v at low high count same at_is found =
      (subst (λ a. CountBy n w a low high count) at_is (subst (λ (x : List ℕ). CountBy n x at low high count) same found)) t is.top (region_rises is) ∙ ap (λ es. length (inside low high es)) (sym is.entries_are)

  pub sum_in : (v : List ℕ) (at low high all : ℕ) → v ≡ w → at ≡ slice_index w 3 → SumBy n v at low high all → all ≡ total (inside low high (map.entries s))
  sum_in v at low high all same at_is found =
      (subst (λ a. SumBy n w a low high all) at_is (subst (λ (x : List ℕ). SumBy n x at low high all) same found)) t is.top (region_rises is) ∙ ap (λ es. total (inside low high es)) (sym is.entries_are)
