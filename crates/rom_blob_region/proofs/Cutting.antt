-- A key's node that was unlinked, and its blocks given back.
use Rattle.std.proofs.Common.{◌≡◌, ℕ, ◌+◌, ◌-◌, ◌*◌, ◌^◌, ◌<◌, Bool, true, List, [], ◌∷◌, ◌++◌, ◌∙◌, ap, subst, arith}
use Rattle.std.specs.FinMap as finite
use Rattle.rom_model.specs.Space.{ChangesOnly}
use Rattle.rom_model.specs.Blocks.{IsOrder, IsNode, IsDisjoint, AreWords, giving, block_of, block_at}
use Rattle.rom_model.specs.Chains.{times}
use Rattle.rom_model.specs.Region.{bucket_of}
use Rattle.rom_model.proofs.Times.{times-append}
use Rattle.rom_model.proofs.Room.{tree_stays}
use Rattle.rom_block.specs.Taken.{IsTakenAt}
use Rattle.rom_bucket.specs.Link.{IsNodeUnlinked}
use Rattle.rom_bucket.specs.declared.walk.Place.{Place}
use Rattle.rom_bucket.proofs.Finding.{own_within}
use Rattle.rom_bucket.specs.Buckets.{There}
use Rattle.rom_blob_region.specs.State.{BlobState, some_block, taken_with}
use Rattle.rom_blob_region.specs.Region.{len_at, data_at, blob_at, IsBlobs}
use Rattle.rom_blob_region.proofs.Held.{apart_fewer, words_fewer}
use Rattle.rom_blob_region.proofs.Places.{has_node}
use Rattle.rom_blob_region.proofs.Keeping.{held, has_keys, tree_keys, tree_held, in_held, left, cut_keys, cut_held, cut_tree}
use Rattle.rom_blob_region.proofs.Giving.{WithBody, blob_placed}

module _ {n : ℕ} {w : List ℕ} {f : ℕ → List ℕ} {s : BlobState} {count : ℕ} (o : IsOrder n) (is : IsBlobs n w f s count) {key : ℕ} {place : Place} (t : There n w f key place) {w1 : List ℕ} (un : IsNodeUnlinked 3 place w w1) where
  abbrev T : ℕ → Bool
  T = taken_with (held n w f)

  abbrev y : ℕ
  y = 2 ^ n + t.block

  pub within : bucket_of n key < 2 ^ (n - 2)
  within = own_within key o

  abbrev pub less : ℕ → List ℕ
  less = left o.least (has_keys is) is.apart within t un

  words : AreWords n T w1
  words = tree_stays n T w w1 (cut_tree o.least (has_keys is) is.apart within t un) is.tree

  node : IsNode (n - 0) y
  node = let e : n ≡ n - 0 = omega arith in subst (λ d. IsNode d y) e record { least = omega arith; most = omega (arith, t.within) }

  at : place.node ≡ block_at n 0 y
  at = t.node_is ∙ (let unit : block_of n t.block ≡ block_at n 0 y = omega arith in unit)

  there : T y ≡ true
  there = in_held o.least (has_keys is) is.apart t.block y t.among (has_node n w t.block)

  -- the node's block may be given back
  pub may_give : IsTakenAt n 0 place.node w1
  may_give = (T, y, is.apart.disjoint, words, node, at, there)

  -- once it was, its bytes' block is taken yet
  pub node_given : (w2 : List ℕ) → ((taken : ℕ → Bool) (x : ℕ) → IsDisjoint n taken → AreWords n taken w1 → IsNode (n - 0) x → place.node ≡ block_at n 0 x → taken x ≡ true → IsDisjoint n (giving x taken) × AreWords n (giving x taken) w2)
      → ChangesOnly 17 (2 * 2 ^ n - 1) w1 w2 → WithBody n (len_at n w t.block) (data_at n w t.block) (blob_at n w t.block).body w2 less (finite.remove s key) count
  node_given w2 give only =
      let after = give T y is.apart.disjoint words node at there in
      let cut = cut_keys o.least (has_keys is) is.apart within t un in
      let stay = tree_held o.least cut only in
      let body = some_block (blob_at n w t.block).body in
      let counts : (c : ℕ) → times c (held n w f) ≡ times c (body ++ held n w2 less) + times c (y ∷ []) = λ c.
      omega (arith, cut_held o.least (has_keys is) is.apart within t un c, times-append c body (held n w2 less), ap (times c) stay, times-append c (y ∷ []) body) in
      record {
        keys = tree_keys o.least cut only;
        placed = blob_placed n w t.block o.least (is.blobs t.block t.among);
        apart = apart_fewer n (held n w f) is.apart y (body ++ held n w2 less) after.0 counts;
        tree = words_fewer n (held n w f) is.apart y (body ++ held n w2 less) w2 counts after.1;
      }
