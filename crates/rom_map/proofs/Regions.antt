-- The region whose map has other blocks or values.
use Rattle.std.proofs.Common.{◌≡◌, inl, inr, ℕ, ◌+◌, ◌-◌, ◌*◌, ◌^◌, ◌<◌, ◌≤◌, Bool, List, [], refl, ◌∙◌, arith}
use Rattle.std.specs.Ordering.{nat_cmp}
use Rattle.std.specs.FinMap as finite
use Rattle.rom_model.specs.Space.{ChangesOnly}
use Rattle.rom_model.specs.State.{State, Stamped}
use Rattle.rom_model.specs.Blocks.{AreWords, block_of}
use Rattle.rom_model.specs.Chains.{times}
use Rattle.rom_model.specs.Region.{Chains, IsMap, IsVersion, IsRegion, ChangesPart}
use Rattle.rom_model.proofs.Nodes.{pow_positive}
use Rattle.rom_model.proofs.Frames.{tree_part, root_frame, queue_frame, set_frame, map_frame, version_frame}
use Rattle.rom_model.proofs.Elements.{AreElements}
use Rattle.rom_map.specs.Map.{with_pairs}

-- the chains with these as the buckets'
abbrev pub with_buckets : Chains → (ℕ → List ℕ) → Chains
with_buckets p g = record p { bucket = g }

-- where no words changed but the tree's
module _ {n : ℕ} {w : List ℕ} {p : Chains} (w' : List ℕ) (only : ChangesOnly 17 (2 * 2 ^ n - 1) w w') where
  pub map_stays : {pairs : finite.FinMap nat_cmp Stamped} → IsMap n w p pairs → IsMap n w' p pairs
  map_stays {pairs} map = map_frame n 0 0 [] w w' (tree_part n 0 0 w w' only) p (λ c some. refl) pairs (inr (omega arith)) (λ i lt. only.behind (block_of n 0 + i) (omega (arith, pow_positive n))) map

  pub version_stays : {k : ℕ} → IsVersion n w p k → IsVersion n w' p k
  version_stays {k} version = version_frame n 0 0 [] w w' (tree_part n 0 0 w w' only) p (λ c some. refl) k (inr (omega arith)) version

module _ {n : ℕ} {w : List ℕ} {p : Chains} {s : State} {k : ℕ} (is : IsRegion n w p s k) where
  -- where no words changed but the map's and the tree's
  pub remapped : {taken : ℕ → Bool} (w' touched : List ℕ) (high : ℕ) → high ≤ 10 → (g : ℕ → List ℕ) (pairs : finite.FinMap nat_cmp Stamped) → ChangesPart n 9 high touched w w' → ((c : ℕ) → 0 < times c p.queue + times c p.set → times c touched ≡ 0)
      → AreElements n taken (with_buckets p g) → AreWords n taken w' → IsMap n w' (with_buckets p g) pairs → IsVersion n w' (with_buckets p g) k → IsRegion n w' (with_buckets p g) (with_pairs s pairs) k
  remapped w' touched high most g pairs part away are tree map version = record {
    shape = record {
      as_long = part.as_long ∙ is.shape.as_long;
      root = root_frame n 9 high touched w w' part k (inr (omega arith, most)) is.shape.root;
      queue = queue_frame n 9 high touched w w' part p.queue s.queue (inl (omega arith)) (λ c some. away c (omega (arith, some))) is.shape.queue;
      set = set_frame n 9 high touched w w' part p.set s.members (inl (omega arith)) (λ c some. away c (omega (arith, some))) is.shape.set;
      map = map;
      different = are.different;
      within = are.within;
      tree = are.tree w' tree;
    };
    version = version;
  }
