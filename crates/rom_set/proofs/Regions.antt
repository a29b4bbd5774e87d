-- The region whose set has other blocks.
use Rattle.std.proofs.Common.{◌≡◌, inl, inr, ℕ, ◌+◌, ◌-◌, ◌*◌, ◌^◌, ◌<◌, ◌≤◌, Bool, List, [], ◌∷◌, ◌++◌, ◌∙◌, ap, arith}
use Rattle.std.specs.Ordering.{nat_cmp}
use Rattle.std.specs.FinSet as set
use Rattle.std.proofs.lemmas.Bool.{cases_eq}
use Rattle.rom_model.specs.Space.{ChangesOnly}
use Rattle.rom_model.specs.State.{State}
use Rattle.rom_model.specs.Blocks.{AreWords, taking, giving}
use Rattle.rom_model.specs.Chains.{times}
use Rattle.rom_model.specs.Region.{Chains, map_blocks, element_blocks, taken_by, IsSet, IsRegion, ChangesPart, PartBecomes}
use Rattle.rom_model.proofs.Times.{times-append}
use Rattle.rom_model.proofs.Members.{NewBlock}
use Rattle.rom_model.proofs.Elements.{AreElements, one_more, one_fewer}
use Rattle.rom_model.proofs.Frames.{tree_part, part_then, table_same, root_frame, queue_frame, set_frame, map_frame, version_frame}
use Rattle.rom_model.proofs.Room.{times_members, tree_stays}
use Rattle.rom_set.specs.Set.{with_members, with_set_blocks}
use Rattle.rom_model.specs.Links.{KeepsTree}

module _ {n : ℕ} {w : List ℕ} {p : Chains} {s : State} {k : ℕ} (le : 4 ≤ n) (is : IsRegion n w p s k) where
  module _ {taken : ℕ → Bool} (w' touched blocks : List ℕ) (part : ChangesPart n 6 8 touched w w') (among : (c : ℕ) → times c touched ≤ times c p.set + times c blocks) (are : AreElements n taken (with_set_blocks p blocks)) where
    -- blocks of other elements are none of the set's, before and after
    away : (c : ℕ) → 0 < times c p.queue + times c (map_blocks n p) → times c touched ≡ 0
    away c some = omega (arith, some, among c, is.shape.different c, are.different c, times_members n p c, times_members n (with_set_blocks p blocks) c)

    late : (c : ℕ) → 0 < times c touched → 2 ^ (n - 4) ≤ c
    late c some = elim (cases_eq (times c p.set) 0) [
      | inl none ↦ (are.within c (omega (arith, some, none, among c, times_members n (with_set_blocks p blocks) c))).0
      | inr old ↦ (is.shape.within c (omega (arith, old, times_members n p c))).0
    ]

    pub rechained : (members : set.FinSet nat_cmp) → IsSet n w' blocks members → AreWords n taken w' → PartBecomes n 6 8 touched w w' (with_set_blocks p blocks) (with_members s members) k
    rechained members holds tree =
        let map = map_frame n 6 8 touched w w' part p (λ c some. away c (omega (arith, some))) s.pairs (inr (omega arith)) (λ i lt. table_same n 6 8 touched w w' part i le late lt) is.shape.map in
        let version = version_frame n 6 8 touched w w' part p (λ c some. away c (omega (arith, some))) k (inl (omega arith)) is.version in
        record {
          region = record {
            shape = record {
              as_long = part.as_long ∙ is.shape.as_long;
              root = root_frame n 6 8 touched w w' part k (inl (omega arith, omega arith)) is.shape.root;
              queue = queue_frame n 6 8 touched w w' part p.queue s.queue (inl (omega arith)) (λ c some. away c (omega (arith, some))) is.shape.queue;
              set = holds;
              map = record { chains = map.chains; len = map.len; own_bucket = map.own_bucket; pairs_are = map.pairs_are };
              different = are.different;
              within = are.within;
              tree = are.tree w' tree;
            };
            version = record { version = version.version; rising = version.rising; stamps = version.stamps };
          };
          others = part;
        }

  -- after a block was taken and put into the chain
  pub added : (w1 w2 : List ℕ) (x : ℕ) (new : NewBlock n x (element_blocks n p)) (front back : List ℕ) (members : set.FinSet nat_cmp) → p.set ≡ front ++ back
      → ChangesOnly 17 (2 * 2 ^ n - 1) w w1 → AreWords n (taking x (taken_by n (element_blocks n p))) w1
      → IsSet n w2 (front ++ new.block ∷ back) members → ChangesPart n 6 8 (front ++ new.block ∷ back) w1 w2 → KeepsTree n w1 w2
      → PartBecomes n 6 8 (front ++ new.block ∷ back) w w2 (with_set_blocks p (front ++ new.block ∷ back)) (with_members s members) k
  added w1 w2 x new front back members parts only tree holds part keeps =
      let q = front ++ new.block ∷ back in
      rechained w2 q q (part_then n 6 8 [] q q w w1 w2 (λ b some. absurd (omega (arith, some))) (λ b some. some) (tree_part n 6 8 w w1 only) part) (λ c. omega arith)
      (one_more le is.shape (with_set_blocks p q) x new (λ c. omega (arith, times_members n (with_set_blocks p q) c, times_members n p c, ap (times c) parts, times-append c front back, times-append c front (new.block ∷ back), times-append c (new.block ∷ []) back)))
      members holds (tree_stays n (taking x (taken_by n (element_blocks n p))) w1 w2 keeps tree)

  -- after a block was unlinked and given back
  pub removed : (w1 w2 : List ℕ) (b : ℕ) (front back : List ℕ) (members : set.FinSet nat_cmp) → p.set ≡ front ++ b ∷ back
      → ChangesPart n 6 8 p.set w w1 → IsSet n w1 (front ++ back) members → ChangesOnly 17 (2 * 2 ^ n - 1) w1 w2
      → AreWords n (giving (2 ^ n + b) (taken_by n (element_blocks n p))) w2 → PartBecomes n 6 8 p.set w w2 (with_set_blocks p (front ++ back)) (with_members s members) k
  removed w1 w2 b front back members parts part holds only tree =
      rechained w2 p.set (front ++ back) (part_then n 6 8 p.set [] p.set w w1 w2 (λ c some. some) (λ c some. absurd (omega (arith, some))) part (tree_part n 6 8 w1 w2 only)) (λ c. omega arith)
      (one_fewer le is.shape (with_set_blocks p (front ++ back)) b (λ c. omega (arith, times_members n p c, times_members n (with_set_blocks p (front ++ back)) c, ap (times c) parts, times-append c front (b ∷ back), times-append c front back, times-append c (b ∷ []) back)))
      members (set_frame n 0 0 [] w1 w2 (tree_part n 0 0 w1 w2 only) (front ++ back) members (inr (omega arith)) (λ c some. omega arith) holds) tree
