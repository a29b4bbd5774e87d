-- The region whose queue has other blocks.
use Rattle.std.proofs.Common.{◌≡◌, inl, inr, ⊎_elim, ℕ, ◌+◌, ◌-◌, ◌*◌, ◌^◌, ◌<◌, ◌≤◌, Bool, List, [], ◌∷◌, ◌++◌, refl, ◌∙◌, ap, arith}
use Rattle.std.proofs.lemmas.Bool.{cases_eq}
use Rattle.rom_model.specs.Space.{ChangesOnly}
use Rattle.rom_model.specs.State.{State}
use Rattle.rom_model.specs.Blocks.{AreWords, taking, giving}
use Rattle.rom_model.specs.Chains.{times}
use Rattle.rom_model.specs.Region.{Chains, map_blocks, element_blocks, taken_by, IsQueue, IsRegion, ChangesPart, PartBecomes}
use Rattle.rom_model.proofs.Times.{times-append}
use Rattle.rom_model.proofs.Counting.{at_most}
use Rattle.rom_model.proofs.Members.{NewBlock}
use Rattle.rom_model.proofs.Elements.{AreElements, one_more, one_fewer}
use Rattle.rom_model.proofs.Frames.{tree_part, part_then, table_same, root_frame, queue_frame, set_frame, map_frame, version_frame}
use Rattle.rom_model.proofs.Room.{times_members, tree_stays}
use Rattle.rom_queue.specs.Queue.{with_queue_blocks, with_queue, with_last}
use Rattle.rom_model.specs.Links.{AreNodes, KeepsTree}

module _ {n : ℕ} {w : List ℕ} {p : Chains} {s : State} {k : ℕ} (le : 4 ≤ n) (is : IsRegion n w p s k) where
  pub queue_nodes : AreNodes n p.queue
  queue_nodes = record {
    different = λ b. omega (arith, is.shape.different b, times_members n p b);
    within = λ b some. (is.shape.within b (omega (arith, some, times_members n p b))).1;
    few = at_most 0 (2 ^ n) p.queue (λ b. omega (arith, is.shape.different b, times_members n p b)) (λ b some. let at = is.shape.within b (omega (arith, some, times_members n p b)) in (omega arith, omega (arith, at.1)));
  }

  module _ {taken : ℕ → Bool} (w' touched blocks : List ℕ) (part : ChangesPart n 3 6 touched w w') (among : (c : ℕ) → times c touched ≤ times c p.queue + times c blocks) (are : AreElements n taken (with_queue_blocks p blocks)) where
    -- blocks of other elements are none of the queue's, before and after
    away : (c : ℕ) → 0 < times c p.set + times c (map_blocks n p) → times c touched ≡ 0
    away c some = omega (arith, some, among c, is.shape.different c, are.different c, times_members n p c, times_members n (with_queue_blocks p blocks) c)

    late : (c : ℕ) → 0 < times c touched → 2 ^ (n - 4) ≤ c
    late c some = elim (cases_eq (times c p.queue) 0) [
      | inl none ↦ (are.within c (omega (arith, some, none, among c, times_members n (with_queue_blocks p blocks) c))).0
      | inr old ↦ (is.shape.within c (omega (arith, old, times_members n p c))).0
    ]

    pub requeued : (values : List ℕ) → IsQueue n w' blocks values → AreWords n taken w' → PartBecomes n 3 6 touched w w' (with_queue_blocks p blocks) (with_queue s values) k
    requeued values queue tree =
        let map = map_frame n 3 6 touched w w' part p (λ c some. away c (omega (arith, some))) s.pairs (inr (omega arith)) (λ i lt. table_same n 3 6 touched w w' part i le late lt) is.shape.map in
        let version = version_frame n 3 6 touched w w' part p (λ c some. away c (omega (arith, some))) k (inl (omega arith)) is.version in
        record {
          region = record {
            shape = record {
              as_long = part.as_long ∙ is.shape.as_long;
              root = root_frame n 3 6 touched w w' part k (inl (omega arith, omega arith)) is.shape.root;
              queue = queue;
              set = set_frame n 3 6 touched w w' part p.set s.members (inr (omega arith)) (λ c some. away c (omega (arith, some))) is.shape.set;
              map = record { chains = map.chains; len = map.len; own_bucket = map.own_bucket; pairs_are = map.pairs_are };
              different = are.different;
              within = are.within;
              tree = are.tree w' tree;
            };
            version = record { version = version.version; rising = version.rising; stamps = version.stamps };
          };
          others = part;
        }

  -- after a block was taken and put at the end of the queue
  pub pushed : (w1 w2 : List ℕ) (x value : ℕ) (new : NewBlock n x (element_blocks n p)) → ChangesOnly 17 (2 * 2 ^ n - 1) w w1 → AreWords n (taking x (taken_by n (element_blocks n p))) w1
      → IsQueue n w2 (p.queue ++ new.block ∷ []) (s.queue ++ value ∷ []) → ChangesPart n 3 6 (p.queue ++ new.block ∷ []) w1 w2 → KeepsTree n w1 w2
      → PartBecomes n 3 6 (p.queue ++ new.block ∷ []) w w2 (with_queue_blocks p (p.queue ++ new.block ∷ [])) (with_last s value) k
  pushed w1 w2 x value new only tree queue part keeps =
      let q = p.queue ++ new.block ∷ [] in
      requeued w2 q q (part_then n 3 6 [] q q w w1 w2 (λ b some. absurd (omega (arith, some))) (λ b some. some) (tree_part n 3 6 w w1 only) part) (λ c. omega arith)
      (one_more le is.shape (with_queue_blocks p q) x new (λ c. omega (arith, times_members n (with_queue_blocks p q) c, times_members n p c, times-append c p.queue (new.block ∷ []))))
      (s.queue ++ value ∷ []) queue (tree_stays n (taking x (taken_by n (element_blocks n p))) w1 w2 keeps tree)

  -- after the first block was unlinked and given back
  pub popped : (w1 w2 : List ℕ) (b : ℕ) (rest values : List ℕ) → p.queue ≡ b ∷ rest → ChangesOnly 3 3 w w1 → IsQueue n w1 rest values → ChangesOnly 17 (2 * 2 ^ n - 1) w1 w2
      → AreWords n (giving (2 ^ n + b) (taken_by n (element_blocks n p))) w2 → PartBecomes n 3 6 p.queue w w2 (with_queue_blocks p rest) (with_queue s values) k
  popped w1 w2 b rest values first unlinked queue only tree =
      requeued w2 p.queue rest
      (part_then n 3 6 [] [] p.queue w w1 w2 (λ c some. absurd (omega (arith, some))) (λ c some. absurd (omega (arith, some)))
      record {
        as_long = unlinked.as_long;
        root = λ j small apart. ⊎_elim (λ lt. unlinked.before j lt) (λ ge. unlinked.behind j (omega (arith, ge))) apart;
        others = λ j high outside. unlinked.behind j (omega (arith, high));
      }
      (tree_part n 3 6 w1 w2 only))
      (λ c. omega arith)
      (one_fewer le is.shape (with_queue_blocks p rest) b (λ c. omega (arith, times_members n p c, times_members n (with_queue_blocks p rest) c, ap (times c) first, times-append c (b ∷ []) rest)))
      values (queue_frame n 0 0 [] w1 w2 (tree_part n 0 0 w1 w2 only) rest values (inr (omega arith)) (λ c some. refl) queue) tree
