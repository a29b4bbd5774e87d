-- A block that was taken, and may go to the queue's end.
use Rattle.std.proofs.Common.{◌≡◌, inr, ℕ, ◌+◌, ◌-◌, ◌*◌, ◌^◌, ◌<◌, ◌≤◌, Bool, List, [], refl, ◌∙◌, subst, arith}
use Rattle.rom_model.specs.Space.{ChangesOnly}
use Rattle.rom_model.specs.State.{State, live, cap}
use Rattle.rom_model.specs.Blocks.{IsLowest, IsDisjoint, AreWords, block_at, block_of}
use Rattle.rom_model.specs.Region.{Chains, element_blocks, taken_by, IsRegion}
use Rattle.rom_model.proofs.Members.{NewBlock}
use Rattle.rom_model.proofs.Frames.{tree_part, queue_frame}
use Rattle.rom_model.proofs.Room.{times_members, region_disjoint, new_block, not_full}
use Rattle.rom_block.specs.Taken.{Takes}
use Rattle.rom_queue.specs.Queue.{IsPushed}
use Rattle.rom_queue.specs.Ends.{MayTake, IsAppended}
use Rattle.rom_queue.proofs.Regions.{queue_nodes, pushed}

pub unit_begins : (n x b : ℕ) → x ≡ 2 ^ n + b → block_at n 0 x ≡ block_of n b
unit_begins n x b e = omega (arith, e)

module _ {n : ℕ} {w : List ℕ} {p : Chains} {s : State} {k : ℕ} (le : 4 ≤ n) (is : IsRegion n w p s k) {w1 : List ℕ} {at : ℕ} (only : ChangesOnly 17 (2 * 2 ^ n - 1) w w1)
    (take : (taken : ℕ → Bool) → IsDisjoint n taken → AreWords n taken w → Takes n 0 taken w1 at) where
  takes : Takes n 0 (taken_by n (element_blocks n p)) w1 at
  takes = take (taken_by n (element_blocks n p)) (region_disjoint le is) is.shape.tree

  new : NewBlock n takes.node (element_blocks n p)
  new = new_block le is takes.node takes.lowest

  -- there was room
  pub had_room : live s < cap n
  had_room = not_full le is takes.node new

  pub may_take : MayTake n at w1
  may_take = record {
    block = new.block;
    here = takes.here ∙ unit_begins n takes.node new.block new.node_is;
    inside = new.most;
    blocks = p.queue;
    values = s.queue;
    queue = queue_frame n 0 0 [] w w1 (tree_part n 0 0 w w1 only) p.queue s.queue (inr (omega arith)) (λ c some. refl) is.shape.queue;
    are = queue_nodes le is;
    absent = omega (arith, new.absent, times_members n p new.block);
  }

  pub became : (w2 : List ℕ) (value : ℕ) → IsAppended may_take value w2 → IsPushed (p, is) value w2
  unfolding may_take
  became w2 value done = record {
    block = new.block;
    lowest = subst (λ x. IsLowest n (taken_by n (element_blocks n p)) 0 x) new.node_is takes.lowest;
    becomes = pushed le is w1 w2 takes.node value new only takes.words_are done.queue done.others done.tree;
  }
