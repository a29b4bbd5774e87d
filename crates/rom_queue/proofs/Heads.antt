-- The first node of a region's queue, and the region once it was given back.
use Rattle.std.proofs.Common.{◌≡◌, ℕ, ◌+◌, ◌-◌, ◌*◌, ◌^◌, ◌<◌, ◌≤◌, Bool, true, List, [], ◌∷◌, length, refl, sym, ◌∙◌, ap, subst, arith}
use Rattle.std.specs.Prelude.{slice_index}
use Rattle.rom_model.specs.Space.{ChangesOnly}
use Rattle.rom_model.specs.State.{State}
use Rattle.rom_model.specs.Blocks.{IsNode, IsDisjoint, AreWords, giving, block_at, block_of}
use Rattle.rom_model.specs.Chains.{times, each_word}
use Rattle.rom_model.specs.Region.{Chains, element_blocks, taken_by, IsQueue, IsRegion}
use Rattle.rom_model.proofs.Times.{times_here}
use Rattle.rom_model.proofs.Nodes.{pow_positive}
use Rattle.rom_model.proofs.Members.{member_taken, quarter_pow}
use Rattle.rom_model.proofs.Room.{times_members, tree_stays, region_disjoint}
use Rattle.rom_block.specs.Taken.{IsTakenAt}
use Rattle.rom_queue.specs.Queue.{IsPopped}
use Rattle.rom_queue.specs.Ends.{BeginsQueue, IsHeadUnlinked}
use Rattle.rom_queue.proofs.Links.{head_none, head_first}
use Rattle.rom_queue.proofs.Regions.{popped}
use Rattle.rom_queue.proofs.Taking.{unit_begins}

-- without a head there is no value
pub no_values : {n : ℕ} {w : List ℕ} {p : Chains} {s : State} {k : ℕ} → IsRegion n w p s k → slice_index w 3 ≡ 0 → s.queue ≡ []
no_values {n} {w} {p} {s} is none = sym is.shape.queue.values_are ∙ ap (λ bs. each_word n w 0 bs) (head_none n w p.queue s.queue is.shape.queue none)

-- the first node
pub record Head (n head : ℕ) (w : List ℕ) (p : Chains) (s : State) : Type 0 where
  pub begins : BeginsQueue n head w
  pub first : p.queue ≡ begins.block ∷ begins.behind
  pub values : s.queue ≡ slice_index w head ∷ each_word n w 0 begins.behind
  pub least : 2 ^ (n - 4) ≤ begins.block
  pub inside : head + 4 ≤ length w

module _ {n : ℕ} {w : List ℕ} {p : Chains} {s : State} {k : ℕ} (le : 4 ≤ n) (is : IsRegion n w p s k) (head : ℕ) (load : head ≡ slice_index w 3) (some : 0 < head) where
  pub head_of : Head n head w p s
  head_of =
      let at = head_first n w p.queue s.queue is.shape.queue (omega (arith, load, some)) in
      let here : head ≡ block_of n at.block = load ∙ at.here in
      let within = is.shape.within at.block (omega (arith, times_members n p at.block, ap (times at.block) at.are, times_here at.block at.behind)) in
      let queue : IsQueue n w (at.block ∷ at.behind) s.queue = subst (λ bs. IsQueue n w bs s.queue) at.are is.shape.queue in
      let plain : block_of n at.block + 0 ≡ head = omega (arith, here) in
      record {
        begins = record { block = at.block; here = here; inside = within.1; behind = at.behind; values = s.queue; queue = queue };
        first = at.are;
        values = sym queue.values_are ∙ ap (λ a. slice_index w a ∷ each_word n w 0 at.behind) plain;
        least = within.0;
        inside = omega (arith, here, within.1, is.shape.as_long);
      }

  -- once it was unlinked
  module _ (w1 : List ℕ) (only : ChangesOnly 3 3 w w1) where
    abbrev taken : ℕ → Bool
    taken = taken_by n (element_blocks n p)

    abbrev block : ℕ
    block = head_of.begins.block

    high : 16 < 2 ^ n + block
    high = omega (arith, quarter_pow n le, pow_positive (n - 4), head_of.least)

    node : IsNode (n - 0) (2 ^ n + block)
    node = let e : n ≡ n - 0 = omega arith in subst (λ d. IsNode d (2 ^ n + block)) e record { least = omega arith; most = omega (arith, head_of.begins.inside) }

    at : head ≡ block_at n 0 (2 ^ n + block)
    at = head_of.begins.here ∙ sym (unit_begins n (2 ^ n + block) block refl)

    held : taken (2 ^ n + block) ≡ true
    held = member_taken n block (element_blocks n p) high (omega (arith, times_members n p block, ap (times block) head_of.first, times_here block head_of.begins.behind))

    words : AreWords n taken w1
    words = tree_stays n taken w w1 (λ j least most. only.behind j (omega (arith, least))) is.shape.tree

    -- it may be given back
    pub may_give : IsTakenAt n 0 head w1
    may_give = (taken, 2 ^ n + block, region_disjoint le is, words, node, at, held)

    -- after it was given back
    pub given_back : (w2 : List ℕ) (value : ℕ) → value ≡ slice_index w head → ((q : BeginsQueue n head w) → IsHeadUnlinked q w1)
        → ((taken : ℕ → Bool) (x : ℕ) → IsDisjoint n taken → AreWords n taken w1 → IsNode (n - 0) x → head ≡ block_at n 0 x → taken x ≡ true → IsDisjoint n (giving x taken) × AreWords n (giving x taken) w2)
        → ChangesOnly 17 (2 * 2 ^ n - 1) w1 w2 → IsPopped (p, is) value w2
    given_back w2 value loaded unlinked given tree =
        let rest = each_word n w 0 head_of.begins.behind in
        record {
          block = block;
          behind = head_of.begins.behind;
          blocks = head_of.first;
          rest = rest;
          values = head_of.values ∙ ap (λ v. v ∷ rest) (sym loaded);
          kept = λ j lt. tree.behind (block_of n block + j) (omega (arith, pow_positive n)) ∙ only.behind (block_of n block + j) (omega arith);
          becomes = popped le is w1 w2 block head_of.begins.behind rest head_of.first only (unlinked head_of.begins) tree (given taken (2 ^ n + block) (region_disjoint le is) words node at held).1;
        }
