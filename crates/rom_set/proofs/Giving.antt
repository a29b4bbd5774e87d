-- A number's node in a region's set, and the region once it was given back.
use Rattle.std.proofs.Common.{◌≡◌, inl, inr, ℕ, ◌+◌, ◌-◌, ◌*◌, ◌^◌, ◌<◌, ◌≤◌, Bool, true, false, List, [], ◌∷◌, ◌++◌, refl, sym, ◌∙◌, ap, subst, arith}
use Rattle.std.specs.Prelude.{slice_index, ◌==◌}
use Rattle.std.specs.FinSet as set
use Rattle.std.proofs.lemmas.Bool.{cases_eq}
use Rattle.std.proofs.lemmas.Bool.Decides.{nat_tests}
use Rattle.rom_model.specs.Space.{ChangesOnly}
use Rattle.rom_model.specs.State.{State}
use Rattle.rom_model.specs.Blocks.{IsNode, IsDisjoint, AreWords, giving, block_at, block_of}
use Rattle.rom_model.specs.Chains.{times, each_word}
use Rattle.rom_model.specs.Region.{Chains, element_blocks, taken_by, IsRegion, PartBecomes}
use Rattle.rom_model.proofs.Times.{times_here, times-append}
use Rattle.rom_model.proofs.Nodes.{pow_positive}
use Rattle.rom_model.proofs.Members.{member_taken, quarter_pow}
use Rattle.rom_model.proofs.Room.{times_members, tree_stays, region_disjoint}
use Rattle.rom_block.specs.Taken.{IsTakenAt}
use Rattle.rom_set.specs.Set.{with_set_blocks, with_members, IsRemoved}
use Rattle.rom_model.specs.Links.{first_of}
use Rattle.rom_model.specs.Rising.{starts_with}
use Rattle.rom_set.specs.Walk.{IsPlaceInSet}
use Rattle.rom_set.specs.Link.{MayUnlink, IsBlockUnlinked}
use Rattle.rom_set.specs.declared.walk.Place.{Place}
use Rattle.rom_set.proofs.Places.{region_set}
use Rattle.rom_set.proofs.Regions.{removed}
use Rattle.rom_set.proofs.Taking.{unit_begins}

-- the first block, which has the key
pub record Held (n key node : ℕ) (w back : List ℕ) : Type 0 where
  pub block : ℕ
  pub behind : List ℕ
  pub are : back ≡ block ∷ behind
  pub here : node ≡ block_of n block
  pub holds : slice_index w (block_of n block + 0) ≡ key

held_first : (n key node : ℕ) (w back : List ℕ) → node ≡ first_of n back → starts_with key (each_word n w 0 back) ≡ true → Held n key node w back
held_first n key node w [] is starts = absurd (let same : false ≡ true = starts in cc)
held_first n key node w (b ∷ bs) is starts = record { block = b; behind = bs; are = refl; here = is; holds = equal (slice_index w (block_of n b + 0)) key starts }
  where
    equal : (x y : ℕ) → (x == y) ≡ true → x ≡ y
    equal x y test = elim (cases_eq x y) [
      | inl same ↦ same
      | inr other ↦ absurd (let not_same : (x == y) ≡ false = grind (arith, nat_tests) in let both : false ≡ true = sym not_same ∙ test in cc)
    ]

module _ {n key : ℕ} {w : List ℕ} {p : Chains} {s : State} {k : ℕ} {place : Place} (le : 4 ≤ n) (is : IsRegion n w p s k) (stands : IsPlaceInSet n w p.set key place) (found : place.found ≡ true) where
  pub node : Held n key place.node w stands.walked.back
  node = held_first n key place.node w stands.walked.back stands.walked.node_is (sym stands.found ∙ found)

  pub blocks : p.set ≡ stands.walked.front ++ node.block ∷ node.behind
  blocks = stands.walked.blocks_are ∙ ap (λ cs. stands.walked.front ++ cs) node.are

  abbrev pub may_unlink : MayUnlink n place w
  may_unlink = record {
    holds = region_set is;
    block = node.block;
    front = stands.walked.front;
    back = node.behind;
    blocks_are = blocks;
    link_is = stands.walked.link_is;
    node_is = node.here;
  }

  some : 0 < times node.block (element_blocks n p)
  some = omega (arith, times_members n p node.block, ap (times node.block) blocks, times-append node.block stands.walked.front (node.block ∷ node.behind), times_here node.block node.behind)

  -- once it was unlinked
  module _ {w1 : List ℕ} (done : IsBlockUnlinked may_unlink w1) where
    abbrev taken : ℕ → Bool
    taken = taken_by n (element_blocks n p)

    high : 16 < 2 ^ n + node.block
    high = omega (arith, quarter_pow n le, pow_positive (n - 4), (is.shape.within node.block some).0)

    is_node : IsNode (n - 0) (2 ^ n + node.block)
    is_node = let e : n ≡ n - 0 = omega arith in subst (λ d. IsNode d (2 ^ n + node.block)) e record { least = omega arith; most = omega (arith, (is.shape.within node.block some).1) }

    at : place.node ≡ block_at n 0 (2 ^ n + node.block)
    at = node.here ∙ sym (unit_begins n (2 ^ n + node.block) node.block refl)

    held : taken (2 ^ n + node.block) ≡ true
    held = member_taken n node.block (element_blocks n p) high some

    words : AreWords n taken w1
    words = tree_stays n taken w w1 done.tree is.shape.tree

    -- it may be given back
    pub may_give : IsTakenAt n 0 place.node w1
    may_give = (taken, 2 ^ n + node.block, region_disjoint le is, words, is_node, at, held)

    -- after it was given back
    pub given_back : (w2 : List ℕ)
        → ((taken : ℕ → Bool) (x : ℕ) → IsDisjoint n taken → AreWords n taken w1 → IsNode (n - 0) x → place.node ≡ block_at n 0 x → taken x ≡ true → IsDisjoint n (giving x taken) × AreWords n (giving x taken) w2)
        → ChangesOnly 17 (2 * 2 ^ n - 1) w1 w2 → IsRemoved n w p s k key w2
    given_back w2 given tree = record {
      block = node.block;
      holds = node.holds;
      front = stands.walked.front;
      back = node.behind;
      blocks = blocks;
      kept = λ j lt. tree.behind (block_of n node.block + j) (omega (arith, pow_positive n)) ∙ done.kept j lt;
      becomes = subst (λ x. PartBecomes n 6 8 p.set w w2 (with_set_blocks p (stands.walked.front ++ node.behind)) (with_members s (set.remove s.members x)) k) node.holds
          (removed le is w1 w2 node.block stands.walked.front node.behind _ blocks done.others done.set tree (given taken (2 ^ n + node.block) (region_disjoint le is) words is_node at held).1);
    }
