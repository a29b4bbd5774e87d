-- A block that was taken, and may go to a number's place in the set.
use Rattle.std.proofs.Common.{◌≡◌, inr, ℕ, ◌+◌, ◌-◌, ◌*◌, ◌^◌, ◌≤◌, false, List, [], refl, sym, ◌∙◌, ap, subst, arith}
use Rattle.std.specs.Prelude.{slice_index}
use Rattle.rom_model.specs.Space.{ChangesOnly}
use Rattle.rom_model.specs.State.{State}
use Rattle.rom_model.specs.Blocks.{IsLowest, block_at, block_of}
use Rattle.rom_model.specs.Region.{Chains, element_blocks, taken_by, IsRegion}
use Rattle.rom_model.proofs.Nodes.{pow_positive}
use Rattle.rom_model.proofs.Members.{NewBlock}
use Rattle.rom_model.proofs.Frames.{tree_part, set_frame, each_same}
use Rattle.rom_model.proofs.Room.{times_members, new_block}
use Rattle.rom_block.specs.Taken.{Takes}
use Rattle.rom_set.specs.Set.{IsAddedToSet}
use Rattle.rom_model.specs.Rising.{AreBelow, StartsAbove, starts_with}
use Rattle.rom_set.specs.Walk.{IsPlaceInSet}
use Rattle.rom_set.specs.Link.{MayLink, IsBlockLinked}
use Rattle.rom_set.specs.declared.walk.Place.{Place}
use Rattle.rom_set.proofs.Places.{set_nodes}
use Rattle.rom_set.proofs.Regions.{added}

pub unit_begins : (n x b : ℕ) → x ≡ 2 ^ n + b → block_at n 0 x ≡ block_of n b
unit_begins n x b e = omega (arith, e)

-- a place is one still where the words of the blocks stay
abbrev place_stays : (n key : ℕ) (w w' bs : List ℕ) (place : Place) → ((c : ℕ) → slice_index w' (block_of n c + 0) ≡ slice_index w (block_of n c + 0)) → IsPlaceInSet n w bs key place → IsPlaceInSet n w' bs key place
place_stays n key w w' bs place same at =
    let back = each_same n 0 w w' at.walked.back (λ c some. same c) in
    record {
      walked = record {
        front = at.walked.front;
        back = at.walked.back;
        blocks_are = at.walked.blocks_are;
        below = subst (AreBelow key) (sym (each_same n 0 w w' at.walked.front (λ c some. same c))) at.walked.below;
        link_is = at.walked.link_is;
        node_is = at.walked.node_is;
      };
      above = subst (StartsAbove key) (sym back) at.above;
      found = at.found ∙ ap (starts_with key) (sym back);
    }

module _ {n key : ℕ} {w : List ℕ} {p : Chains} {s : State} {k : ℕ} {place : Place} (le : 4 ≤ n) (is : IsRegion n w p s k) (stands : IsPlaceInSet n w p.set key place) (missing : place.found ≡ false)
    {w1 : List ℕ} {at : ℕ} (only : ChangesOnly 17 (2 * 2 ^ n - 1) w w1) (takes : Takes n 0 (taken_by n (element_blocks n p)) w1 at) where
  pub new : NewBlock n takes.node (element_blocks n p)
  new = new_block le is takes.node takes.lowest

  abbrev pub may_link : MayLink n key at place w1
  may_link = record {
    holds = record {
      blocks = p.set;
      members = s.members;
      set = set_frame n 0 0 [] w w1 (tree_part n 0 0 w w1 only) p.set s.members (inr (omega arith)) (λ c some. refl) is.shape.set;
      are = set_nodes is;
    };
    is = place_stays n key w w1 p.set place (λ c. only.behind (block_of n c + 0) (omega (arith, pow_positive n))) stands;
    missing = missing;
    block = new.block;
    here = takes.here ∙ unit_begins n takes.node new.block new.node_is;
    inside = new.most;
    absent = omega (arith, new.absent, times_members n p new.block);
  }

  pub became : (w2 : List ℕ) → IsBlockLinked may_link w2 → IsAddedToSet n w p s k key w2
  became w2 done = record {
    block = new.block;
    lowest = subst (λ x. IsLowest n (taken_by n (element_blocks n p)) 0 x) new.node_is takes.lowest;
    holds = done.holds;
    front = stands.walked.front;
    back = stands.walked.back;
    blocks = stands.walked.blocks_are;
    becomes = added le is w1 w2 takes.node new stands.walked.front stands.walked.back _ stands.walked.blocks_are only takes.words_are done.set done.others done.tree;
  }
