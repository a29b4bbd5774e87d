-- What the place of a number says of a region's set.
use Rattle.std.proofs.Common.{◌≡◌, ℕ, ◌^◌, List, ◌++◌, sym, ◌∙◌, ap, subst, arith}
use Rattle.std.specs.Ordering.{nat_cmp}
use Rattle.std.specs.FinSet as set
use Rattle.rom_model.specs.State.{State}
use Rattle.rom_model.specs.Chains.{each_word}
use Rattle.rom_model.specs.Rising.{IsRising}
use Rattle.rom_model.specs.Region.{Chains, IsSet, IsRegion}
use Rattle.rom_model.proofs.Counting.{at_most}
use Rattle.rom_model.proofs.Room.{times_members}
use Rattle.rom_model.specs.Links.{AreNodes}
use Rattle.rom_set.specs.Nodes.{HoldsSet}
use Rattle.rom_set.specs.Walk.{IsPlaceInSet}
use Rattle.rom_set.specs.declared.walk.Place.{Place}
use Rattle.rom_model.proofs.Links.{each_append}
use Rattle.rom_set.proofs.Rising.{contains_split}

module _ {n : ℕ} {w : List ℕ} {p : Chains} {s : State} {k : ℕ} (is : IsRegion n w p s k) where
  pub set_nodes : AreNodes n p.set
  set_nodes = record {
    different = λ b. omega (arith, is.shape.different b, times_members n p b);
    within = λ b some. (is.shape.within b (omega (arith, some, times_members n p b))).1;
    few = at_most 0 (2 ^ n) p.set (λ b. omega (arith, is.shape.different b, times_members n p b)) (λ b some. let at = is.shape.within b (omega (arith, some, times_members n p b)) in (omega arith, omega (arith, at.1)));
  }

  abbrev pub region_set : HoldsSet n w
  region_set = record { blocks = p.set; members = s.members; set = is.shape.set; are = set_nodes }

module _ {n : ℕ} {w bs : List ℕ} {members : set.FinSet nat_cmp} {key : ℕ} {place : Place} (is : IsSet n w bs members) (at : IsPlaceInSet n w bs key place) where
  pub place_words : each_word n w 0 bs ≡ each_word n w 0 at.walked.front ++ each_word n w 0 at.walked.back
  place_words = ap (λ cs. each_word n w 0 cs) at.walked.blocks_are ∙ each_append n 0 w at.walked.front at.walked.back

  pub place_rising : IsRising (each_word n w 0 at.walked.front ++ each_word n w 0 at.walked.back)
  place_rising = subst IsRising place_words is.rising

  pub place_members : set.from_list {R = nat_cmp} (each_word n w 0 at.walked.front ++ each_word n w 0 at.walked.back) ≡ members
  place_members = ap (λ ks. set.from_list ks) (sym place_words) ∙ is.keys_are

  -- the number is found exactly where the set has it
  pub found_contains : place.found ≡ set.contains members key
  found_contains = at.found ∙ sym (contains_split key (each_word n w 0 at.walked.front) (each_word n w 0 at.walked.back) at.walked.below at.above place_rising) ∙ ap (λ m. set.contains m key) place_members

-- a region and a place in words that are the same
pub same_words : {n key k : ℕ} {v w : List ℕ} {p : Chains} {s : State} {place : Place} → v ≡ w → IsRegion n w p s k → IsPlaceInSet n w p.set key place → IsRegion n v p s k × IsPlaceInSet n v p.set key place
same_words {n} {key} {k} {v} {w} {p} {s} {place} same is at = subst (λ x. IsRegion n x p s k × IsPlaceInSet n x p.set key place) (sym same) (is, at)
