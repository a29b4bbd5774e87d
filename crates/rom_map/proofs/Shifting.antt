-- The region in which two keys have other values and other stamps.
use Rattle.std.proofs.Common.{◌≡◌, ◌≢◌, ◌⊎◌, inl, inr, ℕ, ◌+◌, ◌<◌, ◌≤◌, List, ◌∷◌, length, refl, sym, ◌∙◌, ap, arith}
use Rattle.std.specs.Prelude.{slice_index}
use Rattle.std.proofs.lemmas.Bool.{cases_eq, cases_lt}
use Rattle.rom_model.specs.State.{State, written}
use Rattle.rom_model.specs.Blocks.{block_of}
use Rattle.rom_model.specs.Chains.{times}
use Rattle.rom_model.specs.Links.{link_after}
use Rattle.rom_model.specs.Region.{Chains, buckets, bucket_of, map_blocks, IsRegion}
use Rattle.rom_model.proofs.Times.{times_here, times-append}
use Rattle.rom_bucket.specs.Walk.{head_of}
use Rattle.rom_bucket.specs.Buckets.{There}
use Rattle.rom_bucket.specs.declared.walk.Place.{Place}
use Rattle.rom_bucket.proofs.Keys.{in_all}
use Rattle.rom_map.specs.Map.{with_entry, with_pairs}
use Rattle.rom_map.specs.Shift.{IsShifted, HasNode}
use Rattle.rom_map.proofs.Keyed.{map_keys}
use Rattle.rom_map.proofs.Replaced.{as_long, stays, replaced}

-- a node as the place of its key
module _ {n : ℕ} {w : List ℕ} {p : Chains} {s : State} {k key node : ℕ} (is : IsRegion n w p s k) (lt : bucket_of n key < buckets n) (has : HasNode n w p key node) where
  abbrev pub place : Place
  place = record { link = link_after n (head_of n (bucket_of n key)) 2 has.at.front; node = node }

  pub among : 0 < times has.at.block (map_blocks n p)
  among = in_all (map_keys is) (bucket_of n key) lt has.at.block (omega (arith, ap (times has.at.block) has.at.blocks, times-append has.at.block has.at.front (has.at.block ∷ has.at.back), times_here has.at.block has.at.back))

  abbrev pub there : There n w p.bucket key place
  there = record {
    front = has.at.front;
    block = has.at.block;
    back = has.at.back;
    blocks = has.at.blocks;
    holds = has.at.holds;
    node_is = has.begins;
    link_is = refl;
    within = (map_keys is).within has.at.block among;
    among = among;
  }

  pub inside : node + 4 ≤ length w
  inside = omega (arith, has.begins, there.within, is.shape.as_long)

  -- where its key's word stays, it is the node still
  abbrev pub still_node : {w' : List ℕ} → slice_index w' (block_of n has.at.block + 0) ≡ slice_index w (block_of n has.at.block + 0) → HasNode n w' p key node
  still_node same = record {
    at = record {
      front = has.at.front;
      block = has.at.block;
      back = has.at.back;
      blocks = has.at.blocks;
      holds = same ∙ has.at.holds;
    };
    begins = has.begins;
  }

module _ {n : ℕ} {w : List ℕ} {p : Chains} {s : State} {k from to source target : ℕ} (least : 4 ≤ n) (is : IsRegion n w p s k) (differ : from ≢ to)
    (one_lt : bucket_of n from < buckets n) (two_lt : bucket_of n to < buckets n) (one : HasNode n w p from source) (two : HasNode n w p to target) where
  -- they are nodes of different keys, and so of different blocks
  pub apart : (source + 4 ≤ target) ⊎ (target + 4 ≤ source)
  apart = elim (cases_eq one.at.block two.at.block) [
    | inl same ↦ absurd (differ (sym one.at.holds ∙ ap (λ b. slice_index w (block_of n b + 0)) same ∙ two.at.holds))
    | inr ne ↦ elim (cases_lt one.at.block two.at.block) [
      | inl less ↦ inl (omega (arith, less, one.begins, two.begins))
      | inr ge ↦ inr (omega (arith, ge, ne, one.begins, two.begins))
    ]
  ]

  module _ (less more stamp : ℕ) (most : stamp ≤ k) where
    abbrev first : List ℕ
    first = with_entry w source less stamp

    first_stays : (j : ℕ) → j ≢ block_of n one.at.block + 1 → j ≢ block_of n one.at.block + 3 → slice_index first j ≡ slice_index w j
    first_stays = stays least is from less stamp most one_lt (place is one_lt one) (there is one_lt one) refl

    first_region : IsRegion n first p (with_pairs s (written s.pairs stamp from less)) k
    first_region = (replaced least is from less stamp most one_lt (place is one_lt one) (there is one_lt one) refl).region

    abbrev still : HasNode n first p to target
    still = still_node is two_lt two (first_stays (block_of n two.at.block + 0) (omega arith) (omega arith))

    module _ {w' : List ℕ} (now : w' ≡ with_entry first target more stamp) where
      pub shifted_region : IsRegion n w' p (with_pairs s (written (written s.pairs stamp from less) stamp to more)) k
      shifted_region = (replaced least first_region to more stamp most two_lt (place first_region two_lt still) (there first_region two_lt still) now).region

      pub shifted : IsShifted n w p from to w'
      shifted = record {
        source = one.at;
        target = two.at;
        as_long = as_long least first_region to more stamp most two_lt (place first_region two_lt still) (there first_region two_lt still) now ∙ as_long least is from less stamp most one_lt (place is one_lt one) (there is one_lt one) refl;
        others = λ j a b c d. stays least first_region to more stamp most two_lt (place first_region two_lt still) (there first_region two_lt still) now j c d ∙ first_stays j a b;
      }
