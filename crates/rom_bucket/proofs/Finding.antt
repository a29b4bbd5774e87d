-- What the search for a key tells.
use Rattle.std.proofs.Common.{◌≡◌, ℕ, ◌+◌, ◌*◌, ◌<◌, List, ◌∷◌, ◌++◌, length, ◌∙◌, ap, subst, arith, length-append}
use Rattle.std.specs.Prelude.{None, Some}
use Rattle.std.specs.FinMap as finite
use Rattle.rom_model.specs.Space.{ShownSpace, Looks}
use Rattle.rom_model.specs.Blocks.{IsOrder}
use Rattle.rom_model.specs.Chains.{times, each_word}
use Rattle.rom_model.specs.Region.{buckets, bucket_of}
use Rattle.rom_model.proofs.Times.{times_here, times-append}
use Rattle.rom_model.proofs.Looks.{looks_most}
use Rattle.rom_bucket.specs.Walk.{IsBucket, StartsWithKey, IsPlaceInBucket, Finds}
use Rattle.rom_bucket.specs.Buckets.{blocks_of_buckets, AreBuckets, There, keyed, keys_beside}
use Rattle.rom_bucket.specs.declared.walk.Place.{Place}
use Rattle.rom_bucket.proofs.Heads.{bucket_within}
use Rattle.rom_bucket.proofs.Walking.{along, whole, first, blocks}
use Rattle.rom_bucket.proofs.Keys.{in_all, placed_in, nowhere, get_nowhere, get_here, beside}

pub own_within : {n : ℕ} (key : ℕ) → IsOrder n → bucket_of n key < buckets n
own_within {n} key o = bucket_within n key o.least o.most

module _ {n size : ℕ} {w : List ℕ} {f : ℕ → List ℕ} (is : AreBuckets n size w f) {key : ℕ} (lt : bucket_of n key < buckets n) (place : Place) (at : IsPlaceInBucket n w (f (bucket_of n key)) key place) where
  pub missing : place.node ≡ 0 → times key (each_word n w 0 (f (bucket_of n key))) ≡ 0
  missing none = ap (λ bs. times key (each_word n w 0 bs)) (whole (along (is.chains (bucket_of n key) lt) at.walked) none) ∙ at.walked.passed

  pub there : (place.node ≡ 0 → ⊥) → There n w f key place
  there some =
      let x = along (is.chains (bucket_of n key) lt) at.walked in
      let t = first x some in
      let starts : StartsWithKey key (each_word n w 0 (t.block ∷ t.behind)) = subst (λ bs. StartsWithKey key (each_word n w 0 bs)) t.are at.stops in
      let are : f (bucket_of n key) ≡ at.walked.front ++ t.block ∷ t.behind = blocks x some in
      let stands : 0 < times t.block (f (bucket_of n key)) = omega (arith, ap (times t.block) are, times-append t.block at.walked.front (t.block ∷ t.behind), times_here t.block t.behind) in
      record {
        front = at.walked.front;
        block = t.block;
        back = t.behind;
        blocks = are;
        holds = starts;
        node_is = t.here;
        link_is = at.walked.link_is;
        within = placed_in is (bucket_of n key) lt t.block stands;
        among = in_all is (bucket_of n key) lt t.block stands;
      }

module _ {M : Type 0} {shown : ShownSpace M} {n size key : ℕ} {place : Place} {old mid : M} {f : ℕ → List ℕ} (o : IsOrder n) (is : AreBuckets n size (shown.image old) f) (finds : Finds shown n key place old mid) where
  pub found : IsPlaceInBucket n (shown.image old) (f (bucket_of n key)) key place
  found = finds.is (f (bucket_of n key)) (is.chains (bucket_of n key) (own_within key o))

  pub looked : Looks shown (1 + 2 * length (f (bucket_of n key))) old mid
  looked = finds.looks (f (bucket_of n key)) (is.chains (bucket_of n key) (own_within key o))

  pub image_same : shown.image mid ≡ shown.image old
  image_same = looked.image

  -- where there is no node
  pub no_key : place.node ≡ 0 → times key (each_word n (shown.image old) 0 (blocks_of_buckets n f)) ≡ 0
  no_key none = nowhere is key (missing is (own_within key o) place found none)

  -- where there is one
  pub node : (place.node ≡ 0 → ⊥) → There n (shown.image old) f key place
  node some = there is (own_within key o) place found some

  pub passed : (t : There n (shown.image old) f key place) → Looks shown (2 + 2 * length t.front) old mid
  passed t = finds.found t.front t.block t.back (subst (λ bs. IsBucket n (shown.image old) (bucket_of n key) bs) t.blocks (is.chains (bucket_of n key) (own_within key o))) t.holds

  pub sooner : There n (shown.image old) f key place → Looks shown (2 * length (f (bucket_of n key))) old mid
  sooner t = looks_most shown (2 + 2 * length t.front) (2 * length (f (bucket_of n key))) (omega (arith, ap length t.blocks, length-append t.front (t.block ∷ t.back))) (passed t)

  module _ {V : Type 0} (value : ℕ → V) where
    pub looked_beside : Looks shown (1 + 2 * keys_beside n (keyed n (shown.image old) value f) key) old mid
    looked_beside = looks_most shown (1 + 2 * length (f (bucket_of n key))) (1 + 2 * keys_beside n (keyed n (shown.image old) value f) key) (omega (arith, beside is value key (own_within key o))) looked

    pub sooner_beside : There n (shown.image old) f key place → Looks shown (2 * keys_beside n (keyed n (shown.image old) value f) key) old mid
    sooner_beside t = looks_most shown (2 * length (f (bucket_of n key))) (2 * keys_beside n (keyed n (shown.image old) value f) key) (omega (arith, beside is value key (own_within key o))) (sooner t)

    pub no_value : place.node ≡ 0 → finite.get (keyed n (shown.image old) value f) key ≡ None
    no_value none = get_nowhere is value key (missing is (own_within key o) place found none)

    pub value_there : (t : There n (shown.image old) f key place) → finite.get (keyed n (shown.image old) value f) key ≡ Some (value t.block)
    value_there t = get_here is key (own_within key o) t.front t.block t.back t.blocks t.holds value
