-- What the search for a key tells where keys rise.
use Rattle.std.proofs.Common.{◌≡◌, inl, inr, ℕ, ◌+◌, ◌*◌, ◌<◌, true, false, List, length, arith}
use Rattle.std.specs.Prelude.{None, Some}
use Rattle.std.specs.FinMap as finite
use Rattle.std.proofs.lemmas.Bool.{cases_Bool}
use Rattle.rom_model.specs.Space.{ShownSpace, Looks}
use Rattle.rom_model.specs.Blocks.{IsOrder}
use Rattle.rom_model.specs.Chains.{times, each_word}
use Rattle.rom_model.specs.Walks.{keys_under, end_loads}
use Rattle.rom_model.specs.Region.{buckets, bucket_of}
use Rattle.rom_model.proofs.Looks.{looks_most}
use Rattle.rom_bucket.specs.Buckets.{blocks_of_buckets, AreBuckets, There, keyed}
use Rattle.rom_bucket.specs.Rising.{KeysRise, IsSought, Seeks, last_load}
use Rattle.rom_bucket.specs.declared.rising.Sought.{Sought}
use Rattle.rom_bucket.proofs.Finding.{own_within}
use Rattle.rom_bucket.proofs.Keys.{nowhere, get_nowhere, get_here}
use Rattle.rom_bucket.proofs.Ordered.{none_there, there, passed_few, end_missing, end_found}

module _ {M : Type 0} {shown : ShownSpace M} {n size key : ℕ} {sought : Sought} {old mid : M} {f : ℕ → List ℕ} (o : IsOrder n) (is : AreBuckets n size (shown.image old) f) (rising : KeysRise n (shown.image old) f) (seeks : Seeks shown n key sought old mid) where
  abbrev own_lt : bucket_of n key < buckets n
  own_lt = own_within key o

  -- where the walk stopped
  pub stopped : IsSought n (shown.image old) (f (bucket_of n key)) key sought
  stopped = (seeks.is (f (bucket_of n key)) (is.chains (bucket_of n key) own_lt)).0

  walked : Looks shown (1 + 2 * length stopped.walked.front + last_load stopped.walked.back) old mid
  unfolding stopped
  walked = (seeks.is (f (bucket_of n key)) (is.chains (bucket_of n key) own_lt)).1

  pub image_same : shown.image mid ≡ shown.image old
  image_same = walked.image

  -- where the key was not found
  pub no_key : sought.found ≡ false → times key (each_word n (shown.image old) 0 (blocks_of_buckets n f)) ≡ 0
  no_key missing = nowhere is key (none_there is rising own_lt stopped missing)

  -- where it was
  pub node : sought.found ≡ true → There n (shown.image old) f key sought.place
  node has = there is rising own_lt stopped has

  module _ {V : Type 0} (value : ℕ → V) where
    -- one load is left for what the key has
    pub looked_found : sought.found ≡ true → Looks shown (2 * keys_under n (keyed n (shown.image old) value f) key + end_loads n (keyed n (shown.image old) value f) key) old mid
    looked_found has = looks_most shown _ _ (omega (arith, passed_few is rising own_lt stopped value, end_found is rising own_lt stopped value has)) walked

    pub looked : Looks shown (1 + 2 * keys_under n (keyed n (shown.image old) value f) key + end_loads n (keyed n (shown.image old) value f) key) old mid
    looked = elim (cases_Bool sought.found) [
      | inl has ↦ looks_most shown _ _ (omega (arith, passed_few is rising own_lt stopped value, end_found is rising own_lt stopped value has)) walked
      | inr missing ↦ looks_most shown _ _ (omega (arith, passed_few is rising own_lt stopped value, end_missing is rising own_lt stopped value missing)) walked
    ]

    pub no_value : sought.found ≡ false → finite.get (keyed n (shown.image old) value f) key ≡ None
    no_value missing = get_nowhere is value key (none_there is rising own_lt stopped missing)

    pub value_there : (t : There n (shown.image old) f key sought.place) → finite.get (keyed n (shown.image old) value f) key ≡ Some (value t.block)
    value_there t = get_here is key own_lt t.front t.block t.back t.blocks t.holds value
