-- The blocks that a walk reached, in the order of their chain.
use Rattle.std.proofs.Common.{◌≡◌, inl, inr, ℕ, ◌+◌, ◌<◌, ◌≤◌, true, List, [], ◌∷◌, ◌++◌, length, refl, ap, subst, arith}
use Rattle.std.specs.Prelude.{Ok, slice_index}
use Rattle.std.proofs.lemmas.Bool.{cases_eq, ltb-true}
use Rattle.rom_model.specs.Blocks.{block_of}
use Rattle.rom_model.specs.Chains.{times, Chain, last_of, each_word, HoldZero}
use Rattle.rom_model.specs.Rising.{IsRising}
use Rattle.rom_model.specs.Region.{bucket_of}
use Rattle.rom_model.proofs.Times.{times_here, times_away}
use Rattle.rom_heap.specs.declared.inspect.walk.Walk.{Walk}
use Rattle.rom_heap.specs.declared.inspect.walk.Walk.TheVariants as along
use Rattle.rom_model.specs.Tests.{checked}
use Rattle.rom_heap.specs.Tests.{newest}
use Rattle.rom_heap.specs.Walks.{key_of, is_above, first_link, next_word, next_link, node_tests, Reaches, AreDistinctBlocks}
use Rattle.rom_heap.proofs.Holding.{queue_pads, set_pads, old_pad, old_own, old_once, bucket_own, bucket_stamp}

-- these, of which the last comes first, in their order before others
abbrev pub onward : List ℕ → List ℕ → List ℕ
onward [] cs = cs
onward (b ∷ bs) cs = onward bs (b ∷ cs)

pub times_onward : (c : ℕ) (bs cs : List ℕ) → times c (onward bs cs) ≡ times c bs + times c cs
times_onward c [] cs = omega arith
times_onward c (b ∷ bs) cs = omega (arith, times_onward c bs (b ∷ cs))

pub length_onward : (bs cs : List ℕ) → length (onward bs cs) ≡ length bs + length cs
length_onward [] cs = omega arith
length_onward (b ∷ bs) cs = omega (arith, length_onward bs (b ∷ cs))

last_stays : (n : ℕ) (bs : List ℕ) (c : ℕ) (cs : List ℕ) → last_of n (onward bs (c ∷ cs)) ≡ last_of n (c ∷ cs)
last_stays n [] c cs = refl
last_stays n (b ∷ bs) c cs = last_stays n bs b (c ∷ cs)

pub last_onward : (n : ℕ) (bs : List ℕ) → last_of n (onward bs []) ≡ newest n bs
last_onward n [] = refl
last_onward n (b ∷ bs) = last_stays n bs b []

pub key_times_onward : (n : ℕ) (w : List ℕ) (key : ℕ) (bs cs : List ℕ) → times key (each_word n w 0 (onward bs cs)) ≡ times key (each_word n w 0 bs) + times key (each_word n w 0 cs)
key_times_onward n w key [] cs = omega arith
key_times_onward n w key (b ∷ bs) cs = omega (arith, key_times_onward n w key bs (b ∷ cs))

-- the last key of some blocks is below the first of others
abbrev pub IsBelow : ℕ → List ℕ → List ℕ → List ℕ → Type 0
IsBelow n w [] cs = Unit {0}
IsBelow n w (b ∷ bs) [] = Unit {0}
IsBelow n w (b ∷ bs) (c ∷ cs) = key_of n w b < key_of n w c

module _ (n : ℕ) (w : List ℕ) (walk : Walk) (seen : List ℕ) where
  pub chain_onward : (bs cs : List ℕ) → Reaches n w walk seen bs → Chain n w (next_link n walk bs) (next_word walk) cs → Chain n w (first_link n walk) (next_word walk) (onward bs cs)
  chain_onward [] cs f chain = chain
  chain_onward (b ∷ bs) cs f chain = chain_onward bs (b ∷ cs) f.0 (f.1.here, chain)

  -- each of the blocks has passed its tests
  pub held : (bs : List ℕ) (c : ℕ) → Reaches n w walk seen bs → 0 < times c bs → (before : List ℕ) × (checked (node_tests n w walk before c) ≡ Ok tt)
  held [] c f some = absurd (omega (arith, some))
  held (b ∷ bs) c f some = elim (cases_eq b c) [
    | inl same ↦ (bs, subst (λ (a : ℕ). checked (node_tests n w walk bs a) ≡ Ok tt) same f.2)
    | inr other ↦ held bs c f.0 (omega (arith, some, times_away c b bs other))
  ]

  pub apart_onward : (bs : List ℕ) → Reaches n w walk seen bs → AreDistinctBlocks n seen → AreDistinctBlocks n (bs ++ seen)
  apart_onward [] f apart = apart
  apart_onward (b ∷ bs) f apart =
      let before = apart_onward bs f.0 apart in
      record {
        different = λ c. elim (cases_eq b c) [
          | inl same ↦ omega (arith, ap (λ (a : ℕ). times a (bs ++ seen)) same, f.1.fresh, times_here b (bs ++ seen), ap (λ (a : ℕ). times a (b ∷ bs ++ seen)) same)
          | inr other ↦ omega (arith, times_away c b (bs ++ seen) other, before.different c)
        ];
        within = λ c some. elim (cases_eq b c) [
          | inl same ↦ (omega (arith, f.1.least, same), omega (arith, f.1.most, same))
          | inr other ↦ before.within c (omega (arith, times_away c b (bs ++ seen) other, some))
        ];
      }

-- the pads of the chain's nodes
module _ (n : ℕ) (w seen bs : List ℕ) where
  in_chain : (c : ℕ) → 0 < times c (onward bs []) → 0 < times c bs
  in_chain c some = omega (arith, some, times_onward c bs [])

  pub queue_zeros : Reaches n w along.Queue seen bs → (j : ℕ) → 2 ≤ j → j < 4 → HoldZero n w j (onward bs [])
  queue_zeros f j lo hi c some = let h = held n w along.Queue seen bs c f (in_chain c some) in queue_pads n w h.0 c h.1 j lo hi

  pub set_zeros : Reaches n w along.Set seen bs → (j : ℕ) → 2 ≤ j → j < 4 → HoldZero n w j (onward bs [])
  set_zeros f j lo hi c some = let h = held n w along.Set seen bs c f (in_chain c some) in set_pads n w h.0 c h.1 j lo hi

  pub old_zeros : (i : ℕ) → Reaches n w (along.OldBucket i) seen bs → HoldZero n w 3 (onward bs [])
  old_zeros i f c some = let h = held n w (along.OldBucket i) seen bs c f (in_chain c some) in old_pad n w h.0 c i h.1

  pub old_keys : (i : ℕ) → Reaches n w (along.OldBucket i) seen bs → (c : ℕ) → 0 < times c (onward bs []) → bucket_of n (key_of n w c) ≡ i
  old_keys i f c some = let h = held n w (along.OldBucket i) seen bs c f (in_chain c some) in old_own n w h.0 c i h.1

  pub bucket_keys : (i : ℕ) → Reaches n w (along.Bucket i) seen bs → (c : ℕ) → 0 < times c (onward bs []) → bucket_of n (key_of n w c) ≡ i
  bucket_keys i f c some = let h = held n w (along.Bucket i) seen bs c f (in_chain c some) in bucket_own n w h.0 c i h.1

  pub stamps_within : (i : ℕ) → Reaches n w (along.Bucket i) seen bs → (c : ℕ) → 0 < times c (onward bs []) → slice_index w (block_of n c + 3) ≤ slice_index w 2
  stamps_within i f c some = let h = held n w (along.Bucket i) seen bs c f (in_chain c some) in bucket_stamp n w h.0 c i h.1

above_below : (n : ℕ) (w bs : List ℕ) (b : ℕ) (cs : List ℕ) → is_above n w bs (key_of n w b) ≡ true → IsBelow n w bs (b ∷ cs)
above_below n w [] b cs is = tt
above_below n w (a ∷ bs) b cs is = ltb-true (key_of n w a) (key_of n w b) is

rises : (n : ℕ) (w : List ℕ) (b : ℕ) (bs cs : List ℕ) → IsBelow n w (b ∷ bs) cs → IsRising (each_word n w 0 cs) → IsRising (each_word n w 0 (b ∷ cs))
rises n w b bs [] below rising = tt
rises n w b bs (c ∷ cs) below rising = (below, rising)

-- keys rise along a chain whose tests ask it
module _ (n : ℕ) (w : List ℕ) (walk : Walk) (seen : List ℕ) (asks : (before : List ℕ) (b : ℕ) → checked (node_tests n w walk before b) ≡ Ok tt → is_above n w before (key_of n w b) ≡ true) where
  pub rising_onward : (bs cs : List ℕ) → Reaches n w walk seen bs → IsBelow n w bs cs → IsRising (each_word n w 0 cs) → IsRising (each_word n w 0 (onward bs cs))
  rising_onward [] cs f below rising = rising
  rising_onward (b ∷ bs) cs f below rising = rising_onward bs (b ∷ cs) f.0 (above_below n w bs b cs (asks bs b f.2)) (rises n w b bs cs below rising)

pub keys_once : (n : ℕ) (w seen : List ℕ) (i : ℕ) (bs : List ℕ) (key : ℕ) → Reaches n w (along.OldBucket i) seen bs → times key (each_word n w 0 bs) ≤ 1
keys_once n w seen i [] key f = omega arith
keys_once n w seen i (b ∷ bs) key f = elim (cases_eq (key_of n w b) key) [
  | inl same ↦ omega (arith, ap (λ (a : ℕ). times a (each_word n w 0 bs)) same, old_once n w bs b i f.2, times_here (key_of n w b) (each_word n w 0 bs), ap (λ (a : ℕ). times a (each_word n w 0 (b ∷ bs))) same)
  | inr other ↦ omega (arith, keys_once n w seen i bs key f.0, times_away key (key_of n w b) (each_word n w 0 bs) other)
]
