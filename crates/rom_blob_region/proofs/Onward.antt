-- The nodes that a walk reached, in the order of their chain.
use Rattle.std.proofs.Common.{◌≡◌, inl, inr, ℕ, ◌+◌, ◌^◌, ◌<◌, ◌≤◌, List, [], ◌∷◌, ◌++◌, length, ap, subst, arith}
use Rattle.std.specs.Prelude.{slice_index}
use Rattle.std.proofs.lemmas.Bool.{cases_eq}
use Rattle.rom_model.specs.Blocks.{block_of}
use Rattle.rom_model.specs.Chains.{times, Chain, each_word}
use Rattle.rom_model.proofs.Times.{times_here, times_away}
use Rattle.rom_bucket.specs.Walk.{head_of}
use Rattle.rom_blob_region.specs.Region.{blob_at, AreBlobsApart}
use Rattle.rom_blob_region.proofs.Held.{held_first}
use Rattle.rom_blob_region.specs.Tests.{blob_key_of}
use Rattle.rom_blob_region.specs.Walks.{held, next_blob_link, ReachesBlobs, IsBlobWay}
use Rattle.rom_blob_region.proofs.Blocks.{unit_deep}
use Rattle.rom_blob_region.proofs.Fitting.{Fits, node_fits}

-- these, of which the last comes first, in their order before others
abbrev pub onward : List ℕ → List ℕ → List ℕ
onward [] cs = cs
onward (b ∷ bs) cs = onward bs (b ∷ cs)

pub times_onward : (c : ℕ) (bs cs : List ℕ) → times c (onward bs cs) ≡ times c bs + times c cs
times_onward c [] cs = omega arith
times_onward c (b ∷ bs) cs = omega (arith, times_onward c bs (b ∷ cs))

pub length_onward : (bs cs : List ℕ) → length (onward bs cs) ≡ length bs + length cs
length_onward [] cs = omega arith
length_onward (b ∷ bs) cs = omega (arith, length_onward bs (b ∷ cs))

module _ (n : ℕ) (w : List ℕ) where
  pub keys_onward : (key : ℕ) (bs cs : List ℕ) → times key (each_word n w 0 (onward bs cs)) ≡ times key (each_word n w 0 bs) + times key (each_word n w 0 cs)
  keys_onward key [] cs = omega arith
  keys_onward key (b ∷ bs) cs = omega (arith, keys_onward key bs (b ∷ cs))

  pub held_onward : (x : ℕ) (bs cs : List ℕ) → times x (held n w (onward bs cs)) ≡ times x (held n w bs) + times x (held n w cs)
  held_onward x [] cs = omega arith
  held_onward x (b ∷ bs) cs = omega (arith, held_onward x bs (b ∷ cs), held_first (blob_at n w) x b bs, held_first (blob_at n w) x b cs)

module _ (n : ℕ) (w : List ℕ) (le : 4 ≤ n) (i : ℕ) (seen : List ℕ) where
  pub fits_last : (b : ℕ) (bs : List ℕ) → ReachesBlobs n w i seen (b ∷ bs) → Fits n w i seen bs b
  fits_last b bs f = node_fits n w le i seen bs b f.1

  -- each of the nodes fits behind some
  pub fits_each : (bs : List ℕ) (c : ℕ) → ReachesBlobs n w i seen bs → 0 < times c bs → (before : List ℕ) × Fits n w i seen before c
  fits_each [] c f some = absurd (omega (arith, some))
  fits_each (b ∷ bs) c f some = elim (cases_eq b c) [
    | inl same ↦ (bs, subst (λ (a : ℕ). Fits n w i seen bs a) same (fits_last b bs f))
    | inr other ↦ fits_each bs c f.0 (omega (arith, some, times_away c b bs other))
  ]

  pub chain_onward : (bs cs : List ℕ) → ReachesBlobs n w i seen bs → Chain n w (next_blob_link n i bs) 2 cs → Chain n w (head_of n i) 2 (onward bs cs)
  chain_onward [] cs f chain = chain
  chain_onward (b ∷ bs) cs f chain = chain_onward bs (b ∷ cs) f.0 ((let e : slice_index w (next_blob_link n i bs) ≡ block_of n b = omega (arith, (fits_last b bs f).leads.here) in e), chain)

  pub way_onward : (bs cs : List ℕ) → ReachesBlobs n w i seen bs → IsBlobWay n w (next_blob_link n i bs) cs → IsBlobWay n w (head_of n i) (onward bs cs)
  way_onward [] cs f way = way
  way_onward (b ∷ bs) cs f way =
      let leads = (fits_last b bs f).leads in
      way_onward bs (b ∷ cs) f.0 ((let e : slice_index w (next_blob_link n i bs) ≡ block_of n b = omega (arith, leads.here) in e), (let at = unit_deep n (2 ^ n + b) leads.node in omega (arith, at.most)), way)

  pub reach_apart : (bs : List ℕ) → ReachesBlobs n w i seen bs → AreBlobsApart n (held n w seen) → AreBlobsApart n (held n w (bs ++ seen))
  reach_apart [] f apart = apart
  reach_apart (b ∷ bs) f apart = (fits_last b bs f).apart (reach_apart bs f.0 apart)

  pub keys_once : (bs : List ℕ) (key : ℕ) → ReachesBlobs n w i seen bs → times key (each_word n w 0 bs) ≤ 1
  keys_once [] key f = omega arith
  keys_once (b ∷ bs) key f = elim (cases_eq (blob_key_of n w b) key) [
    | inl same ↦ omega (arith, ap (λ (a : ℕ). times a (each_word n w 0 bs)) same, (fits_last b bs f).key.once, times_here (blob_key_of n w b) (each_word n w 0 bs), ap (λ (a : ℕ). times a (each_word n w 0 (b ∷ bs))) same)
    | inr other ↦ omega (arith, keys_once bs key f.0, times_away key (blob_key_of n w b) (each_word n w 0 bs) other)
  ]
