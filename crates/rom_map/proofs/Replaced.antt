-- The map in which a key has another value and another stamp.
use Rattle.std.proofs.Common.{◌≡◌, ◌≢◌, inl, inr, ℕ, ◌+◌, ◌<◌, ◌≤◌, List, [], ◌∷◌, length, refl, sym, ◌∙◌, ap, subst, arith, length-set, get_or-set_other}
use Rattle.std.specs.Prelude.{slice_index, slice_set}
use Rattle.std.specs.FinMap as finite
use Rattle.std.proofs.lemmas.Bool.{cases_eq}
use Rattle.std.proofs.lemmas.Grind.{get_or-set_at}
use Rattle.rom_model.specs.State.{State, written}
use Rattle.rom_model.specs.Blocks.{block_of}
use Rattle.rom_model.specs.Chains.{times, stamped_at}
use Rattle.rom_model.specs.Region.{Chains, buckets, bucket_of, map_blocks, element_blocks, taken_by, IsMap, IsVersion, IsRegion, ChangesPart}
use Rattle.rom_model.proofs.Times.{times_here, times_away, times-append}
use Rattle.rom_model.proofs.Room.{times_members, tree_stays}
use Rattle.rom_model.proofs.Elements.{AreElements}
use Rattle.rom_bucket.specs.Walk.{head_of}
use Rattle.rom_bucket.specs.Buckets.{AreBuckets, There}
use Rattle.rom_bucket.specs.declared.walk.Place.{Place}
use Rattle.rom_bucket.proofs.Heads.{head_before}
use Rattle.rom_bucket.proofs.Keys.{buckets_same, again}
use Rattle.rom_bucket.proofs.Ordered.{rising_same}
use Rattle.rom_map.specs.Map.{with_entry, IsReplaced}
use Rattle.rom_map.proofs.Keyed.{map_keys, map_pairs, map_of}
use Rattle.rom_map.proofs.Regions.{remapped}

-- the words with another value and another stamp
module _ (w : List ℕ) (node value stamp : ℕ) where
  abbrev first : List ℕ
  first = slice_set w (node + 1) value

  pub entry_long : length (with_entry w node value stamp) ≡ length w
  entry_long = length-set first (node + 3) stamp ∙ length-set w (node + 1) value

  pub entry_stays : (j : ℕ) → j ≢ node + 1 → j ≢ node + 3 → slice_index (with_entry w node value stamp) j ≡ slice_index w j
  entry_stays j one three = get_or-set_other first (node + 3) j stamp 0 three ∙ get_or-set_other w (node + 1) j value 0 one

  pub entry_value : node + 4 ≤ length w → slice_index (with_entry w node value stamp) (node + 1) ≡ value
  entry_value inside = get_or-set_other first (node + 3) (node + 1) stamp 0 (omega arith) ∙ get_or-set_at w (node + 1) (node + 1) value 0 refl (omega (arith, inside))

  pub entry_stamp : node + 4 ≤ length w → slice_index (with_entry w node value stamp) (node + 3) ≡ stamp
  entry_stamp inside = get_or-set_at first (node + 3) (node + 3) stamp 0 refl (omega (arith, inside, length-set w (node + 1) value))

module _ {n : ℕ} {w w' : List ℕ} {p : Chains} {s : State} {k : ℕ} (least : 4 ≤ n) (is : IsRegion n w p s k) (key value stamp : ℕ) (most : stamp ≤ k) (lt : bucket_of n key < buckets n) (place : Place) (t : There n w p.bucket key place) (now : w' ≡ with_entry w place.node value stamp) where
  abbrev at : ℕ
  at = block_of n t.block

  same : w' ≡ with_entry w at value stamp
  same = now ∙ ap (λ a. with_entry w a value stamp) t.node_is

  inside : at + 4 ≤ length w
  inside = omega (arith, t.within, is.shape.as_long)

  pub as_long : length w' ≡ length w
  as_long = ap length same ∙ entry_long w at value stamp

  pub stays : (j : ℕ) → j ≢ at + 1 → j ≢ at + 3 → slice_index w' j ≡ slice_index w j
  stays j one three = ap (λ v. slice_index v j) same ∙ entry_stays w at value stamp j one three

  -- words of other blocks stay, and the keys and the links of all
  beside : (c j : ℕ) → j < 4 → (c ≡ t.block → ⊥) → slice_index w' (block_of n c + j) ≡ slice_index w (block_of n c + j)
  beside c j small ne = stays (block_of n c + j) (λ e. ne (omega (arith, e, small))) (λ e. ne (omega (arith, e, small)))

  keys_stay : (c : ℕ) → slice_index w' (block_of n c + 0) ≡ slice_index w (block_of n c + 0)
  keys_stay c = stays (block_of n c + 0) (omega arith) (omega arith)

  low_stays : (j : ℕ) → j < at → slice_index w' j ≡ slice_index w j
  low_stays j low = stays j (λ e. absurd (omega (arith, e, low))) (λ e. absurd (omega (arith, e, low)))

  has : stamped_at n w' t.block ≡ record { value = value; stamp = stamp }
  has =
      let one = ap (λ v. slice_index v (at + 1)) same ∙ entry_value w at value stamp inside in
      let three = ap (λ v. slice_index v (at + 3)) same ∙ entry_stamp w at value stamp inside in
      λ i. record { value = one i; stamp = three i }

  replaced_buckets : AreBuckets n 9 w' p.bucket
  replaced_buckets = buckets_same w' (λ i less. low_stays (head_of n i) (omega (arith, head_before n i least less, t.within))) (low_stays 9 (omega arith)) (λ c some. keys_stay c) (λ c some. stays (block_of n c + 2) (omega arith) (omega arith)) (map_keys is)

  replaced_map : IsMap n w' p (written s.pairs stamp key value)
  replaced_map = map_of replaced_buckets (
      again (map_keys is) key lt t.front t.block t.back t.blocks t.holds (stamped_at n w) w' (stamped_at n w') (λ c some. keys_stay c)
      (λ c some ne. (let one = beside c 1 (omega arith) ne in let three = beside c 3 (omega arith) ne in λ i. record { value = one i; stamp = three i }))
      ∙ (λ i. finite.insert (map_pairs is i) key (has i))
      )

  stamps : (c : ℕ) → 0 < times c (map_blocks n p) → slice_index w' (block_of n c + 3) ≤ k
  stamps c some = elim (cases_eq t.block c) [
    | inl one ↦ subst (λ b. slice_index w' (block_of n b + 3) ≤ k) one (omega (arith, ap (λ v. slice_index v (at + 3)) same, entry_stamp w at value stamp inside, most))
    | inr ne ↦ omega (arith, beside c 3 (omega arith) (λ e. ne (sym e)), is.version.stamps c some)
  ]

  replaced_version : IsVersion n w' p k
  replaced_version = record {
    version = low_stays 1 (omega arith) ∙ is.version.version;
    rising = rising_same n w w' p.bucket (λ c some. keys_stay c) is.version.rising;
    stamps = stamps;
  }

  part : ChangesPart n 9 9 (t.block ∷ []) w w'
  part = record {
    as_long = as_long;
    root = λ j small beside. low_stays j (omega (arith, small));
    others = λ j late outside. stays j
        (λ e. outside t.block (omega (arith, times_here t.block [])) (omega (arith, e), omega (arith, e)))
        (λ e. outside t.block (omega (arith, times_here t.block [])) (omega (arith, e), omega (arith, e)));
  }

  away : (c : ℕ) → 0 < times c p.queue + times c p.set → times c (t.block ∷ []) ≡ 0
  away c some = times_away c t.block [] (λ e. absurd (omega (arith, some, ap (λ x. times x p.queue) e, ap (λ x. times x p.set) e, is.shape.different t.block, times_members n p t.block, t.among)))

  elements : AreElements n (taken_by n (element_blocks n p)) p
  elements = record { different = is.shape.different; within = is.shape.within; tree = λ words are. are }

  pub replaced : IsReplaced n w p s k key value stamp w'
  replaced = record {
    block = t.block;
    among = omega (arith, ap (times t.block) t.blocks, times-append t.block t.front (t.block ∷ t.back), times_here t.block t.back);
    holds = t.holds;
    has = has;
    region = remapped is w' (t.block ∷ []) 9 (omega arith) p.bucket (written s.pairs stamp key value) part away elements (tree_stays n (taken_by n (element_blocks n p)) w w' (λ j low high. low_stays j (omega (arith, high))) is.shape.tree) replaced_map replaced_version;
    as_long = as_long;
    others = stays;
  }
