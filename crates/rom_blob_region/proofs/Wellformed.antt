-- A region whose inspection breaks nowhere is well-formed.
use Rattle.std.proofs.Common.{◌≡◌, inl, inr, ℕ, zero, suc, ◌+◌, ◌-◌, ◌^◌, ◌<◌, ◌≤◌, List, [], ◌∷◌, ◌++◌, length, refl, sym, ◌∙◌, ap, subst, arith, length-append}
use Rattle.std.specs.Prelude.{Ok, slice_index, nat_le}
use Rattle.std.proofs.lemmas.Bool.{cases_eq, eqb-true, leb-true}
use Rattle.rom_model.specs.History.{LAST_COUNT}
use Rattle.rom_model.specs.Blocks.{IsOrder, AreWords, block_of, region_len}
use Rattle.rom_model.specs.Chains.{times, Chain, each_word}
use Rattle.rom_model.specs.Region.{buckets, all_of}
use Rattle.rom_model.specs.declared.unfit.Rule.TheVariants.{Root, Count}
use Rattle.rom_model.specs.Tests.{checked, test, is_word, are_zero}
use Rattle.rom_model.proofs.Contents.{one_all}
use Rattle.rom_model.proofs.Outcomes.{one_ok}
use Rattle.rom_model.proofs.Holding.{all_hold, hold_both, held_zeros}
use Rattle.rom_bucket.specs.Walk.{head_of}
use Rattle.rom_bucket.specs.Buckets.{blocks_of_buckets, with_chain, AreBuckets, keyed}
use Rattle.rom_bucket.proofs.Chained.{chain_here, chain_other}
use Rattle.rom_bucket.proofs.Keys.{in_bucket}
use Rattle.rom_blob_region.specs.State.{taken_with}
use Rattle.rom_blob_region.specs.Region.{IsBlobRoot, AreBlobsApart, blob_at}
use Rattle.rom_blob_region.proofs.Held.{times_held, apart_same, tree_same}
use Rattle.rom_blob_region.specs.Tests.{blob_root_tests, size_tests}
use Rattle.rom_blob_region.specs.Walks.{held, next_blob_link, ReachesBlobs}
use Rattle.rom_blob_region.specs.Parts.{BucketByBucket}
use Rattle.rom_blob_region.specs.Answers.{IsSomeBlobs}
use Rattle.rom_blob_region.proofs.Blocks.{behind_table, none_apart, unit_once, unit_deep}
use Rattle.rom_blob_region.proofs.Fitting.{Fits}
use Rattle.rom_blob_region.proofs.Onward.{onward, times_onward, length_onward, keys_onward, held_onward, fits_each, chain_onward, reach_apart, keys_once}

-- a walk to the end of its chain, which has these nodes in its order
pub record IsWalked (n : ℕ) (w : List ℕ) (i : ℕ) (units : List ℕ) : Type 0 where
  pub seen : List ℕ
  pub reached : List ℕ
  pub reaches : ReachesBlobs n w i seen reached
  pub ends : slice_index w (next_blob_link n i reached) ≡ 0
  pub order : units ≡ onward reached []

-- the chains of the first buckets, and all nodes that were reached along them
pub record AreWalked (n : ℕ) (w : List ℕ) (k : ℕ) (reached : List ℕ) : Type 0 where
  pub bucket : ℕ → List ℕ
  pub each : (i : ℕ) → i < k → IsWalked n w i (bucket i)
  pub counts : (x : ℕ) → times x (held n w (all_of bucket k)) ≡ times x (held n w reached)
  pub long : length (all_of bucket k) ≡ length reached

module _ (n : ℕ) (w : List ℕ) where
  pub all_walked : (k : ℕ) (m : List ℕ) → BucketByBucket n w k (Ok m) → AreWalked n w k m
  all_walked zero m is =
      let none : m ≡ [] = one_ok m [] is in
      record {
        bucket = λ i. [];
        each = λ i lt. absurd (omega arith);
        counts = λ x. sym (ap (λ (us : List ℕ). times x (held n w us)) none);
        long = sym (ap (λ (us : List ℕ). length us) none);
      }
  all_walked (suc k) m is =
      let before = is.0 in
      let bs = is.2.0 in
      let old = all_walked k before is.1 in
      let whole : m ≡ bs ++ before = one_ok m (bs ++ before) is.2.2 in
      let cs = onward bs [] in
      let f = with_chain old.bucket k cs in
      let low : all_of f k ≡ all_of old.bucket k = one_all f old.bucket k (λ i lt. chain_other old.bucket k i cs (λ e. absurd (omega (arith, e, lt)))) in
      let last : f k ≡ cs = chain_here old.bucket k cs in
      let all : all_of f (suc k) ≡ all_of old.bucket k ++ cs = λ i. low i ++ last i in
      let more : IsWalked n w k cs = record { seen = before; reached = bs; reaches = is.2.1.0; ends = is.2.1.1; order = refl } in
      record {
        bucket = f;
        each = λ i lt. elim (cases_eq i k) [
          | inl same ↦ subst (λ (a : ℕ). IsWalked n w a (f a)) (sym same) (subst (λ (xs : List ℕ). IsWalked n w k xs) (sym last) more)
          | inr other ↦ subst (λ (xs : List ℕ). IsWalked n w i xs) (sym (chain_other old.bucket k i cs other)) (old.each i (omega (arith, lt, other)))
        ];
        counts = λ x. omega (
          arith,
          ap (λ (us : List ℕ). times x (held n w us)) all,
          times_held (blob_at n w) x (all_of old.bucket k) cs,
          old.counts x,
          held_onward n w x bs [],
          ap (λ (us : List ℕ). times x (held n w us)) whole,
          times_held (blob_at n w) x bs before,
        );
        long = omega (arith, ap (λ (us : List ℕ). length us) all, length-append (all_of old.bucket k) cs, old.long, length_onward bs [], length-append bs before, ap (λ (us : List ℕ). length us) whole);
      }

  pub all_apart : 4 ≤ n → (k : ℕ) (m : List ℕ) → BucketByBucket n w k (Ok m) → AreBlobsApart n (held n w m)
  all_apart le zero m is = subst (λ (us : List ℕ). AreBlobsApart n (held n w us)) (sym (one_ok m [] is)) (none_apart n le)
  all_apart le (suc k) m is =
      let before = is.0 in
      let bs = is.2.0 in
      let whole : m ≡ bs ++ before = one_ok m (bs ++ before) is.2.2 in
      subst (λ (us : List ℕ). AreBlobsApart n (held n w us)) (sym whole) (reach_apart n w le k before bs is.2.1.0 (all_apart le k before is.1))

-- the root words
rooted : (n : ℕ) (w : List ℕ) → checked (blob_root_tests n w) ≡ Ok tt → IsBlobRoot n w (slice_index w 2)
rooted n w is =
    let t8 = is_word w 8 Root (block_of n 0) in
    let t2 = test 2 Root (nat_le (slice_index w 2) LAST_COUNT) in
    let t1 = is_word w 1 Root 1 in
    let rest = are_zero w 4 4 Root ++ t8 ∷ are_zero w 9 8 Root in
    let a = all_hold (is_word w 0 Root 2) (t1 ∷ t2 ∷ rest) tt tt is in
    let b = all_hold t1 (t2 ∷ rest) tt tt a.rest in
    let c = all_hold t2 rest tt tt b.rest in
    let d = hold_both (are_zero w 4 4 Root) (t8 ∷ are_zero w 9 8 Root) c.rest in
    let e = all_hold t8 (are_zero w 9 8 Root) tt tt d.second in
    record {
      kind = eqb-true (slice_index w 0) 2 a.here;
      version = eqb-true (slice_index w 1) 1 b.here;
      count_is = refl;
      count_fits = leb-true (slice_index w 2) LAST_COUNT c.here;
      table = eqb-true (slice_index w 8) (block_of n 0) e.here;
      low_zeros = λ k lo hi. (let at : k ≡ 4 + (k - 4) = omega arith in ap (λ i. slice_index w i) at) ∙ held_zeros w 4 4 Root d.first (k - 4) (omega arith);
      high_zeros = λ k lo hi. (let at : k ≡ 9 + (k - 9) = omega arith in ap (λ i. slice_index w i) at) ∙ held_zeros w 9 8 Root e.rest (k - 9) (omega arith);
    }

module _ (n : ℕ) (w : List ℕ) (o : IsOrder n) (long : length w ≡ region_len n) (root : checked (blob_root_tests n w) ≡ Ok tt) (m : List ℕ) (one : BucketByBucket n w (buckets n) (Ok m)) (size : checked (size_tests w m) ≡ Ok tt) (tree : AreWords n (taken_with (held n w m)) w) where
  abbrev le : 4 ≤ n
  le = o.least

  abbrev walked : AreWalked n w (buckets n) m
  walked = all_walked n w (buckets n) m one

  abbrev bucket : ℕ → List ℕ
  bucket = walked.bucket

  apart : AreBlobsApart n (held n w (blocks_of_buckets n bucket))
  apart = apart_same n (held n w m) (held n w (blocks_of_buckets n bucket)) (λ x. sym (walked.counts x)) (all_apart n w le (buckets n) m one)

  -- what is known of each node
  fit : (i b : ℕ) → i < buckets n → 0 < times b (bucket i) → (seen : List ℕ) × (before : List ℕ) × Fits n w i seen before b
  fit i b lt some =
      let is = walked.each i lt in
      let at = fits_each n w le i is.seen is.reached b is.reaches (omega (arith, some, ap (times b) is.order, times_onward b is.reached [])) in
      (is.seen, at.0, at.1)

  keys : AreBuckets n 3 w bucket
  keys = record {
    chains = λ i lt. let is = walked.each i lt in subst (λ (us : List ℕ). Chain n w (head_of n i) 2 us) (sym is.order) (chain_onward n w le i is.seen is.reached [] is.reaches is.ends);
    len = eqb-true (slice_index w 3) (length m) (all_hold (is_word w 3 Count (length m)) [] tt tt size).here ∙ sym walked.long;
    own_bucket = λ i b lt some. (fit i b lt some).2.key.own;
    keys_differ = λ i key lt. let is = walked.each i lt in omega (arith, ap (λ (us : List ℕ). times key (each_word n w 0 us)) is.order, keys_onward n w key is.reached [], keys_once n w le i is.seen is.reached key is.reaches);
    different = unit_once n w (blocks_of_buckets n bucket) apart;
    within = λ b some.
        let x = in_bucket bucket (buckets n) b some in
        let at = fit x.0 b x.1 x.2 in
        let node = unit_deep n (2 ^ n + b) at.2.leads.node in
        (behind_table n b (held n w (at.1 ++ at.0)) le node at.2.leads.clear, omega (arith, node.most));
  }

  pub well_formed : IsSomeBlobs n w
  well_formed = (
    keyed n w (blob_at n w) bucket,
    slice_index w 2,
    (
      bucket,
      record {
        order = o;
        as_long = long;
        root = rooted n w root;
        keys = keys;
        blobs = λ b some. let x = in_bucket bucket (buckets n) b some in (fit x.0 b x.1 x.2).2.blob;
        state_is = refl;
        apart = apart;
        tree = tree_same n (held n w m) (held n w (blocks_of_buckets n bucket)) w (λ x. sym (walked.counts x)) tree;
      },
    ),
  )
