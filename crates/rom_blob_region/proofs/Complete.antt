-- A well-formed region passes all parts of the inspection.
use Rattle.std.proofs.Common.{◌≡◌, inl, inr, ℕ, zero, suc, ◌+◌, ◌^◌, ◌<◌, ◌≤◌, List, [], ◌∷◌, ◌++◌, length, refl, sym, ◌∙◌, ap, arith, length-append}
use Rattle.std.specs.Prelude.{Ok, Err, slice_index, nat_le}
use Rattle.std.proofs.lemmas.Bool.{cases_lt, le-leb}
use Rattle.rom_model.specs.History.{LAST_COUNT}
use Rattle.rom_model.specs.Blocks.{block_of}
use Rattle.rom_model.specs.Chains.{times, Chain, each_word}
use Rattle.rom_model.specs.Region.{buckets, bucket_of, all_of}
use Rattle.rom_model.specs.declared.unfit.Rule.TheVariants.{Root, Count}
use Rattle.rom_model.specs.declared.unfit.Break.{Break}
use Rattle.rom_model.specs.Tests.{checked, test, is_word, are_zero}
use Rattle.rom_model.proofs.Times.{times_here, times_more, times_bucket}
use Rattle.rom_model.proofs.Outcomes.{not_both, one_err}
use Rattle.rom_model.proofs.Holding.{word_holds, holds_more, zeros_hold, both_hold}
use Rattle.rom_bucket.specs.Walk.{head_of}
use Rattle.rom_bucket.specs.Buckets.{blocks_of_buckets}
use Rattle.rom_blob_region.specs.State.{BlobState}
use Rattle.rom_blob_region.specs.Region.{IsBlob, AreBlobsApart, blob_at, IsBlobs, BlobContents}
use Rattle.rom_blob_region.proofs.Held.{times_held, held_first, tree_same}
use Rattle.rom_blob_region.specs.Tests.{blob_key_of, blob_root_tests}
use Rattle.rom_blob_region.specs.Walks.{held, next_blob_link, Node, ReachesBlobs, WalksBlobs}
use Rattle.rom_blob_region.specs.Parts.{BucketByBucket, BlobInspection, FirstBlobBreak}
use Rattle.rom_blob_region.proofs.Outcomes.{inspection_single}
use Rattle.rom_blob_region.proofs.Blocks.{apart_less}
use Rattle.rom_blob_region.proofs.Fitting.{fits_node}
use Rattle.rom_blob_region.proofs.Onward.{onward, length_onward, held_onward}

-- the nodes of a bucket, each with bytes of its own
pub record AreFit (n : ℕ) (w : List ℕ) (i : ℕ) (units : List ℕ) : Type 0 where
  pub own : (b : ℕ) → 0 < times b units → bucket_of n (blob_key_of n w b) ≡ i
  pub blobs : (b : ℕ) → 0 < times b units → IsBlob n w b
  pub inside : (b : ℕ) → 0 < times b units → b < 2 ^ n

fit_rest : {n : ℕ} {w : List ℕ} {i : ℕ} (c : ℕ) (cs : List ℕ) → AreFit n w i (c ∷ cs) → AreFit n w i cs
fit_rest c cs fit = record {
  own = λ b some. fit.own b (omega (arith, some, times_more b c cs));
  blobs = λ b some. fit.blobs b (omega (arith, some, times_more b c cs));
  inside = λ b some. fit.inside b (omega (arith, some, times_more b c cs));
}

times_first : (f : ℕ → List ℕ) (n : ℕ) (w : List ℕ) (x k m : ℕ) → k ≤ m → times x (held n w (all_of f k)) ≤ times x (held n w (all_of f m))
times_first f n w x k zero le = let e : k ≡ 0 = omega arith in omega (arith, ap (λ i. times x (held n w (all_of f i))) e)
times_first f n w x k (suc m) le = elim (cases_lt k (suc m)) [
  | inl lt ↦ omega (arith, times_first f n w x k m (omega (arith, lt)), times_held (blob_at n w) x (all_of f m) (f m))
  | inr ge ↦ let e : k ≡ suc m = omega arith in omega (arith, ap (λ i. times x (held n w (all_of f i))) e)
]

-- all blocks are apart, and words are below 2 ^ 64
module _ (n : ℕ) (w : List ℕ) (le : 4 ≤ n) (small : (k : ℕ) → slice_index w k < 2 ^ 64) (all : List ℕ) (apart : AreBlobsApart n all) where
  -- a chain is walked to its end
  pub walk_along : (i : ℕ) (seen bs cs : List ℕ) → ReachesBlobs n w i seen bs → Chain n w (next_blob_link n i bs) 2 cs → AreFit n w i cs → ((key : ℕ) → times key (each_word n w 0 bs) + times key (each_word n w 0 cs) ≤ 1)
      → ((x : ℕ) → times x (held n w cs) + times x (held n w (bs ++ seen)) ≤ times x all) → WalksBlobs n w i seen (Ok (onward cs bs))
  walk_along i seen bs [] reach chain fit once among = (reach, chain)
  walk_along i seen bs (c ∷ cs) reach chain fit once among =
      let some : 0 < times c (c ∷ cs) = omega (arith, times_here c cs) in
      let blob = fit.blobs c some in
      let none : times (blob_key_of n w c) (each_word n w 0 bs) ≡ 0 = omega (arith, once (blob_key_of n w c), times_here (blob_key_of n w c) (each_word n w 0 cs)) in
      let here : AreBlobsApart n (held n w (c ∷ bs ++ seen)) = apart_less n all (held n w (c ∷ bs ++ seen)) (λ x. omega (arith, among x, held_first (blob_at n w) x c (bs ++ seen), held_first (blob_at n w) x c cs)) apart in
      let node : Node n w i seen bs (Ok c) = fits_node n w le i seen bs c chain.0 (fit.inside c some) record { few = blob.few; own = fit.own c some; once = none } blob (small _) here in
      walk_along i seen (c ∷ bs) cs (reach, node) chain.1 (fit_rest c cs fit) (λ key. omega (arith, once key)) (λ x. omega (arith, among x, held_first (blob_at n w) x c (bs ++ seen), held_first (blob_at n w) x c cs))

  -- the chains with the numbers below k were walked
  pub record Walked (chains : ℕ → List ℕ) (k : ℕ) : Type 0 where
    pub units : List ℕ
    pub walk : BucketByBucket n w k (Ok units)
    pub counts : (x : ℕ) → times x (held n w units) ≡ times x (held n w (all_of chains k))
    pub long : length units ≡ length (all_of chains k)

  -- chains are walked one by one
  module _ (m : ℕ) (chains : ℕ → List ℕ) (are : (i : ℕ) → i < m → Chain n w (head_of n i) 2 (chains i)) (fit : (i : ℕ) → i < m → AreFit n w i (chains i)) (differ : (i key : ℕ) → i < m → times key (each_word n w 0 (chains i)) ≤ 1)
      (among : (x : ℕ) → times x (held n w (all_of chains m)) ≤ times x all) where
    pub walk_all : (k : ℕ) → k ≤ m → Walked chains k
    walk_all zero most = record { units = []; walk = refl; counts = λ x. refl; long = refl }
    walk_all (suc k) most =
        let lt : k < m = omega arith in
        let before = walk_all k (omega arith) in
        let bs = onward (chains k) [] in
        let split : (x : ℕ) → times x (held n w (all_of chains (suc k))) ≡ times x (held n w (all_of chains k)) + times x (held n w (chains k)) = (λ x. times_held (blob_at n w) x (all_of chains k) (chains k)) in
        let more : WalksBlobs n w k before.units (Ok bs) = walk_along k before.units [] (chains k) tt (are k lt) (fit k lt) (λ key. omega (arith, differ k key lt))
        (λ x. omega (arith, among x, times_first chains n w x (suc k) m most, split x, before.counts x)) in
        record {
          units = bs ++ before.units;
          walk = (before.units, before.walk, (bs, more, refl));
          counts = λ x. omega (arith, times_held (blob_at n w) x bs before.units, held_onward n w x (chains k) [], before.counts x, split x);
          long = omega (arith, length-append bs before.units, length_onward (chains k) [], before.long, length-append (all_of chains k) (chains k));
        }

module _ (n : ℕ) (w : List ℕ) (le : 4 ≤ n) (small : (k : ℕ) → slice_index w k < 2 ^ 64) {f : ℕ → List ℕ} {s : BlobState} {count : ℕ} (is : IsBlobs n w f s count) where
  root_holds : checked (blob_root_tests n w) ≡ Ok tt
  root_holds =
      let root = is.root in
      let t8 = is_word w 8 Root (block_of n 0) in
      let t2 = test 2 Root (nat_le (slice_index w 2) LAST_COUNT) in
      let t1 = is_word w 1 Root 1 in
      let rest = are_zero w 4 4 Root ++ t8 ∷ are_zero w 9 8 Root in
      word_holds w 0 Root 2 (t1 ∷ t2 ∷ rest) tt root.kind
      ∙ (word_holds w 1 Root 1 (t2 ∷ rest) tt root.version
      ∙ (holds_more t2 rest tt (le-leb (slice_index w 2) LAST_COUNT (let fits : slice_index w 2 ≤ LAST_COUNT = omega (arith, root.count_is, root.count_fits) in fits))
      ∙ both_hold (are_zero w 4 4 Root) (t8 ∷ are_zero w 9 8 Root) (zeros_hold w 4 4 Root (λ k lt. root.low_zeros (4 + k) (omega arith) (omega (arith, lt))))
      (word_holds w 8 Root (block_of n 0) (are_zero w 9 8 Root) tt root.table ∙ zeros_hold w 9 8 Root (λ k lt. root.high_zeros (9 + k) (omega arith) (omega (arith, lt))))))

  abbrev all : List ℕ
  all = held n w (blocks_of_buckets n f)

  walked : Walked n w le small all is.apart f (buckets n)
  walked =
      walk_all n w le small all is.apart (buckets n) f is.keys.chains (λ i lt. record {
        own = λ b some. is.keys.own_bucket i b lt some;
        blobs = λ b some. is.blobs b (omega (arith, some, times_bucket f (buckets n) i b lt));
        inside = λ b some. (is.keys.within b (omega (arith, some, times_bucket f (buckets n) i b lt))).1;
      }) is.keys.keys_differ (λ x. omega arith) (buckets n) (omega arith)

  pub passes : BlobInspection n w (Ok tt)
  passes = (
    tt,
    sym root_holds,
    (
      walked.units,
      walked.walk,
      (
        tt,
        sym (word_holds w 3 Count (length walked.units) [] tt (is.keys.len ∙ sym walked.long)),
        tree_same n all (held n w walked.units) w (λ x. sym (walked.counts x)) is.tree,
      ),
    ),
  )

-- a well-formed region breaks nowhere
pub breaks_nowhere : (n : ℕ) (w : List ℕ) → 4 ≤ n → ((k : ℕ) → slice_index w k < 2 ^ 64) → (e : Break) → FirstBlobBreak n w e → (s : BlobState) (k : ℕ) → BlobContents n w s k → ⊥
breaks_nowhere n w le small e broke s k is = not_both tt e (inspection_single n w le (Ok tt) (Err e) (passes n w le small is.1) broke)

pub breaks_once : (n : ℕ) (w : List ℕ) → 4 ≤ n → (e d : Break) → FirstBlobBreak n w e → FirstBlobBreak n w d → e ≡ d
breaks_once n w le e d broke also = one_err {A = Unit {0}} e d (inspection_single n w le (Err e) (Err d) broke also)
