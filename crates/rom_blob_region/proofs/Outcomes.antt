-- Each part of the inspection comes to one thing.
use Rattle.std.proofs.Common.{◌≡◌, inl, inr, ⊎_elim, ℕ, zero, suc, ◌+◌, ◌^◌, ◌<◌, ◌≤◌, Bool, List, [], ◌∷◌, ◌++◌, length, refl, sym, ◌∙◌, ap, subst, arith}
use Rattle.std.specs.Prelude.{Ok, Err, slice_index}
use Rattle.std.proofs.lemmas.Bool.{cases_lt}
use Rattle.rom_model.specs.Blocks.{block_of}
use Rattle.rom_model.specs.Region.{buckets}
use Rattle.rom_model.specs.declared.unfit.Break.{Break}
use Rattle.rom_model.specs.Tests.{tested, checked}
use Rattle.rom_model.specs.Parts.{Then}
use Rattle.rom_model.proofs.Outcomes.{IsSingle, one_ok, one_err, not_both, one_value, then_single}
use Rattle.rom_block.specs.Taken.{DiffersFirst}
use Rattle.rom_blob_region.specs.State.{order_for, taken_with}
use Rattle.rom_blob_region.specs.Region.{len_at}
use Rattle.rom_blob_region.proofs.Places.{order_small}
use Rattle.rom_blob_region.specs.Tests.{blob_root_tests, key_tests, end_tests, size_tests}
use Rattle.rom_blob_region.specs.Walks.{LeadsToBlob, FollowsBlobLink, Arrives, Body, held, next_blob_link, Node, ReachesBlobs, BreaksBlobWalk, WalksBlobs}
use Rattle.rom_blob_region.specs.Parts.{BucketByBucket, BlobAllocatorTree, Ending, BlobInspection}
use Rattle.rom_blob_region.proofs.Placing.{one_node}

module _ (n : ℕ) (w : List ℕ) (le : 4 ≤ n) where
  one_block : (blocks : List ℕ) (link order x y : ℕ) → order ≤ 3 → LeadsToBlob n w blocks link order x → LeadsToBlob n w blocks link order y → x ≡ y
  one_block blocks link order x y small f g = one_node n order (slice_index w link) le small x y f.node f.here g.node g.here

  follows_single : (blocks : List ℕ) (link order : ℕ) → order ≤ 3 → IsSingle (FollowsBlobLink n w blocks link order)
  follows_single blocks link order small (Ok x) (Ok y) f g = let same = one_block blocks link order x y small f g in ap (λ (z : ℕ). Ok z) same
  follows_single blocks link order small (Ok x) (Err e) f g = absurd (g.0 x f)
  follows_single blocks link order small (Err e) (Ok x) f g = absurd (f.0 x g)
  follows_single blocks link order small (Err e) (Err d) f g = ap (λ (z : Break). Err z) (f.1 ∙ sym g.1)

  arrives_single : (blocks : List ℕ) (link : ℕ) → IsSingle (Arrives n w blocks link)
  arrives_single blocks link (Ok b) (Ok c) f g =
      let same : b ≡ c = omega (arith, one_block blocks link 0 (2 ^ n + b) (2 ^ n + c) (omega arith) f g) in
      ap (λ (z : ℕ). Ok z) same
  arrives_single blocks link (Ok b) (Err e) f g = absurd (g.0 (2 ^ n + b) f)
  arrives_single blocks link (Err e) (Ok b) f g = absurd (f.0 (2 ^ n + b) g)
  arrives_single blocks link (Err e) (Err d) f g = ap (λ (z : Break). Err z) (f.1 ∙ sym g.1)

  body_single : (blocks : List ℕ) (b : ℕ) → IsSingle (Body n w blocks b)
  body_single blocks b x y f g = ⊎_elim
      (λ none. ⊎_elim (λ also. none.1 ∙ sym also.1) (λ some. absurd (some.0 none.0)) g)
      (λ some. ⊎_elim (λ none. absurd (some.0 none.0))
      (λ also. then_single (FollowsBlobLink n w blocks (block_of n b + 3) (order_for (len_at n w b))) (λ z r. r ≡ tested (end_tests n w b) b) (follows_single blocks (block_of n b + 3) (order_for (len_at n w b)) (order_small (len_at n w b))) (λ z. one_value (tested (end_tests n w b) b)) x y some.1 also.1)
      g)
      f

  pub node_single : (i : ℕ) (seen before : List ℕ) → IsSingle (Node n w i seen before)
  node_single i seen before =
      then_single (Arrives n w (held n w (before ++ seen)) (next_blob_link n i before)) (λ b. Then (λ r. r ≡ checked (key_tests n w i before b)) (λ done. Body n w ((2 ^ n + b) ∷ held n w (before ++ seen)) b))
      (arrives_single (held n w (before ++ seen)) (next_blob_link n i before))
      (λ b. then_single (λ r. r ≡ checked (key_tests n w i before b)) (λ done. Body n w ((2 ^ n + b) ∷ held n w (before ++ seen)) b) (one_value (checked (key_tests n w i before b))) (λ done. body_single ((2 ^ n + b) ∷ held n w (before ++ seen)) b))

module _ (n : ℕ) (w : List ℕ) (le : 4 ≤ n) (i : ℕ) (seen : List ℕ) where
  same_reach : (bs cs : List ℕ) → ReachesBlobs n w i seen bs → ReachesBlobs n w i seen cs → length bs ≡ length cs → bs ≡ cs
  same_reach [] [] f g long = refl
  same_reach [] (c ∷ cs) f g long = absurd (omega (arith, long))
  same_reach (b ∷ bs) [] f g long = absurd (omega (arith, long))
  same_reach (b ∷ bs) (c ∷ cs) f g long =
      let same : bs ≡ cs = same_reach bs cs f.0 g.0 (omega (arith, long)) in
      let last : b ≡ c = one_ok b c (node_single n w le i seen cs (Ok b) (Ok c) (subst (λ (xs : List ℕ). Node n w i seen xs (Ok b)) same f.1) g.1) in
      λ j. last j ∷ same j

  -- behind these nodes another is reached
  record GoesOn (bs : List ℕ) : Type 0 where
    unit : ℕ
    node : Node n w i seen bs (Ok unit)

  goes_on : (bs cs : List ℕ) → ReachesBlobs n w i seen bs → ReachesBlobs n w i seen cs → length bs < length cs → GoesOn bs
  goes_on bs [] f g lt = absurd (omega (arith, lt))
  goes_on bs (c ∷ cs) f g lt = elim (cases_lt (length bs) (length cs)) [
    | inl less ↦ goes_on bs cs f g.0 less
    | inr ge ↦
        let same : cs ≡ bs = same_reach cs bs g.0 f (omega (arith, ge, lt)) in
        subst (λ (xs : List ℕ). GoesOn xs) same record { unit = c; node = g.1 }
  ]

  ends_there : (bs : List ℕ) → slice_index w (next_blob_link n i bs) ≡ 0 → GoesOn bs → ⊥
  ends_there bs none on = omega (arith, none, on.node.1.here)

  breaks_there : (bs : List ℕ) (e : Break) → BreaksBlobWalk n w i seen bs e → GoesOn bs → ⊥
  breaks_there bs e broke on = not_both on.unit e (node_single n w le i seen bs (Ok on.unit) (Err e) on.node broke.1)

  -- the longer of two walks goes on behind the shorter
  reached : {C : Type 0} (bs cs : List ℕ) → ReachesBlobs n w i seen bs → ReachesBlobs n w i seen cs → (GoesOn bs → C) → (GoesOn cs → C) → (bs ≡ cs → C) → C
  reached bs cs f g shorter longer same = elim (cases_lt (length bs) (length cs)) [
    | inl lt ↦ shorter (goes_on bs cs f g lt)
    | inr ge ↦ elim (cases_lt (length cs) (length bs)) [
      | inl gt ↦ longer (goes_on cs bs g f gt)
      | inr le ↦ same (same_reach bs cs f g (omega (arith, ge, le)))
    ]
  ]

  ended_broke : (bs cs : List ℕ) (e : Break) → ReachesBlobs n w i seen bs → slice_index w (next_blob_link n i bs) ≡ 0 → ReachesBlobs n w i seen cs → BreaksBlobWalk n w i seen cs e → ⊥
  ended_broke bs cs e f none g broke = reached bs cs f g (ends_there bs none) (breaks_there cs e broke) (λ same. broke.0 (subst (λ (xs : List ℕ). slice_index w (next_blob_link n i xs) ≡ 0) same none))

  pub walks_single : IsSingle (WalksBlobs n w i seen)
  walks_single (Ok bs) (Ok cs) f g = reached bs cs f.0 g.0 (λ on. absurd (ends_there bs f.1 on)) (λ on. absurd (ends_there cs g.1 on)) (λ same. ap (λ (xs : List ℕ). Ok xs) same)
  walks_single (Ok bs) (Err e) f g = absurd (ended_broke bs g.0 e f.0 f.1 g.1 g.2)
  walks_single (Err e) (Ok bs) f g = absurd (ended_broke bs f.0 e g.0 g.1 f.1 f.2)
  walks_single (Err e) (Err d) f g = reached f.0 g.0 f.1 g.1
      (λ on. absurd (breaks_there f.0 e f.2 on))
      (λ on. absurd (breaks_there g.0 d g.2 on))
      (λ same. ap (λ (z : Break). Err z) (one_err {A = ℕ} e d (node_single n w le i seen g.0 (Err e) (Err d) (subst (λ (xs : List ℕ). Node n w i seen xs (Err e)) same f.2.1) g.2.1)))

module _ (n : ℕ) (w : List ℕ) (le : 4 ≤ n) where
  one_by_one_single : (i : ℕ) → IsSingle (BucketByBucket n w i)
  one_by_one_single zero = one_value (Ok [])
  one_by_one_single (suc i) =
      then_single (BucketByBucket n w i) (λ before. Then (WalksBlobs n w i before) (λ units r. r ≡ Ok (units ++ before))) (one_by_one_single i)
      (λ before. then_single (WalksBlobs n w i before) (λ units r. r ≡ Ok (units ++ before)) (walks_single n w le i before) (λ units. one_value (Ok (units ++ before))))

  one_difference : (T : ℕ → Bool) (x y : ℕ) → DiffersFirst n T w x → DiffersFirst n T w y → x ≡ y
  one_difference T x y f g = elim (cases_lt f.node g.node) [
    | inl lt ↦ absurd (f.differs (g.first f.depth f.order f.node f.deep f.is_node lt))
    | inr ge ↦ elim (cases_lt g.node f.node) [
      | inl gt ↦ absurd (g.differs (f.first g.depth g.order g.node g.deep g.is_node gt))
      | inr le ↦ omega (arith, f.here, g.here, ge, le)
    ]
  ]

  tree_single : (units : List ℕ) → IsSingle (BlobAllocatorTree n w units)
  tree_single units (Ok x) (Ok y) f g = refl
  tree_single units (Ok x) (Err e) f g = absurd (g.1.differs (f g.1.depth g.1.order g.1.node g.1.deep g.1.is_node))
  tree_single units (Err e) (Ok x) f g = absurd (f.1.differs (g f.1.depth f.1.order f.1.node f.1.deep f.1.is_node))
  tree_single units (Err e) (Err d) f g =
      let place = one_difference (taken_with (held n w units)) e.offset d.offset f.1 g.1 in
      let rules = f.0 ∙ sym g.0 in
      λ i. Err record { offset = place i; rule = rules i }

  ending_single : (units : List ℕ) → IsSingle (Ending n w units)
  ending_single units = then_single (λ r. r ≡ checked (size_tests w units)) (λ done. BlobAllocatorTree n w units) (one_value (checked (size_tests w units))) (λ done. tree_single units)

  pub inspection_single : IsSingle (BlobInspection n w)
  inspection_single =
      then_single (λ r. r ≡ checked (blob_root_tests n w)) (λ done. Then (BucketByBucket n w (buckets n)) (λ units. Ending n w units)) (one_value (checked (blob_root_tests n w)))
      (λ done. then_single (BucketByBucket n w (buckets n)) (λ units. Ending n w units) (one_by_one_single (buckets n)) (λ units. ending_single units))
