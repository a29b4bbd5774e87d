-- A new key, whose blocks were taken, whose bytes were stored, and whose node was linked.
use Rattle.std.proofs.Common.{◌≡◌, ◌≢◌, ◌⊎◌, inl, inr, ℕ, suc, ◌+◌, ◌-◌, ◌*◌, ◌^◌, ◌<◌, ◌≤◌, Bool, true, false, List, [], ◌∷◌, ◌++◌, refl, sym, ◌∙◌, ap, subst, arith}
use Rattle.std.specs.Prelude.{slice_index, Option, None, ◌==◌}
use Rattle.std.specs.FinMap as finite
use Rattle.std.proofs.lemmas.Bool.{cases_eq, cases_lt}
use Rattle.std.proofs.lemmas.Bool.Decides.{nat_tests}
use Rattle.std.proofs.lemmas.Grind.{same_number_lists}
use Rattle.rom_model.specs.Space.{ChangesOnly}
use Rattle.rom_model.specs.Blocks.{IsOrder, IsNode, IsDisjoint, IsFree, AreWords, taking, up, block_of, block_at}
use Rattle.rom_model.specs.Chains.{times}
use Rattle.rom_model.specs.Region.{bucket_of}
use Rattle.rom_model.proofs.Times.{times_here, times_more, times-append}
use Rattle.rom_model.proofs.Members.{under_table}
use Rattle.rom_model.proofs.Room.{tree_stays}
use Rattle.rom_bucket.specs.Link.{first_place, IsNodeLinked}
use Rattle.rom_bucket.specs.Buckets.{blocks_of_buckets}
use Rattle.rom_bucket.proofs.Heads.{head_before}
use Rattle.rom_bucket.proofs.Finding.{own_within}
use Rattle.rom_bucket.proofs.Keys.{none_stands}
use Rattle.rom_bucket.proofs.Added.{MayAdd, at_front, added_tree}
use Rattle.rom_blob_region.specs.Bytes.{bytes_at, words_for, EndsInZeros}
use Rattle.rom_blob_region.specs.State.{Blob, BlobState, order_for, some_block, blocks_in, taken_with}
use Rattle.rom_blob_region.specs.Region.{len_at, data_at, blob_at, IsBlob, AreBlobsApart, IsBlobs, BlobContents}
use Rattle.rom_blob_region.proofs.Carried.{bytes_same, ends_same}
use Rattle.rom_blob_region.proofs.Beside.{InBlock, apart_words, in_unit, in_table, block_least}
use Rattle.rom_blob_region.proofs.Held.{held_has, taken_block, taken_table, taken_none, untaken, apart_more, words_more, taking_one, taking_still, taking_here, disjoint_same}
use Rattle.rom_blob_region.proofs.Places.{in_body, no_body, some_body, has_node}
use Rattle.rom_blob_region.proofs.Keeping.{HasKeys, held, whole, body_keys, body_held, body_tree, more, link_keys, link_held}
use Rattle.rom_blob_region.proofs.Giving.{Placed}

-- no word changed
pub changes_nothing : (at : ℕ) (v w : List ℕ) → ChangesOnly at 0 v w → w ≡ v
changes_nothing at v w only = same_number_lists w v only.as_long (λ k lt. elim (cases_lt k at) [ inl less ↦ only.before k less | inr ge ↦ only.behind k (omega (arith, ge)) ])

-- blocks with one that stands nowhere else
module _ (n : ℕ) (xs : List ℕ) (x : ℕ) (apart : AreBlobsApart n (x ∷ xs)) where
  pub new_free : taken_with xs x ≡ false
  new_free = taken_none xs x (λ e. absurd (omega (arith, ap (λ c. times c (x ∷ xs)) e, times_here x xs, apart.beside))) (omega (arith, apart.different x, times_here x xs))

  pub new_disjoint : IsDisjoint n (taking x (taken_with xs))
  new_disjoint = disjoint_same n (taken_with (x ∷ xs)) (taking x (taken_with xs)) (λ i. sym (taking_one x xs (x ∷ xs) (λ c. omega (arith, times-append c (x ∷ []) xs)) i)) apart.disjoint

  -- without it
  pub others_apart : AreBlobsApart n xs
  others_apart = record {
    different = λ c. omega (arith, apart.different c, times_more c x xs);
    beside = omega (arith, apart.beside, times_more 16 x xs);
    disjoint = record {
      nodes = λ i is. apart.disjoint.nodes i (there i is);
      apart = λ i k is. none (up (suc k) i) (apart.disjoint.apart i k (there i is));
    };
  }
    where
      there : (i : ℕ) → taken_with xs i ≡ true → taken_with (x ∷ xs) i ≡ true
      there i is = sym (taking_one x xs (x ∷ xs) (λ c. omega (arith, times-append c (x ∷ []) xs)) i) ∙ taking_still x i (taken_with xs) is

      none : (i : ℕ) → taken_with (x ∷ xs) i ≡ false → taken_with xs i ≡ false
      none i shut = go (taken_with xs i) refl
        where
          go : (b : Bool) → taken_with xs i ≡ b → taken_with xs i ≡ false
          go true is = absurd (let never : true ≡ false = sym (there i is) ∙ shut in cc)
          go false is = is

-- Words of a block in which the bytes now stand that stood nowhere.
pub record Stored (n len at : ℕ) (bytes w w' : List ℕ) : Type 0 where
  pub bytes_are : bytes_at w' at len ≡ bytes
  pub ends : EndsInZeros w' at len
  pub others : ChangesOnly at (words_for len) w w'

module _ {n len at : ℕ} {body : Option ℕ} {bytes w w' : List ℕ} {f : ℕ → List ℕ} {s : BlobState} {count : ℕ} (le : 4 ≤ n) (few : len ≤ 256) (is : HasKeys n w f s count) (placed : Placed n len at body) (apart : AreBlobsApart n (some_block body ++ held n w f)) (stored : Stored n len at bytes w w') where
  -- the keys stay
  pub record StoredKeys : Type 0 where
    pub keys : HasKeys n w' f s count
    pub same : held n w' f ≡ held n w f
    pub tree : (k : ℕ) → 17 ≤ k → k < block_of n 0 → slice_index w' k ≡ slice_index w k

  pub stored_keys : StoredKeys
  stored_keys = elim (cases_eq len 0) [
    | inl none ↦
        let nothing : w' ≡ w = changes_nothing at w w' (subst (λ m. ChangesOnly at m w w') (let e : words_for len ≡ 0 = omega (arith, none) in e) stored.others) in
        record {
          keys = subst (λ (v : List ℕ). HasKeys n v f s count) (sym nothing) is;
          same = ap (λ (v : List ℕ). held n v f) nothing;
          tree = λ k lo hi. ap (λ (v : List ℕ). slice_index v k) nothing;
        }
    | inr some ↦
        let x = placed.is_some some in
        let xs = held n w f in
        let one : AreBlobsApart n (x.0 ∷ xs) = subst (λ o. AreBlobsApart n (some_block o ++ xs)) x.1 apart in
        let changed : (k : ℕ) → (slice_index w' k ≡ slice_index w k) ⊎ InBlock n x.0 k = λ k. elim (cases_lt k at) [
          | inl less ↦ inl (stored.others.before k less)
          | inr ge ↦ elim (cases_lt k (at + words_for len)) [
            | inr past ↦ inl (stored.others.behind k past)
            | inl inside ↦ inr (let e : at + (k - at) ≡ k = omega (arith, ge) in subst (λ a. InBlock n x.0 a) e (in_body n len x.0 at (k - at) le few x.2 x.3 (omega (arith, ge, inside))))
          ]
        ] in
        record {
          keys = body_keys le is (others_apart n xs x.0 one) w' x.0 (new_free n xs x.0 one) (new_disjoint n xs x.0 one) stored.others.as_long changed;
          same = body_held le is (others_apart n xs x.0 one) w' x.0 (new_free n xs x.0 one) (new_disjoint n xs x.0 one) stored.others.as_long changed;
          tree = body_tree le is (others_apart n xs x.0 one) w' x.0 (new_free n xs x.0 one) (new_disjoint n xs x.0 one) stored.others.as_long changed;
        }
  ]

-- what is taken is taken with more
pub more_taken : (zs ys : List ℕ) (i : ℕ) → taken_with ys i ≡ true → taken_with (zs ++ ys) i ≡ true
more_taken zs ys i is = elim (cases_eq i 16) [
  | inl same ↦ ap (taken_with (zs ++ ys)) same ∙ taken_table (zs ++ ys)
  | inr other ↦ elim (cases_lt 0 (times i ys)) [
    | inl some ↦ taken_block (zs ++ ys) i (omega (arith, some, times-append i zs ys))
    | inr gone ↦ absurd (let none : taken_with ys i ≡ false = taken_none ys i other (omega (arith, gone)) in let never : true ≡ false = sym is ∙ none in cc)
  ]
]

-- fewer blocks are apart too
pub disjoint_less : (n : ℕ) (T S : ℕ → Bool) → ((i : ℕ) → S i ≡ true → T i ≡ true) → IsDisjoint n T → IsDisjoint n S
disjoint_less n T S all is = record {
  nodes = λ i there. is.nodes i (all i there);
  apart = λ i k there. none (up (suc k) i) (is.apart i k (all i there));
}
  where
    none : (i : ℕ) → T i ≡ false → S i ≡ false
    none i shut = go (S i) refl
      where
        go : (b : Bool) → S i ≡ b → S i ≡ false
        go true there = absurd (let never : true ≡ false = sym (all i there) ∙ shut in cc)
        go false gone = gone

module _ {n len at key : ℕ} (b : ℕ) {body : Option ℕ} {bytes w w' : List ℕ} {f : ℕ → List ℕ} {s : BlobState} {count : ℕ} (o : IsOrder n) (few : len ≤ 256) (is : HasKeys n w f s count) (placed : Placed n len at body) (bare : len ≡ 0 → at ≡ 0) (apart : AreBlobsApart n (some_block body ++ held n w f))
    (bytes_are : bytes_at w at len ≡ bytes) (ends : EndsInZeros w at len) (absent : finite.get s key ≡ None) (node : IsNode n (2 ^ n + b)) (free : IsFree n (taken_with (some_block body ++ held n w f)) 0 (2 ^ n + b))
    (disjoint : IsDisjoint n (taking (2 ^ n + b) (taken_with (some_block body ++ held n w f)))) (linked : IsNodeLinked 3 (first_place n key w) (block_of n b) record { key = key; second = len; last = at } w w') where
  abbrev y : ℕ
  y = 2 ^ n + b

  abbrev xs : List ℕ
  xs = held n w f

  abbrev all : List ℕ
  all = some_block body ++ xs

  new : taken_with all y ≡ false
  new = free y 0 node refl

  late : 2 ^ (n - 4) ≤ b
  late = elim (cases_lt b (2 ^ (n - 4))) [
    | inl lt ↦ absurd (
        let at_table : up (n - 4) y ≡ 16 = under_table n b o.least lt in
        let none : taken_with all 16 ≡ false = ap (taken_with all) (sym at_table) ∙ free y (n - 4) node refl in
        let never : true ≡ false = sym (taken_table all) ∙ none in cc)
    | inr ge ↦ ge
  ]

  free_now : taken_with xs y ≡ false
  free_now = let out = untaken all y new in taken_none xs y out.0 (omega (arith, out.1, times-append y (some_block body) xs))

  disjoint_now : IsDisjoint n (taking y (taken_with xs))
  disjoint_now = disjoint_less n (taking y (taken_with all)) (taking y (taken_with xs)) (λ i there. elim (cases_eq i y) [
    | inl same ↦ ap (taking y (taken_with all)) same ∙ taking_here y (taken_with all)
    | inr other ↦ taking_still y i (taken_with all) (more_taken (some_block body) xs i (sym (taking_away i other) ∙ there))
  ]) disjoint
    where
      taking_away : (i : ℕ) → i ≢ y → taking y (taken_with xs) i ≡ taken_with xs i
      taking_away i ne = let test : (i == y) ≡ false = grind (arith, nat_tests) in rw test refl

  apart_now : AreBlobsApart n xs
  apart_now = record {
    different = λ c. omega (arith, apart.different c, times-append c (some_block body) xs);
    beside = omega (arith, apart.beside, times-append 16 (some_block body) xs);
    disjoint = disjoint_less n (taken_with all) (taken_with xs) (λ i there. more_taken (some_block body) xs i there) apart.disjoint;
  }

  may : MayAdd n 3 w f key b
  may = record {
    least = o.least;
    root = omega arith;
    are = is.keys;
    block_late = late;
    block_most = omega (arith, node.most);
    absent = elim (cases_lt 0 (times b (blocks_of_buckets n f))) [
      | inl some ↦ absurd (
          let there : taken_with xs y ≡ true = taken_block xs y (omega (arith, held_has (blob_at n w) y b (blocks_of_buckets n f) some, has_node n w b)) in
          let never : true ≡ false = sym there ∙ free_now in cc)
      | inr gone ↦ omega (arith, gone)
    ];
    within = own_within key o;
    missing = none_stands is.keys (blob_at n w) key (ap (λ (m : BlobState). finite.get m key) is.state_is ∙ absent);
  }

  -- the bytes stay
  bytes_stay : (j : ℕ) → 8 * j < len → slice_index w' (at + j) ≡ slice_index w (at + j)
  bytes_stay j lt =
      let x = placed.is_some (λ e. absurd (omega (arith, e, lt))) in
      let in_x = in_body n len x.0 at j o.least few x.2 x.3 lt in
      let there : taken_with all x.0 ≡ true = taken_block all x.0 (omega (arith, times-append x.0 (some_block body) xs, ap (λ o. times x.0 (some_block o)) x.1, times_here x.0 [])) in
      let not_table : x.0 ≢ 16 = λ e. absurd (omega (arith, apart.beside, times-append 16 (some_block body) xs, ap (λ o. times 16 (some_block o)) x.1, ap (λ z. times 16 (z ∷ [])) e, times_here 16 [])) in
      linked.others (at + j)
      (elim (cases_lt (at + j) (block_of n b)) [
        | inl less ↦ inl less
        | inr ge ↦ elim (cases_lt (at + j) (block_of n b + 4)) [
          | inr past ↦ inr (omega (arith, past))
          | inl inside ↦ absurd (apart_words n (taking y (taken_with all)) disjoint x.0 y (at + j) (taking_still y x.0 (taken_with all) there) (taking_here y (taken_with all))
              (λ e. absurd (let never : true ≡ false = sym there ∙ ap (taken_with all) e ∙ new in cc)) in_x (in_unit n b (at + j) (omega (arith, node.most)) ge inside))
        ]
      ])
      (λ e. apart_words n (taken_with all) apart.disjoint x.0 16 (at + j) there (taken_table all) not_table in_x (in_table n (at + j) o.least (omega (arith, e)) (omega (arith, e, head_before n (bucket_of n key) o.least (own_within key o)))))
      (λ e. absurd (omega (arith, e, block_least n x.0 (at + j) in_x)))

  len_now : len_at n w' b ≡ len
  len_now = linked.second_is

  at_now : data_at n w' b ≡ at
  at_now = linked.last_is

  body_now : (blob_at n w' b).body ≡ body
  body_now = elim (cases_eq len 0) [
    | inl none ↦ no_body n w' b (len_now ∙ none) ∙ sym (placed.is_none none)
    | inr some ↦
        let x = placed.is_some some in
        some_body n w' b o.least x.0 (λ e. some (sym len_now ∙ e)) (subst (λ m. IsNode (n - order_for m) x.0) (sym len_now) x.2) (at_now ∙ x.3 ∙ ap (λ m. block_at n (order_for m) x.0) (sym len_now)) ∙ sym x.1
  ]

  abbrev blob : Blob
  blob = record { bytes = bytes; node = y; body = body }

  blob_now : blob_at n w' b ≡ blob
  blob_now =
      let first : bytes_at w' (data_at n w' b) (len_at n w' b) ≡ bytes_at w' at len = (λ i. bytes_at w' (at_now i) (len_now i)) in
      let p : bytes_at w' (data_at n w' b) (len_at n w' b) ≡ bytes = first ∙ bytes_same w' w at at len bytes_stay ∙ bytes_are in
      let q = body_now in
      λ i. record { bytes = p i; node = y; body = q i }

  fits : IsBlob n w' b
  fits = record {
    few = omega (arith, len_now, few);
    bare = λ none. at_now ∙ bare (sym len_now ∙ none);
    block = λ some.
        let x = placed.is_some (λ e. some (len_now ∙ e)) in
        (x.0, subst (λ m. IsNode (n - order_for m) x.0) (sym len_now) x.2, at_now ∙ x.3 ∙ ap (λ m. block_at n (order_for m) x.0) (sym len_now));
    ends = λ some.
        let kept : EndsInZeros w' at len = ends_same w' w at at len bytes_stay ends in
        subst (λ m. EndsInZeros w' (data_at n w' b) m) (sym len_now) (subst (λ a. EndsInZeros w' a len) (sym at_now) kept);
  }

  abbrev grown : ℕ → List ℕ
  grown = more is may linked apart_now free_now disjoint_now fits

  grown_counts : (c : ℕ) → times c (held n w' grown) ≡ times c all + times c (y ∷ [])
  grown_counts c = omega (arith, link_held is may linked apart_now free_now disjoint_now fits c, ap (λ v. times c (blocks_in v)) blob_now, times-append c (y ∷ []) (some_block body), times-append c (some_block body) xs)

  -- the region has the key
  pub added_key : AreWords n (taking y (taken_with all)) w → BlobContents n w' (finite.insert s key blob) count
  added_key words = (
    grown,
    subst (λ v. IsBlobs n w' grown (finite.insert s key v) count) blob_now
        (whole (link_keys is may linked apart_now free_now disjoint_now fits) (apart_more n all apart y (held n w' grown) new disjoint grown_counts)
        (words_more n y all (held n w' grown) w' grown_counts (tree_stays n (taking y (taken_with all)) w w' (added_tree may (at_front may.are may.within) linked) words))),
  )
