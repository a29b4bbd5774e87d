-- A key that was there, with other bytes.
use Rattle.std.proofs.Common.{◌≡◌, ◌≢◌, ◌⊎◌, inl, inr, ℕ, ◌+◌, ◌-◌, ◌*◌, ◌^◌, ◌<◌, ◌≤◌, Bool, true, false, List, [], ◌∷◌, ◌++◌, length, refl, sym, ◌∙◌, ap, subst, arith}
use Rattle.std.specs.Prelude.{slice_index, Option, Some, None, is_some, ◌==◌, ◌&&◌, not, if◌then◌else◌}
use Rattle.std.specs.FinMap as finite
use Rattle.std.proofs.lemmas.Bool.{cases_eq, cases_lt, eqb-true, eqb-false}
use Rattle.std.proofs.lemmas.Bool.Decides.{nat_tests}
use Rattle.rom_model.specs.Space.{ChangesOnly}
use Rattle.rom_model.specs.Blocks.{IsOrder, IsNode, IsDisjoint, taking, block_of, block_at}
use Rattle.rom_model.specs.Chains.{times}
use Rattle.rom_model.proofs.Times.{times_here, times_more, times-append}
use Rattle.rom_model.proofs.Room.{tree_stays}
use Rattle.rom_bucket.specs.Buckets.{blocks_of_buckets, There}
use Rattle.rom_bucket.specs.declared.walk.Place.{Place}
use Rattle.rom_bucket.proofs.Finding.{own_within}
use Rattle.rom_bucket.proofs.Keys.{get_here}
use Rattle.rom_blob_region.specs.Bytes.{bytes_at, words_for, EndsInZeros}
use Rattle.rom_blob_region.specs.Packed.{long_at}
use Rattle.rom_blob_region.specs.State.{Blob, BlobState, order_for, some_block, blocks_in, blocks_taken, taken_with, new_body, next_body, set_blob, set_again}
use Rattle.rom_blob_region.specs.Region.{len_at, data_at, node_of, blob_at, IsBlob, AreBlobsApart, IsBlobs, BlobContents}
use Rattle.rom_blob_region.specs.Calls.{IsFilled, stay_there}
use Rattle.rom_blob_region.proofs.Beside.{InBlock, apart_words, in_unit, block_least}
use Rattle.rom_blob_region.proofs.Held.{held_has, held_two, taken_block, not_table, taking_here, taking_still, disjoint_same, apart_same, tree_same}
use Rattle.rom_blob_region.proofs.Places.{in_body, no_body, some_body, has_node}
use Rattle.rom_blob_region.proofs.Keeping.{HasKeys, held, has_keys, whole, stays_same, in_held, tree_keys, tree_held, Own, again_keys, again_held, again_tree}
use Rattle.rom_blob_region.proofs.Giving.{Placed, WithBody, blob_placed}
use Rattle.rom_blob_region.proofs.Reserving.{Reserved}
use Rattle.rom_blob_region.proofs.Adding.{new_disjoint}
use Rattle.rom_blob_region.proofs.Setting.{taken_is, place_inside}

-- A block for a key's bytes, which no other key has, and which overlaps none.
pub record Home (n : ℕ) (w : List ℕ) (f : ℕ → List ℕ) (block x : ℕ) : Type 0 where
  pub disjoint : IsDisjoint n (taking x (taken_with (held n w f)))
  pub not_table : x ≢ 16
  pub not_node : x ≢ 2 ^ n + block
  pub not_others : (b : ℕ) → 0 < times b (blocks_of_buckets n f) → b ≢ block → times x (blocks_in (blob_at n w b)) ≡ 0

module _ {n : ℕ} {w : List ℕ} {f : ℕ → List ℕ} {s : BlobState} {count : ℕ} {key : ℕ} {place : Place} (o : IsOrder n) (is : HasKeys n w f s count) (apart : AreBlobsApart n (held n w f)) (t : There n w f key place)
    {at : ℕ} {body : Option ℕ} {bytes w' : List ℕ} (few : length bytes ≤ 256) (placed : Placed n (length bytes) at body) (bare : length bytes ≡ 0 → at ≡ 0) (home : (x : ℕ) → body ≡ Some x → Home n w f t.block x) (filled : IsFilled place.node at bytes w w') where
  abbrev len : ℕ
  len = length bytes

  abbrev b : ℕ
  b = t.block

  changed : (k : ℕ) → (slice_index w' k ≡ slice_index w k) ⊎ (((k ≡ block_of n t.block + 1) ⊎ (k ≡ block_of n t.block + 3)) ⊎ Own n w f t.block k)
  changed k = elim (cases_eq k (place.node + 1)) [
    | inl one ↦ inr (inl (inl (omega (arith, one, t.node_is))))
    | inr not_one ↦ elim (cases_eq k (place.node + 3)) [
      | inl three ↦ inr (inl (inr (omega (arith, three, t.node_is))))
      | inr not_three ↦ elim (cases_lt k at) [
        | inl less ↦ inl (filled.others k not_one not_three (inl less))
        | inr ge ↦ elim (cases_lt k (at + words_for len)) [
          | inr past ↦ inl (filled.others k not_one not_three (inr past))
          | inl inside ↦ inr (inr (own ge inside))
        ]
      ]
    ]
  ]
    where
      own : at ≤ k → k < at + words_for len → Own n w f t.block k
      own ge inside =
          let x = placed.is_some (λ e. absurd (omega (arith, e, ge, inside))) in
          let h = home x.0 x.1 in
          let e : at + (k - at) ≡ k = omega (arith, ge) in
          record {
            home = x.0;
            in_home = subst (λ a. InBlock n x.0 a) e (in_body n len x.0 at (k - at) o.least few x.2 x.3 (omega (arith, ge, inside)));
            disjoint = h.disjoint;
            not_table = h.not_table;
            not_node = h.not_node;
            not_others = h.not_others;
          }

  len_now : len_at n w' b ≡ len
  len_now = ap (λ a. slice_index w' (a + 1)) (sym t.node_is) ∙ filled.len_is

  at_now : data_at n w' b ≡ at
  at_now = ap (λ a. slice_index w' (a + 3)) (sym t.node_is) ∙ filled.at_is

  body_now : (blob_at n w' b).body ≡ body
  body_now = elim (cases_eq len 0) [
    | inl none ↦ no_body n w' b (len_now ∙ none) ∙ sym (placed.is_none none)
    | inr some ↦
        let x = placed.is_some some in
        some_body n w' b o.least x.0 (λ e. some (sym len_now ∙ e)) (subst (λ m. IsNode (n - order_for m) x.0) (sym len_now) x.2) (at_now ∙ x.3 ∙ ap (λ m. block_at n (order_for m) x.0) (sym len_now)) ∙ sym x.1
  ]

  abbrev pub blob : Blob
  blob = record { bytes = bytes; node = 2 ^ n + t.block; body = body }

  blob_now : blob_at n w' b ≡ blob
  blob_now =
      let first : bytes_at w' (data_at n w' b) (len_at n w' b) ≡ bytes_at w' at len = (λ i. bytes_at w' (at_now i) (len_now i)) in
      let p : bytes_at w' (data_at n w' b) (len_at n w' b) ≡ bytes = first ∙ filled.bytes_are in
      let q = body_now in
      λ i. record { bytes = p i; node = 2 ^ n + t.block; body = q i }

  fits : IsBlob n w' b
  fits = record {
    few = omega (arith, len_now, few);
    bare = λ none. at_now ∙ bare (sym len_now ∙ none);
    block = λ some.
        let x = placed.is_some (λ e. some (len_now ∙ e)) in
        (x.0, subst (λ m. IsNode (n - order_for m) x.0) (sym len_now) x.2, at_now ∙ x.3 ∙ ap (λ m. block_at n (order_for m) x.0) (sym len_now));
    ends = λ some. subst (λ m. EndsInZeros w' (data_at n w' b) m) (sym len_now) (subst (λ a. EndsInZeros w' a len) (sym at_now) filled.ends);
  }

  pub filled_keys : HasKeys n w' f (finite.insert s key blob) count
  filled_keys = subst (λ v. HasKeys n w' f (finite.insert s key v) count) blob_now (again_keys o.least is apart (own_within key o) t w' filled.as_long changed fits)

  pub filled_held : (c : ℕ) → times c (held n w' f) + times c (blocks_in (blob_at n w t.block)) ≡ times c (held n w f) + times c (blocks_in blob)
  filled_held c = again_held o.least is apart (own_within key o) t w' filled.as_long changed fits c ∙ ap (λ v. times c (held n w f) + times c (blocks_in v)) blob_now

  pub filled_tree : (k : ℕ) → 17 ≤ k → k < block_of n 0 → slice_index w' k ≡ slice_index w k
  filled_tree = again_tree o.least is apart (own_within key o) t w' filled.as_long changed fits

-- the bytes' words and those of the node are different ones
module _ {n : ℕ} {w : List ℕ} {f : ℕ → List ℕ} {s : BlobState} {count : ℕ} {key : ℕ} {place : Place} (o : IsOrder n) (is : HasKeys n w f s count) (apart : AreBlobsApart n (held n w f)) (t : There n w f key place)
    {len at : ℕ} {body : Option ℕ} (few : len ≤ 256) (placed : Placed n len at body) (bare : len ≡ 0 → at ≡ 0) (home : (x : ℕ) → body ≡ Some x → Home n w f t.block x) where
  pub beside_node : (place.node + 4 ≤ at) ⊎ (at + words_for len ≤ place.node)
  beside_node = elim (cases_eq len 0) [
    | inl none ↦ inr (omega (arith, none, bare none))
    | inr some ↦
        let x = placed.is_some some in
        let h = home x.0 x.1 in
        let y = 2 ^ n + t.block in
        let shared : (k : ℕ) → InBlock n x.0 k → InBlock n y k → ⊥ = λ k in_x in_y.
        apart_words n (taking x.0 (taken_with (held n w f))) h.disjoint y x.0 k (taking_still x.0 y (taken_with (held n w f)) (in_held o.least is apart t.block y t.among (has_node n w t.block))) (taking_here x.0 (taken_with (held n w f))) (λ e. h.not_node (sym e)) in_y in_x in
        elim (cases_lt at (place.node + 4)) [
          | inr past ↦ inl past
          | inl low ↦ elim (cases_lt place.node (at + words_for len)) [
            | inr before ↦ inr before
            | inl high ↦ elim (cases_lt place.node at) [
              | inl inside ↦
                  let e : at + 0 ≡ at = omega arith in
                  absurd (shared at (subst (λ a. InBlock n x.0 a) e (in_body n len x.0 at 0 o.least few x.2 x.3 (omega (arith, some)))) (in_unit n t.block at t.within.1 (omega (arith, inside, t.node_is)) (omega (arith, low, t.node_is))))
              | inr ge ↦
                  let e : at + (place.node - at) ≡ place.node = omega (arith, ge) in
                  absurd (shared place.node (subst (λ a. InBlock n x.0 a) e (in_body n len x.0 at (place.node - at) o.least few x.2 x.3 (omega (arith, ge, high)))) (in_unit n t.block place.node t.within.1 (omega (arith, t.node_is)) (omega (arith, t.node_is))))
            ]
          ]
        ]
  ]

-- a block that is taken anyhow
taking_known : (x : ℕ) (T : ℕ → Bool) → T x ≡ true → (i : ℕ) → T i ≡ taking x T i
taking_known x T there i = elim (cases_eq i x) [
  | inl same ↦ ap T same ∙ there ∙ sym (taking_here x T) ∙ ap (taking x T) (sym same)
  | inr other ↦ let test : (i == x) ≡ false = grind (arith, nat_tests) in rw test refl
]

module _ {n : ℕ} {w : List ℕ} {f : ℕ → List ℕ} {s : BlobState} {count : ℕ} {key : ℕ} {place : Place} (o : IsOrder n) (is : IsBlobs n w f s count) (t : There n w f key place) where
  abbrev was : Blob
  was = blob_at n w t.block

  abbrev len0 : ℕ
  len0 = len_at n w t.block

  -- the key's own block
  own_home : (x : ℕ) → was.body ≡ Some x → Home n w f t.block x
  own_home x at =
      let some : len0 ≢ 0 = λ e. absurd (let no : None ≡ Some x = sym (no_body n w t.block e) ∙ at in cc) in
      let xs = held n w f in
      let counts : times x (blocks_in was) ≡ times x ((2 ^ n + t.block) ∷ x ∷ []) = ap (λ o. times x ((2 ^ n + t.block) ∷ some_block o)) at in
      let among : 0 < times x (blocks_in was) = omega (arith, counts, times_here x [], times_more x (2 ^ n + t.block) (x ∷ [])) in
      let there : taken_with xs x ≡ true = taken_block xs x (omega (arith, among, held_has (blob_at n w) x t.block (blocks_of_buckets n f) t.among)) in
      record {
        disjoint = disjoint_same n (taken_with xs) (taking x (taken_with xs)) (taking_known x (taken_with xs) there) is.apart.disjoint;
        not_table = not_table n xs is.apart x (omega (arith, among, held_has (blob_at n w) x t.block (blocks_of_buckets n f) t.among));
        not_node = λ e. absurd (omega (arith, counts, ap (λ z. times x (z ∷ x ∷ [])) (sym e), times_here x (x ∷ []), times_here x [], held_has (blob_at n w) x t.block (blocks_of_buckets n f) t.among, is.apart.different x));
        not_others = λ b some ne. omega (arith, held_two (blob_at n w) x b t.block (blocks_of_buckets n f) ne some t.among, among, is.apart.different x);
      }

  kept_placed : (m : ℕ) → len0 ≢ 0 → m ≢ 0 → order_for len0 ≡ order_for m → Placed n m (data_at n w t.block) was.body
  kept_placed m some more same =
      let x = (is.blobs t.block t.among).block some in
      record {
        is_none = λ e. absurd (more e);
        is_some = λ e. (x.0, some_body n w t.block o.least x.0 some x.1 x.2, subst (λ j. IsNode (n - j) x.0) same x.1, x.2 ∙ ap (λ j. block_at n j x.0) same);
      }

  pub kept_beside : (m : ℕ) → m ≤ 256 → len0 ≢ 0 → m ≢ 0 → order_for len0 ≡ order_for m → (place.node + 4 ≤ data_at n w t.block) ⊎ (data_at n w t.block + words_for m ≤ place.node)
  kept_beside m few some more same = beside_node o (has_keys is) is.apart t few (kept_placed m some more same) (λ e. absurd (more e)) own_home

  pub kept_inside : (m : ℕ) → m ≤ 256 → len0 ≢ 0 → m ≢ 0 → order_for len0 ≡ order_for m → (data_at n w t.block + words_for m ≤ 16 + 6 * 2 ^ n) × (data_at n w t.block < 2 ^ 32)
  kept_inside m few some more same = place_inside n m (data_at n w t.block) was.body o few (kept_placed m some more same) (λ e. absurd (more e))

  -- the bytes stay in their block
  pub kept_bytes : (bytes w' : List ℕ) → length bytes ≤ 256 → len0 ≢ 0 → length bytes ≢ 0 → order_for len0 ≡ order_for (length bytes) → IsFilled place.node (data_at n w t.block) bytes w w'
      → BlobContents n w' (finite.insert s key record { bytes = bytes; node = was.node; body = was.body }) count
  kept_bytes bytes w' few some more same filled =
      let placed = kept_placed (length bytes) some more same in
      let keys = filled_keys o (has_keys is) is.apart t few placed (λ e. absurd (more e)) own_home filled in
      let counts : (c : ℕ) → times c (held n w f) ≡ times c (held n w' f) = λ c. omega (arith, filled_held o (has_keys is) is.apart t few placed (λ e. absurd (more e)) own_home filled c) in (
        f,
        whole keys (apart_same n (held n w f) (held n w' f) counts is.apart)
            (tree_same n (held n w f) (held n w' f) w' counts (tree_stays n (taken_with (held n w f)) w w' (filled_tree o (has_keys is) is.apart t few placed (λ e. absurd (more e)) own_home filled) is.tree)),
      )

  -- the bytes go to another block, or to none, and then their block is given back
  module _ {len at : ℕ} {bytes w1 : List ℕ} (many : length bytes ≡ len) (few : len ≤ 256) (r : Reserved n len (held n w f) bytes w1 at) (only : ChangesOnly 17 (2 * 2 ^ n - 1) w w1) where
    abbrev xs : List ℕ
    xs = held n w f

    now : HasKeys n w1 f s count
    now = tree_keys o.least (has_keys is) only

    stay : held n w1 f ≡ xs
    stay = tree_held o.least (has_keys is) only

    apart_now : AreBlobsApart n (held n w1 f)
    apart_now = subst (λ ys. AreBlobsApart n ys) (sym stay) is.apart

    high : (k : ℕ) → block_of n 0 ≤ k → slice_index w1 k ≡ slice_index w k
    high k late = only.behind k (omega (arith, late))

    abbrev there : There n w1 f key place
    there = record {
      front = t.front;
      block = t.block;
      back = t.back;
      blocks = t.blocks;
      holds = high (block_of n t.block + 0) (omega arith) ∙ t.holds;
      node_is = t.node_is;
      link_is = t.link_is;
      within = t.within;
      among = t.among;
    }

    new_home : (x : ℕ) → r.body ≡ Some x → Home n w1 f t.block x
    new_home x at_x =
        let one : AreBlobsApart n (x ∷ xs) = subst (λ o. AreBlobsApart n (some_block o ++ xs)) at_x r.apart in
        let none : times x xs ≡ 0 = omega (arith, one.different x, times_here x xs) in
        let none_now : times x (held n w1 f) ≡ 0 = ap (times x) stay ∙ none in
        record {
          disjoint = subst (λ ys. IsDisjoint n (taking x (taken_with ys))) (sym stay) (new_disjoint n xs x one);
          not_table = λ e. absurd (omega (arith, ap (λ c. times c (x ∷ xs)) e, times_here x xs, one.beside));
          not_node = λ e. absurd (omega (arith, none_now, ap (λ c. times c (held n w1 f)) e, held_has (blob_at n w1) (2 ^ n + t.block) t.block (blocks_of_buckets n f) t.among, has_node n w1 t.block));
          not_others = λ b some ne. omega (arith, none_now, held_has (blob_at n w1) x b (blocks_of_buckets n f) some);
        }

    pub moved_beside : (place.node + 4 ≤ at) ⊎ (at + words_for len ≤ place.node)
    moved_beside = beside_node o now apart_now there few r.placed r.bare new_home

    module _ (w2 : List ℕ) (filled : IsFilled place.node at bytes w1 w2) where
      placed_now : Placed n (length bytes) at r.body
      placed_now = subst (λ m. Placed n m at r.body) (sym many) r.placed

      bare_now : length bytes ≡ 0 → at ≡ 0
      bare_now none = r.bare (sym many ∙ none)

      keys : HasKeys n w2 f (finite.insert s key record { bytes = bytes; node = was.node; body = r.body }) count
      keys = filled_keys o now apart_now there (omega (arith, many, few)) placed_now bare_now new_home filled

      same_was : blob_at n w1 t.block ≡ was
      same_was = (stays_same n w w1 t.block (is.blobs t.block t.among) record {
        node = λ j lt. high (block_of n t.block + j) (omega arith);
        body = λ j lt.
            let fits = is.blobs t.block t.among in
            let x = fits.block (λ e. absurd (omega (arith, e, lt))) in
            high (data_at n w t.block + j) (block_least n x.0 (data_at n w t.block + j) (in_body n len0 x.0 (data_at n w t.block) j o.least fits.few x.1 x.2 lt));
      }).blob

      counts : (c : ℕ) → times c (some_block r.body ++ xs) ≡ times c (some_block was.body ++ held n w2 f)
      counts c = omega (
        arith,
        filled_held o now apart_now there (omega (arith, many, few)) placed_now bare_now new_home filled c,
        ap (λ v. times c (blocks_in v)) same_was,
        ap (times c) stay,
        times-append c (some_block r.body) xs,
        times-append c (some_block was.body) (held n w2 f),
        times-append c (was.node ∷ []) (some_block was.body),
        times-append c (was.node ∷ []) (some_block r.body),
      )

      pub moved_bytes : WithBody n len0 (data_at n w t.block) was.body w2 f (finite.insert s key record { bytes = bytes; node = was.node; body = r.body }) count
      moved_bytes = record {
        keys = keys;
        placed = blob_placed n w t.block o.least (is.blobs t.block t.among);
        apart = apart_same n (some_block r.body ++ xs) (some_block was.body ++ held n w2 f) counts r.apart;
        tree = tree_same n (some_block r.body ++ xs) (some_block was.body ++ held n w2 f) w2 counts (tree_stays n (taken_with (some_block r.body ++ xs)) w1 w2 (filled_tree o now apart_now there (omega (arith, many, few)) placed_now bare_now new_home filled) r.tree);
      }

-- where the bytes of a key go
pub next_kept : (n : ℕ) (T : ℕ → Bool) (was : Blob) (bytes : List ℕ) → length bytes ≢ 0 → is_some was.body ≡ true → order_for (length was.bytes) ≡ order_for (length bytes) → next_body n T was bytes ≡ Some was.body
next_kept n T was [] some is same = absurd (some refl)
next_kept n T was (b ∷ bytes) some is same = let test : (order_for (length was.bytes) == order_for (length (b ∷ bytes))) ≡ true = grind (arith, nat_tests) in rw (is, test) refl

pub next_moved : (n : ℕ) (T : ℕ → Bool) (was : Blob) (bytes : List ℕ) → (length bytes ≢ 0 → (is_some was.body && (order_for (length was.bytes) == order_for (length bytes))) ≡ false) → next_body n T was bytes ≡ new_body n T bytes
next_moved n T was [] other = refl
next_moved n T was (b ∷ bytes) other = let test = other (λ e. absurd (omega (arith, e))) in rw test refl

-- whether they stay
pub staying : (was len : ℕ) → stay_there was len ≡ true → (was ≢ 0) × (len ≢ 0) × (order_for was ≡ order_for len)
staying was len is = go (was == 0) (len == 0) (order_for was == order_for len) refl refl refl is
  where
    go : (a b c : Bool) → (was == 0) ≡ a → (len == 0) ≡ b → (order_for was == order_for len) ≡ c → (not a && (not b && c)) ≡ true → (was ≢ 0) × (len ≢ 0) × (order_for was ≡ order_for len)
    go true b c x y z all = absurd (let never : false ≡ true = all in cc)
    go false true c x y z all = absurd (let never : false ≡ true = all in cc)
    go false false false x y z all = absurd (let never : false ≡ true = all in cc)
    go false false true x y z all = (eqb-false was 0 x, eqb-false len 0 y, eqb-true (order_for was) (order_for len) z)

module _ {n : ℕ} {w : List ℕ} {f : ℕ → List ℕ} {s : BlobState} {count : ℕ} (is : IsBlobs n w f s count) (b : ℕ) (bytes : List ℕ) where
  abbrev prior : Blob
  prior = blob_at n w b

  long : length prior.bytes ≡ len_at n w b
  long = long_at w (data_at n w b) (len_at n w b)

  next_for : next_body n (blocks_taken s) prior bytes ≡ next_body n (taken_with (held n w f)) prior bytes
  next_for = let same : blocks_taken s ≡ taken_with (held n w f) = (λ p i. taken_is is i p) in ap (λ (T : ℕ → Bool). next_body n T prior bytes) same

  -- they stay in their block
  pub told_kept : stay_there (len_at n w b) (length bytes) ≡ true → next_body n (blocks_taken s) prior bytes ≡ Some prior.body
  told_kept test =
      let all = staying (len_at n w b) (length bytes) test in
      next_for ∙ next_kept n (taken_with (held n w f)) prior bytes all.1 (ap is_some (has_body all.0)) (ap order_for long ∙ all.2)
    where
      has_body : len_at n w b ≢ 0 → prior.body ≡ Some (node_of n (order_for (len_at n w b)) (data_at n w b))
      has_body some = let test : (len_at n w b == 0) ≡ false = grind (arith, nat_tests) in ap (λ t. if t then None else Some (node_of n (order_for (len_at n w b)) (data_at n w b))) test

  -- they go elsewhere
  pub told_moved : stay_there (len_at n w b) (length bytes) ≡ false → next_body n (blocks_taken s) prior bytes ≡ new_body n (taken_with (held n w f)) bytes
  told_moved test = next_for ∙ next_moved n (taken_with (held n w f)) prior bytes (λ some. other (length bytes == 0) (len_at n w b == 0) some refl refl test)
    where
      other : (a c : Bool) → length bytes ≢ 0 → (length bytes == 0) ≡ a → (len_at n w b == 0) ≡ c → (not c && (not a && (order_for (len_at n w b) == order_for (length bytes)))) ≡ false → (is_some prior.body && (order_for (length prior.bytes) == order_for (length bytes))) ≡ false
      other true c some x y shut = absurd (some (eqb-true (length bytes) 0 x))
      other false true some x y shut = ap (λ o. is_some o && (order_for (length prior.bytes) == order_for (length bytes))) (no_body n w b (eqb-true (len_at n w b) 0 y))
      other false false some x y shut =
          let has : prior.body ≡ Some (node_of n (order_for (len_at n w b)) (data_at n w b)) = ap (λ t. if t then None else Some (node_of n (order_for (len_at n w b)) (data_at n w b))) y in
          ap (λ o. is_some o && (order_for (length prior.bytes) == order_for (length bytes))) has ∙ ap (λ m. order_for m == order_for (length bytes)) long ∙ shut

-- what is told of a key that was there
pub told_was : {n : ℕ} {w : List ℕ} {f : ℕ → List ℕ} {s : BlobState} {count : ℕ} {key : ℕ} {place : Place} → IsOrder n → IsBlobs n w f s count → (t : There n w f key place) → (bytes : List ℕ)
    → set_blob n s key bytes (finite.get s key) ≡ set_again s key bytes (blob_at n w t.block) (next_body n (blocks_taken s) (blob_at n w t.block) bytes)
told_was {n} {w} {f} {s} {count} {key} {place} o is t bytes =
    let has : finite.get s key ≡ Some (blob_at n w t.block) = ap (λ (m : BlobState). finite.get m key) (sym is.state_is) ∙ get_here is.keys key (own_within key o) t.front t.block t.back t.blocks t.holds (blob_at n w) in
    ap (λ x. set_blob n s key bytes x) has
