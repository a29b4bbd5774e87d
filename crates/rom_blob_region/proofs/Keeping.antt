-- Keys with bytes after a change of other words.
use Rattle.std.proofs.Common.{◌≡◌, ◌≢◌, ◌⊎◌, inl, inr, ⊎_elim, ℕ, ◌+◌, ◌-◌, ◌*◌, ◌^◌, ◌<◌, ◌≤◌, Bool, true, false, List, [], ◌∷◌, ◌++◌, length, refl, sym, ◌∙◌, ap, subst, arith}
use Rattle.std.specs.Prelude.{slice_index}
use Rattle.std.specs.FinMap as finite
use Rattle.std.proofs.lemmas.Bool.{cases_eq, cases_lt}
use Rattle.rom_model.specs.Space.{ChangesOnly}
use Rattle.rom_model.specs.Blocks.{IsOrder, IsDisjoint, AreWords, taking, block_of, region_len}
use Rattle.rom_model.specs.Chains.{times}
use Rattle.rom_model.specs.Region.{buckets, bucket_of}
use Rattle.rom_model.proofs.Nodes.{pow_positive}
use Rattle.rom_model.proofs.Times.{times_here, times_away, times_more, times-append}
use Rattle.rom_bucket.specs.Walk.{head_of}
use Rattle.rom_bucket.specs.Link.{first_place, IsNodeLinked, IsNodeUnlinked}
use Rattle.rom_bucket.specs.Buckets.{blocks_of_buckets, AreBuckets, Between, There, keyed}
use Rattle.rom_bucket.specs.declared.walk.Place.{Place}
use Rattle.rom_bucket.specs.declared.node.Node.{Node}
use Rattle.rom_bucket.proofs.Heads.{head_before}
use Rattle.rom_bucket.proofs.Keys.{entries_same, buckets_same, around, again, whole as nodes_whole}
use Rattle.rom_bucket.proofs.Places.{before_node, link_kinds}
use Rattle.rom_bucket.proofs.Added as added
use Rattle.rom_bucket.proofs.Removed as removed
use Rattle.rom_blob_region.specs.State.{BlobState, blocks_in, taken_with}
use Rattle.rom_blob_region.specs.Region.{IsBlobRoot, len_at, data_at, blob_at, IsBlob, held_by, AreBlobsApart, IsBlobs}
use Rattle.rom_blob_region.proofs.Beside.{InBlock, apart_words, in_unit, in_table, block_least}
use Rattle.rom_blob_region.proofs.Held.{held_has, held_two, held_same, held_between, taken_block, taken_table, not_table, taking_still, taking_here}
use Rattle.rom_blob_region.proofs.Places.{Same, blob_same, own_word, has_node, in_body, counts_some}

-- what a region has but for the tree
pub record HasKeys (n : ℕ) (w : List ℕ) (f : ℕ → List ℕ) (s : BlobState) (count : ℕ) : Type 0 where
  pub order : IsOrder n
  pub as_long : length w ≡ region_len n
  pub root : IsBlobRoot n w count
  pub keys : AreBuckets n 3 w f
  pub blobs : (b : ℕ) → 0 < times b (blocks_of_buckets n f) → IsBlob n w b
  pub state_is : keyed n w (blob_at n w) f ≡ s

-- the blocks of its keys
abbrev pub held : ℕ → List ℕ → (ℕ → List ℕ) → List ℕ
held n w f = held_by (blob_at n w) (blocks_of_buckets n f)

pub has_keys : {n : ℕ} {w : List ℕ} {f : ℕ → List ℕ} {s : BlobState} {count : ℕ} → IsBlobs n w f s count → HasKeys n w f s count
has_keys is = record { order = is.order; as_long = is.as_long; root = is.root; keys = is.keys; blobs = is.blobs; state_is = is.state_is }

pub whole : {n : ℕ} {w : List ℕ} {f : ℕ → List ℕ} {s : BlobState} {count : ℕ} → HasKeys n w f s count → AreBlobsApart n (held n w f) → AreWords n (taken_with (held n w f)) w → IsBlobs n w f s count
whole is apart tree = record { order = is.order; as_long = is.as_long; root = is.root; keys = is.keys; blobs = is.blobs; state_is = is.state_is; apart = apart; tree = tree }

-- the root where these words stay
root_same : (n : ℕ) (w w' : List ℕ) (count : ℕ) → ((k : ℕ) → k ≤ 16 → k ≢ 3 → slice_index w' k ≡ slice_index w k) → IsBlobRoot n w count → IsBlobRoot n w' count
root_same n w w' count same is = record {
  kind = same 0 (omega arith) (omega arith) ∙ is.kind;
  version = same 1 (omega arith) (omega arith) ∙ is.version;
  count_is = same 2 (omega arith) (omega arith) ∙ is.count_is;
  count_fits = is.count_fits;
  table = same 8 (omega arith) (omega arith) ∙ is.table;
  low_zeros = λ k lo hi. same k (omega (arith, hi)) (omega (arith, lo)) ∙ is.low_zeros k lo hi;
  high_zeros = λ k lo hi. same k hi (omega (arith, lo)) ∙ is.high_zeros k lo hi;
}

-- Each word of a key stays in these words.
pub record Stays (n : ℕ) (w w' : List ℕ) (b : ℕ) : Type 0 where
  pub node : (j : ℕ) → j < 4 → slice_index w' (block_of n b + j) ≡ slice_index w (block_of n b + j)
  pub body : (j : ℕ) → 8 * j < len_at n w b → slice_index w' (data_at n w b + j) ≡ slice_index w (data_at n w b + j)

pub stays_same : (n : ℕ) (w w' : List ℕ) (b : ℕ) → IsBlob n w b → Stays n w w' b → Same n w w' b
stays_same n w w' b is stays = blob_same n w w' b is (stays.node 1 (omega arith)) (stays.node 3 (omega arith)) stays.body

module _ {n : ℕ} {w w' : List ℕ} {f : ℕ → List ℕ} {s : BlobState} {count : ℕ} (is : HasKeys n w f s count) where
  module _ (long : length w' ≡ length w) (root : (k : ℕ) → k ≤ 16 → slice_index w' k ≡ slice_index w k) (heads : (i : ℕ) → i < buckets n → slice_index w' (head_of n i) ≡ slice_index w (head_of n i))
      (stay : (b : ℕ) → 0 < times b (blocks_of_buckets n f) → Stays n w w' b) where
    same_at : (b : ℕ) → 0 < times b (blocks_of_buckets n f) → Same n w w' b
    same_at b some = stays_same n w w' b (is.blobs b some) (stay b some)

    pub same_held : held n w' f ≡ held n w f
    same_held = held_same (blob_at n w) (blob_at n w') (blocks_of_buckets n f) (λ b some. (same_at b some).blob)

    -- where all that belongs to the keys stays
    pub same_keys : HasKeys n w' f s count
    same_keys = record {
      order = is.order;
      as_long = long ∙ is.as_long;
      root = root_same n w w' count (λ k le ne. root k le) is.root;
      keys = buckets_same w' heads (root 3 (omega arith)) (λ c some. (stay c some).node 0 (omega arith)) (λ c some. (stay c some).node 2 (omega arith)) is.keys;
      blobs = λ b some. (same_at b some).is;
      state_is = ap (λ es. finite.from_entries es) (entries_same n w w' (blob_at n w) (blob_at n w') (blocks_of_buckets n f) (λ c some. (stay c some).node 0 (omega arith)) (λ c some. (same_at c some).blob)) ∙ is.state_is;
    }

-- where the tree alone changed
module _ {n : ℕ} {w w' : List ℕ} {f : ℕ → List ℕ} {s : BlobState} {count : ℕ} (le : 4 ≤ n) (is : HasKeys n w f s count) (only : ChangesOnly 17 (2 * 2 ^ n - 1) w w') where
  low_stays : (k : ℕ) → k ≤ 16 → slice_index w' k ≡ slice_index w k
  low_stays k small = only.before k (omega (arith, small))

  pub high_stays : (k : ℕ) → block_of n 0 ≤ k → slice_index w' k ≡ slice_index w k
  high_stays k late = only.behind k (omega (arith, late, pow_positive n))

  stay : (b : ℕ) → 0 < times b (blocks_of_buckets n f) → Stays n w w' b
  stay b some = record {
    node = λ j lt. high_stays (block_of n b + j) (omega arith);
    body = λ j lt.
        let at = own_word n w b le (is.keys.within b some).1 (is.blobs b some) (data_at n w b + j) (inr (j, lt, refl)) in
        high_stays (data_at n w b + j) (block_least n at.0 (data_at n w b + j) at.2);
  }

  pub tree_keys : HasKeys n w' f s count
  tree_keys = same_keys is only.as_long low_stays (λ i lt. high_stays (head_of n i) (omega arith)) stay

  pub tree_held : held n w' f ≡ held n w f
  tree_held = same_held is only.as_long low_stays (λ i lt. high_stays (head_of n i) (omega arith)) stay

-- The word is no word of a key or of the bucket table, since it stands in a block of none.
module _ {n : ℕ} {w : List ℕ} {f : ℕ → List ℕ} {s : BlobState} {count : ℕ} (le : 4 ≤ n) (is : HasKeys n w f s count) (apart : AreBlobsApart n (held n w f)) where
  abbrev T : ℕ → Bool
  T = taken_with (held n w f)

  pub in_held : (b z : ℕ) → 0 < times b (blocks_of_buckets n f) → 0 < times z (blocks_in (blob_at n w b)) → T z ≡ true
  in_held b z some among = taken_block (held n w f) z (omega (arith, among, held_has (blob_at n w) z b (blocks_of_buckets n f) some))

  -- words of two keys, or of a key and the table, are different ones
  pub not_shared : (b c y z k : ℕ) → 0 < times b (blocks_of_buckets n f) → 0 < times c (blocks_of_buckets n f) → b ≢ c → 0 < times y (blocks_in (blob_at n w b)) → 0 < times z (blocks_in (blob_at n w c)) → InBlock n y k → InBlock n z k → ⊥
  not_shared b c y z k one two ne first second a d =
      apart_words n T apart.disjoint y z k (in_held b y one first) (in_held c z two second)
      (λ e. absurd (omega (arith, held_two (blob_at n w) y b c (blocks_of_buckets n f) ne one two, apart.different y, first, second, ap (λ x. times x (blocks_in (blob_at n w c))) e))) a d

  pub not_in_table : (b y k : ℕ) → 0 < times b (blocks_of_buckets n f) → 0 < times y (blocks_in (blob_at n w b)) → InBlock n y k → InBlock n 16 k → ⊥
  not_in_table b y k some first a d =
      apart_words n T apart.disjoint y 16 k (in_held b y some first) (taken_table (held n w f))
      (not_table n (held n w f) apart y (omega (arith, first, held_has (blob_at n w) y b (blocks_of_buckets n f) some))) a d

  -- a key whose words are not among those that change
  pub untouched : (w' : List ℕ) (b : ℕ) → 0 < times b (blocks_of_buckets n f) → ((y k : ℕ) → 0 < times y (blocks_in (blob_at n w b)) → InBlock n y k → slice_index w' k ≡ slice_index w k) → Stays n w w' b
  untouched w' b some same = record {
    node = λ j lt.
        let at = own_word n w b le (is.keys.within b some).1 (is.blobs b some) (block_of n b + j) (inl (j, lt, refl)) in
        same at.0 (block_of n b + j) at.1 at.2;
    body = λ j lt.
        let at = own_word n w b le (is.keys.within b some).1 (is.blobs b some) (data_at n w b + j) (inr (j, lt, refl)) in
        same at.0 (data_at n w b + j) at.1 at.2;
  }

  -- where words of a block that was free changed alone
  module _ (w' : List ℕ) (x : ℕ) (free : T x ≡ false) (disjoint : IsDisjoint n (taking x T)) (long : length w' ≡ length w) (changed : (k : ℕ) → (slice_index w' k ≡ slice_index w k) ⊎ InBlock n x k) where
    stays_there : (z k : ℕ) → T z ≡ true → InBlock n z k → slice_index w' k ≡ slice_index w k
    stays_there z k there in_z = ⊎_elim (λ same. same)
        (λ in_x. absurd (apart_words n (taking x T) disjoint z x k (taking_still x z T there) (taking_here x T) (λ e. absurd (let never : true ≡ false = sym there ∙ ap T e ∙ free in cc)) in_z in_x))
        (changed k)

    body_stay : (b : ℕ) → 0 < times b (blocks_of_buckets n f) → Stays n w w' b
    body_stay b some = untouched w' b some (λ y k among in_y. stays_there y k (in_held b y some among) in_y)

    body_low : (k : ℕ) → k < block_of n 0 → slice_index w' k ≡ slice_index w k
    body_low k lt = ⊎_elim (λ same. same) (λ in_x. absurd (omega (arith, lt, block_least n x k in_x))) (changed k)

    body_heads : (i : ℕ) → i < buckets n → slice_index w' (head_of n i) ≡ slice_index w (head_of n i)
    body_heads i lt = stays_there 16 (head_of n i) (taken_table (held n w f)) (in_table n (head_of n i) le (omega arith) (head_before n i le lt))

    pub body_keys : HasKeys n w' f s count
    body_keys = same_keys is long (λ k small. body_low k (omega (arith, small, pow_positive n))) body_heads body_stay

    pub body_held : held n w' f ≡ held n w f
    body_held = same_held is long (λ k small. body_low k (omega (arith, small, pow_positive n))) body_heads body_stay

    pub body_tree : (k : ℕ) → 17 ≤ k → k < block_of n 0 → slice_index w' k ≡ slice_index w k
    body_tree k least most = body_low k most

-- without a key, whose node was unlinked
module _ {n : ℕ} {w : List ℕ} {f : ℕ → List ℕ} {s : BlobState} {count : ℕ} (le : 4 ≤ n) (is : HasKeys n w f s count) (apart : AreBlobsApart n (held n w f)) {key : ℕ} {place : Place} (within : bucket_of n key < buckets n) (t : There n w f key place) {w' : List ℕ} (un : IsNodeUnlinked 3 place w w') where
  abbrev pub left : ℕ → List ℕ
  left = removed.next le (omega arith) is.keys within t un

  was_there : (b : ℕ) → 0 < times b (blocks_of_buckets n left) → 0 < times b (blocks_of_buckets n f)
  was_there b some = removed.stood_all le (omega arith) is.keys within t un b some

  -- the link is no byte of a key
  cut_body : (b : ℕ) → 0 < times b (blocks_of_buckets n f) → (j : ℕ) → 8 * j < len_at n w b → slice_index w' (data_at n w b + j) ≡ slice_index w (data_at n w b + j)
  cut_body b some j lt =
      let fits = is.blobs b some in
      let x = fits.block (λ e. absurd (omega (arith, e, lt))) in
      let in_x = in_body n (len_at n w b) x.0 (data_at n w b) j le fits.few x.1 x.2 lt in
      let counts = counts_some n w b le x.0 (λ e. absurd (omega (arith, e, lt))) x.1 x.2 in
      let among : 0 < times x.0 (blocks_in (blob_at n w b)) = omega (arith, counts x.0, times_here x.0 [], times_more x.0 (2 ^ n + b) (x.0 ∷ [])) in
      un.others (data_at n w b + j)
      (λ e. ⊎_elim
      (λ head. not_in_table le is apart b x.0 (data_at n w b + j) some among in_x (in_table n (data_at n w b + j) le (omega (arith, e, head)) (omega (arith, e, head, head_before n (bucket_of n key) le within))))
      (λ link. elim (cases_eq b link.0) [
        | inl same ↦
            let unit : 2 ^ n + b ≢ x.0 = λ one. absurd (omega (arith, held_has (blob_at n w) (2 ^ n + b) b (blocks_of_buckets n f) some, apart.different (2 ^ n + b), counts (2 ^ n + b), times_here (2 ^ n + b) (x.0 ∷ []), ap (λ y. times (2 ^ n + b) (y ∷ [])) one, times_here (2 ^ n + b) [])) in
            apart_words n (taken_with (held n w f)) apart.disjoint (2 ^ n + b) x.0 (data_at n w b + j) (in_held le is apart b (2 ^ n + b) some (has_node n w b)) (in_held le is apart b x.0 some among) unit
            (in_unit n b (data_at n w b + j) (is.keys.within b some).1 (omega (arith, e, link.2, same)) (omega (arith, e, link.2, same))) in_x
        | inr other ↦
            not_shared le is apart b link.0 x.0 (2 ^ n + link.0) (data_at n w b + j) some link.1 other among (has_node n w link.0) in_x
            (in_unit n link.0 (data_at n w b + j) (is.keys.within link.0 link.1).1 (omega (arith, e, link.2)) (omega (arith, e, link.2)))
      ])
      (link_kinds le is.keys within (before_node t)))
      (λ e. absurd (omega (arith, e, block_least n x.0 (data_at n w b + j) in_x)))

  cut_same : (b : ℕ) → 0 < times b (blocks_of_buckets n f) → Same n w w' b
  cut_same b some = blob_same n w w' b (is.blobs b some) (removed.node_stays le (omega arith) is.keys within t un b 1 some (omega arith) (omega arith)) (removed.node_stays le (omega arith) is.keys within t un b 3 some (omega arith) (omega arith)) (cut_body b some)

  pub cut_keys : HasKeys n w' left (finite.remove s key) count
  cut_keys = record {
    order = is.order;
    as_long = un.as_long ∙ is.as_long;
    root = root_same n w w' count (λ k small ne. removed.removed_low le (omega arith) is.keys within t un k (omega (arith, small, pow_positive n)) ne) is.root;
    keys = removed.removed_buckets le (omega arith) is.keys within t un;
    blobs = λ b some. (cut_same b (was_there b some)).is;
    state_is = removed.removed_keyed le (omega arith) is.keys within t un (blob_at n w) (blob_at n w') (λ c some. (cut_same c (was_there c some)).blob) ∙ ap (λ m. finite.remove m key) is.state_is;
  }

  -- its blocks are those that are missing
  pub cut_held : (c : ℕ) → times c (held n w f) ≡ times c (held n w' left) + times c (blocks_in (blob_at n w t.block))
  cut_held c =
      let at = removed.parts le (omega arith) is.keys within t un in
      let same = held_same (blob_at n w) (blob_at n w') (blocks_of_buckets n left) (λ b some. (cut_same b (was_there b some)).blob) in
      omega (arith, ap (times c) same, ap (λ us. times c (held_by (blob_at n w) us)) at.2, ap (λ us. times c (held_by (blob_at n w) us)) at.3, held_between (blob_at n w) c at.0 at.1 t.block)

  pub cut_tree : (k : ℕ) → 17 ≤ k → k < block_of n 0 → slice_index w' k ≡ slice_index w k
  cut_tree k least most = removed.removed_low le (omega arith) is.keys within t un k most (omega (arith, least))

-- with a new key, whose node is a unit that was free
module _ {n : ℕ} {w : List ℕ} {f : ℕ → List ℕ} {s : BlobState} {count : ℕ} (is : HasKeys n w f s count) {node : Node} {block : ℕ} (may : added.MayAdd n 3 w f node.key block) {w' : List ℕ} (linked : IsNodeLinked 3 (first_place n node.key w) (block_of n block) node w w')
    (apart : AreBlobsApart n (held n w f)) (free : taken_with (held n w f) (2 ^ n + block) ≡ false) (disjoint : IsDisjoint n (taking (2 ^ n + block) (taken_with (held n w f)))) (new : IsBlob n w' block) where
  abbrev front : Between n f node.key (first_place n node.key w)
  front = added.at_front may.are may.within

  abbrev pub more : ℕ → List ℕ
  more = added.next may front linked

  abbrev y : ℕ
  y = 2 ^ n + block

  -- no byte of a key is a word of the node, the bucket's head, or the size
  link_body : (b : ℕ) → 0 < times b (blocks_of_buckets n f) → (j : ℕ) → 8 * j < len_at n w b → slice_index w' (data_at n w b + j) ≡ slice_index w (data_at n w b + j)
  link_body b some j lt =
      let fits = is.blobs b some in
      let x = fits.block (λ e. absurd (omega (arith, e, lt))) in
      let k = data_at n w b + j in
      let in_x = in_body n (len_at n w b) x.0 (data_at n w b) j may.least fits.few x.1 x.2 lt in
      let counts = counts_some n w b may.least x.0 (λ e. absurd (omega (arith, e, lt))) x.1 x.2 in
      let among : 0 < times x.0 (blocks_in (blob_at n w b)) = omega (arith, counts x.0, times_here x.0 [], times_more x.0 (2 ^ n + b) (x.0 ∷ [])) in
      let there = in_held may.least is apart b x.0 some among in
      linked.others k
      (elim (cases_lt k (block_of n block)) [
        | inl less ↦ inl less
        | inr ge ↦ elim (cases_lt k (block_of n block + 4)) [
          | inr past ↦ inr (omega (arith, past))
          | inl inside ↦ absurd (apart_words n (taking y (taken_with (held n w f))) disjoint x.0 y k (taking_still y x.0 (taken_with (held n w f)) there) (taking_here y (taken_with (held n w f)))
              (λ e. absurd (let never : true ≡ false = sym there ∙ ap (taken_with (held n w f)) e ∙ free in cc)) in_x (in_unit n block k may.block_most ge inside))
        ]
      ])
      (λ e. not_in_table may.least is apart b x.0 k some among in_x (in_table n k may.least (omega (arith, e)) (omega (arith, e, head_before n (bucket_of n node.key) may.least may.within))))
      (λ e. absurd (omega (arith, e, block_least n x.0 k in_x)))

  link_same : (b : ℕ) → 0 < times b (blocks_of_buckets n f) → Same n w w' b
  link_same b some = blob_same n w w' b (is.blobs b some) (added.node_stays may front linked b 1 some (omega arith) (omega arith)) (added.node_stays may front linked b 3 some (omega arith) (omega arith)) (link_body b some)

  pub link_keys : HasKeys n w' more (finite.insert s node.key (blob_at n w' block)) count
  link_keys = record {
    order = is.order;
    as_long = linked.as_long ∙ is.as_long;
    root = root_same n w w' count (λ k small ne. added.added_root may front linked k small ne) is.root;
    keys = added.added_buckets may front linked;
    blobs = λ b some. elim (cases_eq block b) [
      | inl same ↦ subst (λ a. IsBlob n w' a) same new
      | inr other ↦ (link_same b (omega (arith, some, added.one_node_more may front linked b, times_away b block [] other))).is
    ];
    state_is = added.added_keyed may front linked (blob_at n w) (blob_at n w') (λ c some. (link_same c some).blob) ∙ ap (λ m. finite.insert m node.key (blob_at n w' block)) is.state_is;
  }

  pub link_held : (c : ℕ) → times c (held n w' more) ≡ times c (held n w f) + times c (blocks_in (blob_at n w' block))
  link_held c =
      let at = added.parts may front linked in
      let same = held_same (blob_at n w) (blob_at n w') (blocks_of_buckets n f) (λ b some. (link_same b some).blob) in
      omega (arith, ap (times c) same, ap (λ us. times c (held_by (blob_at n w') us)) at.2, ap (λ us. times c (held_by (blob_at n w') us)) at.3, held_between (blob_at n w') c at.0 at.1 block)

-- Where the words of one key's node and bytes changed alone: a byte that changed stands in a block of no
-- other key, which overlaps none.
pub record Own (n : ℕ) (w : List ℕ) (f : ℕ → List ℕ) (block k : ℕ) : Type 0 where
  pub home : ℕ
  pub in_home : InBlock n home k
  pub disjoint : IsDisjoint n (taking home (taken_with (held n w f)))
  pub not_table : home ≢ 16
  pub not_node : home ≢ 2 ^ n + block
  pub not_others : (b : ℕ) → 0 < times b (blocks_of_buckets n f) → b ≢ block → times home (blocks_in (blob_at n w b)) ≡ 0

module _ {n : ℕ} {w : List ℕ} {f : ℕ → List ℕ} {s : BlobState} {count : ℕ} (le : 4 ≤ n) (is : HasKeys n w f s count) (apart : AreBlobsApart n (held n w f)) {key : ℕ} {place : Place} (within : bucket_of n key < buckets n) (t : There n w f key place)
    (w' : List ℕ) (long : length w' ≡ length w) (changed : (k : ℕ) → (slice_index w' k ≡ slice_index w k) ⊎ (((k ≡ block_of n t.block + 1) ⊎ (k ≡ block_of n t.block + 3)) ⊎ Own n w f t.block k)) (new : IsBlob n w' t.block) where
  abbrev set : ℕ → Bool
  set = taken_with (held n w f)

  -- no word of another key or of the table changed
  others_stay : (z k : ℕ) → set z ≡ true → InBlock n z k → z ≢ 2 ^ n + t.block → ((h : ℕ) → h ≡ z → ((b : ℕ) → 0 < times b (blocks_of_buckets n f) → b ≢ t.block → times h (blocks_in (blob_at n w b)) ≡ 0) → h ≢ 16 → ⊥) → slice_index w' k ≡ slice_index w k
  others_stay z k there in_z ne other = ⊎_elim (λ same. same)
      (λ wrong. absurd (⊎_elim
      (λ node.
      let at : InBlock n (2 ^ n + t.block) k = in_unit n t.block k t.within.1 (⊎_elim (λ e. omega (arith, e)) (λ e. omega (arith, e)) node) (⊎_elim (λ e. omega (arith, e)) (λ e. omega (arith, e)) node) in
      apart_words n set apart.disjoint z (2 ^ n + t.block) k there (in_held le is apart t.block (2 ^ n + t.block) t.among (has_node n w t.block)) ne in_z at)
      (λ own.
      apart_words n (taking own.home set) own.disjoint z own.home k (taking_still own.home z set there) (taking_here own.home set) (λ e. other own.home (sym e) own.not_others own.not_table) in_z own.in_home)
      wrong))
      (changed k)

  again_stay : (b : ℕ) → 0 < times b (blocks_of_buckets n f) → b ≢ t.block → Stays n w w' b
  again_stay b some ne = untouched le is apart w' b some (λ y k among in_y.
      others_stay y k (in_held le is apart b y some among) in_y
      (λ e. absurd (omega (arith, held_two (blob_at n w) y b t.block (blocks_of_buckets n f) ne some t.among, apart.different y, among, has_node n w t.block, ap (λ x. times x (blocks_in (blob_at n w t.block))) e)))
      (λ h e none beside. absurd (omega (arith, none b some ne, among, ap (λ x. times x (blocks_in (blob_at n w b))) e))))

  -- and no key or link of the node itself
  node_stays : (j : ℕ) → j < 4 → j ≢ 1 → j ≢ 3 → slice_index w' (block_of n t.block + j) ≡ slice_index w (block_of n t.block + j)
  node_stays j lt not_one not_three = ⊎_elim (λ same. same)
      (λ wrong. absurd (⊎_elim
      (λ node. ⊎_elim (λ e. absurd (not_one (omega (arith, e)))) (λ e. absurd (not_three (omega (arith, e)))) node)
      (λ own.
      apart_words n (taking own.home set) own.disjoint (2 ^ n + t.block) own.home (block_of n t.block + j) (taking_still own.home (2 ^ n + t.block) set (in_held le is apart t.block (2 ^ n + t.block) t.among (has_node n w t.block))) (taking_here own.home set)
      (λ e. own.not_node (sym e)) (in_unit n t.block (block_of n t.block + j) t.within.1 (omega arith) (omega (arith, lt))) own.in_home)
      wrong))
      (changed (block_of n t.block + j))

  word_stays : (c j : ℕ) → 0 < times c (blocks_of_buckets n f) → j < 4 → j ≢ 1 → j ≢ 3 → slice_index w' (block_of n c + j) ≡ slice_index w (block_of n c + j)
  word_stays c j some lt not_one not_three = elim (cases_eq c t.block) [
    | inl same ↦ subst (λ a. slice_index w' (block_of n a + j) ≡ slice_index w (block_of n a + j)) (sym same) (node_stays j lt not_one not_three)
    | inr other ↦ (again_stay c some other).node j lt
  ]

  again_low : (k : ℕ) → k < block_of n 0 → slice_index w' k ≡ slice_index w k
  again_low k lt = ⊎_elim (λ same. same)
      (λ wrong. absurd (⊎_elim
      (λ node. ⊎_elim (λ e. absurd (omega (arith, e, lt))) (λ e. absurd (omega (arith, e, lt))) node)
      (λ own. omega (arith, lt, block_least n own.home k own.in_home))
      wrong))
      (changed k)

  again_heads : (i : ℕ) → i < buckets n → slice_index w' (head_of n i) ≡ slice_index w (head_of n i)
  again_heads i lt = others_stay 16 (head_of n i) (taken_table (held n w f)) (in_table n (head_of n i) le (omega arith) (head_before n i le lt))
      (λ e. not_table n (held n w f) apart (2 ^ n + t.block) (omega (arith, held_has (blob_at n w) (2 ^ n + t.block) t.block (blocks_of_buckets n f) t.among, has_node n w t.block)) (sym e))
      (λ h e none beside. beside e)

  again_same : (b : ℕ) → 0 < times b (blocks_of_buckets n f) → b ≢ t.block → Same n w w' b
  again_same b some ne = stays_same n w w' b (is.blobs b some) (again_stay b some ne)

  pub again_keys : HasKeys n w' f (finite.insert s key (blob_at n w' t.block)) count
  again_keys = record {
    order = is.order;
    as_long = long ∙ is.as_long;
    root = root_same n w w' count (λ k small ne. again_low k (omega (arith, small, pow_positive n))) is.root;
    keys = buckets_same w' again_heads (again_low 3 (omega arith)) (λ c some. word_stays c 0 some (omega arith) (omega arith) (omega arith)) (λ c some. word_stays c 2 some (omega arith) (omega arith) (omega arith)) is.keys;
    blobs = λ b some. elim (cases_eq b t.block) [
      | inl same ↦ subst (λ a. IsBlob n w' a) (sym same) new
      | inr other ↦ (again_same b some other).is
    ];
    state_is = again is.keys key within t.front t.block t.back t.blocks t.holds (blob_at n w) w' (blob_at n w') (λ c some. word_stays c 0 some (omega arith) (omega arith) (omega arith)) (λ c some ne. (again_same c some ne).blob)
        ∙ ap (λ m. finite.insert m key (blob_at n w' t.block)) is.state_is;
  }

  pub again_held : (c : ℕ) → times c (held n w' f) + times c (blocks_in (blob_at n w t.block)) ≡ times c (held n w f) + times c (blocks_in (blob_at n w' t.block))
  again_held c =
      let a = around is.keys key within t.front t.block t.back t.blocks t.holds in
      let parts = nodes_whole is.keys key within t.front t.block t.back t.blocks t.holds in
      let apart_from : (b : ℕ) → 0 < times b (a.ahead ++ a.behind) → b ≢ t.block = λ b some e.
      absurd (omega (arith, some, ap (λ x. times x (a.ahead ++ a.behind)) e, times-append t.block a.ahead a.behind, ap (times t.block) parts, times-append t.block a.ahead (t.block ∷ a.behind), times_here t.block a.behind, is.keys.different t.block)) in
      let in_nodes : (b : ℕ) → 0 < times b (a.ahead ++ a.behind) → 0 < times b (blocks_of_buckets n f) = λ b some.
      omega (arith, some, times-append b a.ahead a.behind, ap (times b) parts, times-append b a.ahead (t.block ∷ a.behind), times_more b t.block a.behind) in
      let same = held_same (blob_at n w) (blob_at n w') (a.ahead ++ a.behind) (λ b some. (again_same b (in_nodes b some) (apart_from b some)).blob) in
      omega (
        arith,
        ap (times c) same,
        ap (λ us. times c (held_by (blob_at n w) us)) parts,
        ap (λ us. times c (held_by (blob_at n w') us)) parts,
        held_between (blob_at n w) c a.ahead a.behind t.block,
        held_between (blob_at n w') c a.ahead a.behind t.block,
      )

  pub again_tree : (k : ℕ) → 17 ≤ k → k < block_of n 0 → slice_index w' k ≡ slice_index w k
  again_tree k least most = again_low k most
