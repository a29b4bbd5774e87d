-- A node more, at a place of its key's bucket.
use Rattle.std.proofs.Common.{◌≡◌, ◌≢◌, ◌⊎◌, inl, inr, ⊎_elim, ℕ, ◌+◌, ◌-◌, ◌^◌, ◌<◌, ◌≤◌, List, [], ◌∷◌, ◌++◌, length, refl, sym, ◌∙◌, ap, subst, arith, length-append, append-nil}
use Rattle.std.specs.Prelude.{slice_index}
use Rattle.std.specs.FinMap as finite
use Rattle.std.proofs.lemmas.Bool.{cases_eq, cases_lt}
use Rattle.rom_model.specs.Blocks.{block_of}
use Rattle.rom_model.specs.Chains.{times, Chain, each_word}
use Rattle.rom_model.specs.Links.{link_after}
use Rattle.rom_model.specs.Region.{buckets, bucket_of}
use Rattle.rom_model.proofs.Times.{times_here, times_away, times-append, times_bucket}
use Rattle.rom_model.proofs.Nodes.{pow_positive}
use Rattle.rom_model.proofs.Frames.{chain_same, each_same}
use Rattle.rom_model.proofs.Links.{chain_first, chain_moved, each_append}
use Rattle.rom_bucket.specs.Walk.{head_of}
use Rattle.rom_bucket.specs.Link.{first_place, IsNodeLinked}
use Rattle.rom_bucket.specs.Buckets.{blocks_of_buckets, with_chain, AreBuckets, Between, entries_of, keyed}
use Rattle.rom_bucket.specs.declared.node.Node.{Node}
use Rattle.rom_bucket.specs.declared.walk.Place.{Place}
use Rattle.rom_bucket.proofs.Heads.{head_before}
use Rattle.rom_bucket.proofs.Walking.{first_other}
use Rattle.rom_bucket.proofs.Entries.{firsts, entries_map, insert_between}
use Rattle.rom_bucket.proofs.Chained.{Cut, cut, chain_here, chain_other}
use Rattle.rom_bucket.proofs.Keys.{entry_keys, entries_append, entries_same, in_all}
use Rattle.rom_bucket.proofs.Places.{in_own, link_kinds, not_link, head_apart, link_high, elsewhere, behind_only, chain_behind, leads, link_leads, relinked}

-- chains, and a block that is not in them, for a key that is not in them either
pub record MayAdd (n size : ℕ) (w : List ℕ) (f : ℕ → List ℕ) (key block : ℕ) : Type 0 where
  pub least : 4 ≤ n
  pub root : size ≤ 16
  pub are : AreBuckets n size w f
  pub block_late : 2 ^ (n - 4) ≤ block
  pub block_most : block < 2 ^ n
  pub absent : times block (blocks_of_buckets n f) ≡ 0
  pub within : bucket_of n key < buckets n
  pub missing : times key (each_word n w 0 (blocks_of_buckets n f)) ≡ 0

module _ {n size : ℕ} {w : List ℕ} {f : ℕ → List ℕ} {key block : ℕ} {place : Place} (may : MayAdd n size w f key block) (b : Between n f key place) where
  -- the link of the place is no word of the block, and leads elsewhere
  pub link_outside : (place.link < block_of n block) ⊎ (block_of n block + 4 ≤ place.link)
  link_outside = ⊎_elim
      (λ at. inl (omega (arith, at, head_before n (bucket_of n key) may.least may.within, may.block_late)))
      (λ x.
      let ne : x.0 ≢ block = λ e. absurd (omega (arith, x.1, ap (λ c. times c (blocks_of_buckets n f)) e, may.absent)) in
      elim (cases_lt x.0 block) [ inl less ↦ inl (omega (arith, x.2, less)) | inr ge ↦ inr (omega (arith, x.2, ge, ne)) ])
      (link_kinds may.least may.are may.within b)

  pub link_differs : slice_index w place.link ≢ block_of n block
  link_differs e =
      let none : times block b.back ≡ 0 = omega (arith, in_own may.least may.are may.within b block, times_bucket f (buckets n) (bucket_of n key) block may.within, may.absent) in
      first_other n block b.back none (sym b.node_is ∙ sym (link_leads may.least may.are may.within b) ∙ e)

module _ {n size : ℕ} {w w' : List ℕ} {f : ℕ → List ℕ} {node : Node} {block : ℕ} {place : Place} (may : MayAdd n size w f node.key block) (b : Between n f node.key place) (linked : IsNodeLinked size place (block_of n block) node w w') where
  abbrev key : ℕ
  key = node.key

  abbrev own : ℕ
  own = bucket_of n key

  abbrev pub next : ℕ → List ℕ
  next = with_chain f own (b.front ++ block ∷ b.back)

  place_in : Cut f own (buckets n) b.front b.back
  place_in = cut f own (buckets n) b.front b.back may.within

  before : blocks_of_buckets n f ≡ place_in.ahead ++ place_in.behind
  before = place_in.are f (λ j ne. refl) [] b.blocks

  after : blocks_of_buckets n next ≡ place_in.ahead ++ block ∷ place_in.behind
  after = place_in.are next (λ j ne. chain_other f own j (b.front ++ block ∷ b.back) ne) (block ∷ []) (chain_here f own (b.front ++ block ∷ b.back))

  -- the nodes before and after
  pub parts : (ahead behind : List ℕ) × (blocks_of_buckets n f ≡ ahead ++ behind) × (blocks_of_buckets n next ≡ ahead ++ block ∷ behind)
  parts = (place_in.ahead, place_in.behind, before, after)

  pub one_node_more : (c : ℕ) → times c (blocks_of_buckets n next) ≡ times c (blocks_of_buckets n f) + times c (block ∷ [])
  one_node_more c = omega (arith, ap (times c) after, ap (times c) before, times-append c place_in.ahead (block ∷ place_in.behind), times-append c place_in.ahead place_in.behind)

  -- a word of another block is none of the new one's
  away : (c j : ℕ) → 0 < times c (blocks_of_buckets n f) → j < 4 → (block_of n c + j < block_of n block) ⊎ (block_of n block + 4 ≤ block_of n c + j)
  away c j some lt =
      let ne : c ≢ block = λ e. absurd (omega (arith, some, ap (λ x. times x (blocks_of_buckets n f)) e, may.absent)) in
      elim (cases_lt c block) [ inl less ↦ inl (omega (arith, less, lt)) | inr ge ↦ inr (omega (arith, ge, ne)) ]

  -- the other nodes' words stay, but for the link
  stays : (c j : ℕ) → 0 < times c (blocks_of_buckets n f) → j < 4 → (j ≡ 2 → times c b.front ≡ 0) → slice_index w' (block_of n c + j) ≡ slice_index w (block_of n c + j)
  stays c j some lt beside = linked.others (block_of n c + j) (away c j some lt) (not_link may.least may.are may.within b c j lt (may.are.within c some).0 beside) (λ e. absurd (omega (arith, e, may.root, pow_positive n)))

  pub node_stays : (c j : ℕ) → 0 < times c (blocks_of_buckets n f) → j < 4 → j ≢ 2 → slice_index w' (block_of n c + j) ≡ slice_index w (block_of n c + j)
  node_stays c j some lt ne = stays c j some lt (λ e. absurd (ne e))

  in_place : (c : ℕ) → times c (f own) ≡ times c b.front + times c b.back
  in_place c = in_own may.least may.are may.within b c

  own_chain : Chain n w' (head_of n own) 2 (b.front ++ block ∷ b.back)
  own_chain =
      let last = link_after n (head_of n own) 2 b.front in
      let first : slice_index w' last ≡ block_of n block = ap (λ k. slice_index w' k) (sym b.link_is) ∙ linked.link in
      let second : slice_index w' (block_of n block + 2) ≡ slice_index w last = linked.next ∙ sym (leads may.least may.are may.within b) in
      relinked may.least may.are may.within b w' (block ∷ b.back)
      (λ k ne at. linked.others k
      (⊎_elim (λ e. inl (omega (arith, e, head_before n own may.least may.within, may.block_late)))
      (λ x. subst (λ i. (i < block_of n block) ⊎ (block_of n block + 4 ≤ i)) (sym x.2) (away x.0 2 (in_all may.are own may.within x.0 (omega (arith, in_place x.0, x.1))) (omega arith))) at)
      ne (λ e. ⊎_elim (λ here. absurd (omega (arith, e, here, may.root, pow_positive n))) (λ x. absurd (omega (arith, e, x.2, may.root, pow_positive n))) at)) (
        first,
        chain_moved n last (block_of n block + 2) 2 w w' b.back second
            (λ c some. stays c 2 (in_all may.are own may.within c (omega (arith, in_place c, some))) (omega arith) (λ e. behind_only may.least may.are may.within b c some))
            (chain_behind may.least may.are may.within b),
      )

  chains : (i : ℕ) → i < buckets n → Chain n w' (head_of n i) 2 (next i)
  chains i lt = elim (cases_eq i own) [
    | inl same ↦ subst (λ j. Chain n w' (head_of n j) 2 (next j)) (sym same) (subst (λ bs. Chain n w' (head_of n own) 2 bs) (sym (chain_here f own (b.front ++ block ∷ b.back))) own_chain)
    | inr ne ↦
        let head_stays : slice_index w' (head_of n i) ≡ slice_index w (head_of n i) = linked.others (head_of n i) (inl (omega (arith, head_before n i may.least lt, may.block_late))) (head_apart may.least may.are may.within b i lt ne) (λ e. absurd (omega (arith, e, may.root, pow_positive n))) in
        subst (λ bs. Chain n w' (head_of n i) 2 bs) (sym (chain_other f own i (b.front ++ block ∷ b.back) ne))
        (chain_same n (head_of n i) 2 w w' (f i) head_stays (λ c some. stays c 2 (in_all may.are i lt c some) (omega arith) (λ e. elsewhere may.least may.are may.within b i c lt ne some)) (may.are.chains i lt))
  ]

  -- what stands in a bucket stood there before, or is the new block
  stood : (i c : ℕ) → 0 < times c (next i) → (i ≡ own) × (c ≡ block) ⊎ (0 < times c (f i))
  stood i c some = elim (cases_eq i own) [
    | inl same ↦ elim (cases_eq block c) [
      | inl new ↦ inl (same, sym new)
      | inr old ↦ inr (omega (
        arith,
        some,
        ap (λ j. times c (next j)) same,
        ap (times c) (chain_here f own (b.front ++ block ∷ b.back)),
        times-append c b.front (block ∷ b.back),
        times_away c block b.back old,
        in_place c,
        ap (λ j. times c (f j)) same,
      ))
    ]
    | inr ne ↦ inr (omega (arith, some, ap (times c) (chain_other f own i (b.front ++ block ∷ b.back) ne)))
  ]

  key_here : slice_index w' (block_of n block + 0) ≡ key
  key_here = (let plain : block_of n block + 0 ≡ block_of n block = omega arith in ap (λ k. slice_index w' k) plain) ∙ linked.key_is

  own_bucket : (i c : ℕ) → i < buckets n → 0 < times c (next i) → bucket_of n (slice_index w' (block_of n c + 0)) ≡ i
  own_bucket i c lt some = ⊎_elim
      (λ new. ap (λ x. bucket_of n (slice_index w' (block_of n x + 0))) new.1 ∙ ap (bucket_of n) key_here ∙ sym new.0)
      (λ old. ap (bucket_of n) (node_stays c 0 (in_all may.are i lt c old) (omega arith) (omega arith)) ∙ may.are.own_bucket i c lt old)
      (stood i c some)

  -- the bucket's keys, with the new one among them
  pub own_keys : each_word n w' 0 (next own) ≡ each_word n w 0 b.front ++ key ∷ each_word n w 0 b.back
  own_keys =
      let one = each_same n 0 w w' b.front (λ c some. node_stays c 0 (in_all may.are own may.within c (omega (arith, in_place c, some))) (omega arith) (omega arith)) in
      let two = each_same n 0 w w' b.back (λ c some. node_stays c 0 (in_all may.are own may.within c (omega (arith, in_place c, some))) (omega arith) (omega arith)) in
      ap (each_word n w' 0) (chain_here f own (b.front ++ block ∷ b.back)) ∙ each_append n 0 w' b.front (block ∷ b.back) ∙ (λ i. one i ++ key_here i ∷ two i)

  pub other_keys : (i : ℕ) → i < buckets n → i ≢ own → each_word n w' 0 (next i) ≡ each_word n w 0 (f i)
  other_keys i lt ne = ap (each_word n w' 0) (chain_other f own i (b.front ++ block ∷ b.back) ne) ∙ each_same n 0 w w' (f i) (λ c some. node_stays c 0 (in_all may.are i lt c some) (omega arith) (omega arith))

  keys_were : (k : ℕ) → times k (each_word n w 0 (f own)) ≡ times k (each_word n w 0 b.front) + times k (each_word n w 0 b.back)
  keys_were k = ap (λ bs. times k (each_word n w 0 bs)) b.blocks ∙ ap (times k) (each_append n 0 w b.front b.back) ∙ times-append k (each_word n w 0 b.front) (each_word n w 0 b.back)

  none_own : times key (each_word n w 0 (f own)) ≡ 0
  none_own =
      let c = cut f own (buckets n) [] [] may.within in
      let whole : blocks_of_buckets n f ≡ c.ahead ++ (f own ++ c.behind) = c.are f (λ j ne. refl) (f own) (sym (append-nil (f own))) in
      let first = ap (λ bs. times key (each_word n w 0 bs)) whole ∙ ap (times key) (each_append n 0 w c.ahead (f own ++ c.behind)) ∙ times-append key (each_word n w 0 c.ahead) (each_word n w 0 (f own ++ c.behind)) in
      let second = ap (times key) (each_append n 0 w (f own) c.behind) ∙ times-append key (each_word n w 0 (f own)) (each_word n w 0 c.behind) in
      omega (arith, first, second, may.missing)

  keys_differ : (i k : ℕ) → i < buckets n → times k (each_word n w' 0 (next i)) ≤ 1
  keys_differ i k lt = elim (cases_eq i own) [
    | inl same ↦
        let words : times k (each_word n w' 0 (next i)) ≡ times k (each_word n w 0 b.front) + times k (key ∷ each_word n w 0 b.back) = ap (λ j. times k (each_word n w' 0 (next j))) same ∙ ap (times k) own_keys ∙ times-append k (each_word n w 0 b.front) (key ∷ each_word n w 0 b.back) in
        elim (cases_eq key k) [
          | inl is ↦ subst (λ x. times x (each_word n w' 0 (next i)) ≤ 1) is (omega (
            arith,
            ap (λ j. times key (each_word n w' 0 (next j))) same,
            ap (times key) own_keys,
            times-append key (each_word n w 0 b.front) (key ∷ each_word n w 0 b.back),
            times_here key (each_word n w 0 b.back),
            keys_were key,
            none_own,
          ))
          | inr ne ↦ omega (arith, words, times_away k key (each_word n w 0 b.back) ne, keys_were k, may.are.keys_differ own k may.within)
        ]
    | inr ne ↦ omega (arith, ap (times k) (other_keys i lt ne), may.are.keys_differ i k lt)
  ]

  pub added_buckets : AreBuckets n size w' next
  added_buckets = record {
    chains = chains;
    len = omega (arith, linked.len, may.are.len, ap length before, ap length after, length-append place_in.ahead place_in.behind, length-append place_in.ahead (block ∷ place_in.behind));
    own_bucket = own_bucket;
    keys_differ = keys_differ;
    different = λ c. elim (cases_eq block c) [
      | inl same ↦ subst (λ d. times d (blocks_of_buckets n next) ≤ 1) same (omega (arith, one_node_more block, may.absent, times_here block []))
      | inr other ↦ omega (arith, one_node_more c, times_away c block [] other, may.are.different c)
    ];
    within = λ c some. elim (cases_eq block c) [
      | inl same ↦ subst (λ d. (2 ^ (n - 4) ≤ d) × (d < 2 ^ n)) same (may.block_late, may.block_most)
      | inr other ↦ may.are.within c (omega (arith, one_node_more c, times_away c block [] other, some))
    ];
  }

  some_ahead : (c : ℕ) → 0 < times c place_in.ahead → 0 < times c (blocks_of_buckets n f)
  some_ahead c some = omega (arith, some, ap (times c) before, times-append c place_in.ahead place_in.behind)

  some_behind : (c : ℕ) → 0 < times c place_in.behind → 0 < times c (blocks_of_buckets n f)
  some_behind c some = omega (arith, some, ap (times c) before, times-append c place_in.ahead place_in.behind)

  module _ {V : Type 0} (value value' : ℕ → V) (same : (c : ℕ) → 0 < times c (blocks_of_buckets n f) → value' c ≡ value c) where
    entries_now : entries_of n w' value' (blocks_of_buckets n next) ≡ entries_of n w value place_in.ahead ++ (key, value' block) ∷ entries_of n w value place_in.behind
    entries_now =
        let one = entries_same n w w' value value' place_in.ahead (λ c some. node_stays c 0 (some_ahead c some) (omega arith) (omega arith)) (λ c some. same c (some_ahead c some)) in
        let two = entries_same n w w' value value' place_in.behind (λ c some. node_stays c 0 (some_behind c some) (omega arith) (omega arith)) (λ c some. same c (some_behind c some)) in
        ap (entries_of n w' value') after ∙ entries_append n w' value' place_in.ahead (block ∷ place_in.behind) ∙ (λ i. one i ++ (key_here i, value' block) ∷ two i)

    entries_before : entries_map (entries_of n w value place_in.ahead ++ entries_of n w value place_in.behind) ≡ keyed n w value f
    entries_before = ap (λ es. entries_map es) (sym (ap (entries_of n w value) before ∙ entries_append n w value place_in.ahead place_in.behind))

    none_ahead : times key (firsts (entries_of n w value place_in.ahead)) ≡ 0
    none_ahead =
        let split = ap (λ bs. times key (each_word n w 0 bs)) before ∙ ap (times key) (each_append n 0 w place_in.ahead place_in.behind) ∙ times-append key (each_word n w 0 place_in.ahead) (each_word n w 0 place_in.behind) in
        omega (arith, split, may.missing, ap (times key) (entry_keys n w value place_in.ahead))

    -- the key is there with what its block has
    pub added_keyed : keyed n w' value' next ≡ finite.insert (keyed n w value f) key (value' block)
    added_keyed = ap (λ es. entries_map es) entries_now ∙ insert_between (entries_of n w value place_in.ahead) (entries_of n w value place_in.behind) key none_ahead (value' block) ∙ ap (λ m. finite.insert m key (value' block)) entries_before

  -- the tree's words stay
  pub added_tree : (k : ℕ) → 17 ≤ k → k < block_of n 0 → slice_index w' k ≡ slice_index w k
  added_tree k least most = linked.others k (inl (omega (arith, most))) (λ e. absurd (omega (arith, e, most, link_high may.least may.are may.within b))) (λ e. absurd (omega (arith, e, least, may.root)))

  -- and so do the root's, but for the size
  pub added_root : (k : ℕ) → k ≤ 16 → k ≢ size → slice_index w' k ≡ slice_index w k
  added_root k small ne = linked.others k (inl (omega (arith, small, pow_positive n))) (λ e. absurd (omega (arith, e, small, link_high may.least may.are may.within b, pow_positive n))) ne

-- the place before the first node of the key's bucket
abbrev pub at_front : {n size : ℕ} {w : List ℕ} {f : ℕ → List ℕ} {key : ℕ} → AreBuckets n size w f → bucket_of n key < buckets n → Between n f key (first_place n key w)
at_front {n} {size} {w} {f} {key} is within = record {
  front = [];
  back = f (bucket_of n key);
  blocks = refl;
  link_is = refl;
  node_is = chain_first n (head_of n (bucket_of n key)) 2 w (f (bucket_of n key)) (is.chains (bucket_of n key) within);
}
