-- A node fewer.
use Rattle.std.proofs.Common.{◌≡◌, ◌≢◌, inl, inr, ⊎_elim, ℕ, ◌+◌, ◌<◌, ◌≤◌, List, [], ◌∷◌, ◌++◌, length, sym, ◌∙◌, ap, subst, arith, length-append}
use Rattle.std.specs.Prelude.{slice_index}
use Rattle.std.specs.FinMap as finite
use Rattle.std.proofs.lemmas.Bool.{cases_eq}
use Rattle.rom_model.specs.Blocks.{block_of}
use Rattle.rom_model.specs.Chains.{times, Chain, each_word}
use Rattle.rom_model.specs.Links.{link_after}
use Rattle.rom_model.specs.Region.{buckets, bucket_of}
use Rattle.rom_model.proofs.Times.{times_here, times_more, times-append}
use Rattle.rom_model.proofs.Nodes.{pow_positive}
use Rattle.rom_model.proofs.Frames.{chain_same, each_same}
use Rattle.rom_model.proofs.Links.{chain_first, chain_moved, each_append}
use Rattle.rom_bucket.specs.Walk.{head_of}
use Rattle.rom_bucket.specs.Link.{IsNodeUnlinked}
use Rattle.rom_bucket.specs.Buckets.{blocks_of_buckets, with_chain, AreBuckets, There, entries_of, keyed}
use Rattle.rom_bucket.specs.declared.walk.Place.{Place}
use Rattle.rom_bucket.proofs.Entries.{entries_map, remove_between}
use Rattle.rom_bucket.proofs.Chained.{Cut, chain_here, chain_other}
use Rattle.rom_bucket.proofs.Keys.{entries_append, entries_same, in_all, single_in, around, whole, none_ahead, none_else, entries_here}
use Rattle.rom_bucket.proofs.Walking.{first_other}
use Rattle.rom_bucket.proofs.Places.{before_node, in_own, not_link, head_apart, link_high, elsewhere, behind_only, chain_behind, link_leads, relinked}

module _ {n size : ℕ} {w : List ℕ} {f : ℕ → List ℕ} {key : ℕ} {place : Place} (le : 4 ≤ n) (root : size ≤ 16) (is : AreBuckets n size w f) (within : bucket_of n key < buckets n) (t : There n w f key place) where
  abbrev own : ℕ
  own = bucket_of n key

  own_of : (c : ℕ) → times c (f own) ≡ times c t.front + times c (t.block ∷ t.back)
  own_of c = in_own le is within (before_node t) c

  pub size_some : 0 < slice_index w size
  size_some = omega (arith, is.len, positive (blocks_of_buckets n f) t.among)
    where
      positive : (bs : List ℕ) → 0 < times t.block bs → 0 < length bs
      positive [] some = absurd (omega (arith, some))
      positive (b ∷ bs) some = omega arith

  -- the link leads to the block, and the block to another
  pub link_differs : slice_index w place.link ≢ slice_index w (place.node + 2)
  link_differs e =
      let rest = chain_behind le is within (before_node t) in
      let none : times t.block t.back ≡ 0 = omega (arith, own_of t.block, single_in is own within t.block, times_here t.block t.back) in
      first_other n t.block t.back none (sym (chain_first n (block_of n t.block + 2) 2 w t.back rest.1) ∙ ap (λ a. slice_index w (a + 2)) (sym t.node_is) ∙ sym e ∙ link_leads le is within (before_node t) ∙ t.node_is)

  module _ {w' : List ℕ} (un : IsNodeUnlinked size place w w') where
    abbrev pub next : ℕ → List ℕ
    next = with_chain f own (t.front ++ t.back)

    abbrev place_in : Cut f own (buckets n) t.front t.back
    place_in = around is key within t.front t.block t.back t.blocks t.holds

    before : blocks_of_buckets n f ≡ place_in.ahead ++ t.block ∷ place_in.behind
    before = whole is key within t.front t.block t.back t.blocks t.holds

    after : blocks_of_buckets n next ≡ place_in.ahead ++ place_in.behind
    after = place_in.are next (λ j ne. chain_other f own j (t.front ++ t.back) ne) [] (chain_here f own (t.front ++ t.back))

    -- the nodes before and after
    pub parts : (ahead behind : List ℕ) × (blocks_of_buckets n f ≡ ahead ++ t.block ∷ behind) × (blocks_of_buckets n next ≡ ahead ++ behind)
    parts = (place_in.ahead, place_in.behind, before, after)

    pub one_node_fewer : (c : ℕ) → times c (blocks_of_buckets n f) ≡ times c (blocks_of_buckets n next) + times c (t.block ∷ [])
    one_node_fewer c = omega (arith, ap (times c) after, ap (times c) before, times-append c place_in.ahead (t.block ∷ place_in.behind), times-append c place_in.ahead place_in.behind)

    -- the nodes' words stay, but for the link
    stays : (c j : ℕ) → 0 < times c (blocks_of_buckets n f) → j < 4 → (j ≡ 2 → times c t.front ≡ 0) → slice_index w' (block_of n c + j) ≡ slice_index w (block_of n c + j)
    stays c j some lt beside = un.others (block_of n c + j) (not_link le is within (before_node t) c j lt (is.within c some).0 beside) (λ e. absurd (omega (arith, e, root, pow_positive n)))

    pub node_stays : (c j : ℕ) → 0 < times c (blocks_of_buckets n f) → j < 4 → j ≢ 2 → slice_index w' (block_of n c + j) ≡ slice_index w (block_of n c + j)
    node_stays c j some lt ne = stays c j some lt (λ e. absurd (ne e))

    -- and so do all words of the one that goes
    pub block_stays : (j : ℕ) → j < 4 → slice_index w' (block_of n t.block + j) ≡ slice_index w (block_of n t.block + j)
    block_stays j lt = stays t.block j t.among lt (λ two. omega (arith, own_of t.block, single_in is own within t.block, times_here t.block t.back))

    own_chain : Chain n w' (head_of n own) 2 (t.front ++ t.back)
    own_chain =
        let link : slice_index w' (link_after n (head_of n own) 2 t.front) ≡ slice_index w (block_of n t.block + 2) = ap (λ a. slice_index w' a) (sym t.link_is) ∙ un.link ∙ ap (λ a. slice_index w (a + 2)) t.node_is in
        relinked le is within (before_node t) w' t.back
        (λ a ne at. un.others a ne (⊎_elim (λ x e. absurd (omega (arith, x, e, root, pow_positive n))) (λ x e. absurd (omega (arith, x.2, e, root, pow_positive n))) at))
        (chain_moved n (block_of n t.block + 2) (link_after n (head_of n own) 2 t.front) 2 w w' t.back link
        (λ c some.
        let behind : 0 < times c (t.block ∷ t.back) = omega (arith, some, times_more c t.block t.back) in
        stays c 2 (in_all is own within c (omega (arith, own_of c, behind))) (omega arith) (λ e. behind_only le is within (before_node t) c behind))
        (chain_behind le is within (before_node t)).1)

    chains : (i : ℕ) → i < buckets n → Chain n w' (head_of n i) 2 (next i)
    chains i lt = elim (cases_eq i own) [
      | inl same ↦ subst (λ j. Chain n w' (head_of n j) 2 (next j)) (sym same) (subst (λ bs. Chain n w' (head_of n own) 2 bs) (sym (chain_here f own (t.front ++ t.back))) own_chain)
      | inr ne ↦
          subst (λ bs. Chain n w' (head_of n i) 2 bs) (sym (chain_other f own i (t.front ++ t.back) ne))
          (chain_same n (head_of n i) 2 w w' (f i) (un.others (head_of n i) (head_apart le is within (before_node t) i lt ne) (λ e. absurd (omega (arith, e, root, pow_positive n))))
          (λ c some. stays c 2 (in_all is i lt c some) (omega arith) (λ e. elsewhere le is within (before_node t) i c lt ne some)) (is.chains i lt))
    ]

    -- what stands in a bucket stood there before
    stood : (i c : ℕ) → 0 < times c (next i) → 0 < times c (f i)
    stood i c some = elim (cases_eq i own) [
      | inl same ↦ omega (arith, some, ap (λ j. times c (next j)) same, ap (times c) (chain_here f own (t.front ++ t.back)), times-append c t.front t.back, own_of c, times_more c t.block t.back, ap (λ j. times c (f j)) same)
      | inr ne ↦ omega (arith, some, ap (times c) (chain_other f own i (t.front ++ t.back) ne))
    ]

    pub stood_all : (c : ℕ) → 0 < times c (blocks_of_buckets n next) → 0 < times c (blocks_of_buckets n f)
    stood_all c some = omega (arith, some, one_node_fewer c)

    -- the bucket's keys, without this one
    pub own_keys : each_word n w' 0 (next own) ≡ each_word n w 0 t.front ++ each_word n w 0 t.back
    own_keys = each_same n 0 w w' (next own) (λ c some. node_stays c 0 (in_all is own within c (stood own c some)) (omega arith) (omega arith)) ∙ ap (each_word n w 0) (chain_here f own (t.front ++ t.back)) ∙ each_append n 0 w t.front t.back

    pub other_keys : (i : ℕ) → i < buckets n → i ≢ own → each_word n w' 0 (next i) ≡ each_word n w 0 (f i)
    other_keys i lt ne = each_same n 0 w w' (next i) (λ c some. node_stays c 0 (in_all is i lt c (stood i c some)) (omega arith) (omega arith)) ∙ ap (each_word n w 0) (chain_other f own i (t.front ++ t.back) ne)

    keys_differ : (i j : ℕ) → i < buckets n → times j (each_word n w' 0 (next i)) ≤ 1
    keys_differ i j lt = elim (cases_eq i own) [
      | inl same ↦
          let was = ap (each_word n w 0) t.blocks ∙ each_append n 0 w t.front (t.block ∷ t.back) in
          omega (
            arith,
            ap (λ x. times j (each_word n w' 0 (next x))) same,
            ap (times j) own_keys,
            ap (times j) was,
            times-append j (each_word n w 0 t.front) (each_word n w 0 t.back),
            times-append j (each_word n w 0 t.front) (each_word n w 0 (t.block ∷ t.back)),
            times_more j (slice_index w (block_of n t.block + 0)) (each_word n w 0 t.back),
            is.keys_differ own j within,
          )
      | inr ne ↦ omega (arith, ap (times j) (other_keys i lt ne), is.keys_differ i j lt)
    ]

    pub removed_buckets : AreBuckets n size w' next
    removed_buckets = record {
      chains = chains;
      len = omega (arith, un.len, is.len, ap length before, ap length after, length-append place_in.ahead place_in.behind, length-append place_in.ahead (t.block ∷ place_in.behind));
      own_bucket = λ i c lt some. ap (bucket_of n) (node_stays c 0 (in_all is i lt c (stood i c some)) (omega arith) (omega arith)) ∙ is.own_bucket i c lt (stood i c some);
      keys_differ = keys_differ;
      different = λ c. omega (arith, one_node_fewer c, is.different c);
      within = λ c some. is.within c (stood_all c some);
    }

    -- the key is gone
    pub removed_keyed : {V : Type 0} (value value' : ℕ → V) → ((c : ℕ) → 0 < times c (blocks_of_buckets n next) → value' c ≡ value c) → keyed n w' value' next ≡ finite.remove (keyed n w value f) key
    removed_keyed value value' same =
        ap (λ es. entries_map es)
        (entries_same n w w' value value' (blocks_of_buckets n next) (λ c some. node_stays c 0 (stood_all c some) (omega arith) (omega arith)) same
        ∙ ap (entries_of n w value) after ∙ entries_append n w value place_in.ahead place_in.behind)
        ∙ remove_between (entries_of n w value place_in.ahead) (entries_of n w value place_in.behind) key (none_ahead is key within t.front t.block t.back t.blocks t.holds value) (value t.block) (none_else is key within t.front t.block t.back t.blocks t.holds value)
        ∙ ap (λ m. finite.remove m key) (entries_here is key within t.front t.block t.back t.blocks t.holds value)

    -- the words of the tree and of the root stay, but for the size
    pub removed_low : (k : ℕ) → k < block_of n 0 → k ≢ size → slice_index w' k ≡ slice_index w k
    removed_low k lt ne = un.others k (λ e. absurd (omega (arith, e, lt, link_high le is within (before_node t)))) ne
