-- The region once all chains are sorted and the version is told.
use Rattle.std.proofs.Common.{◌≡◌, ◌≢◌, inl, inr, ⊎_elim, ℕ, zero, suc, ◌+◌, ◌-◌, ◌/◌, ◌^◌, ◌<◌, ◌≤◌, List, [], ◌∷◌, ◌++◌, length, refl, sym, ◌∙◌, ap, subst, arith, length-set, get_or-set_other}
use Rattle.std.specs.Prelude.{slice_index, slice_set, IsPermutation, ◌&&◌, ◌||◌, ◌==◌, nat_le, nat_lt}
use Rattle.std.specs.FinMap as finite
use Rattle.std.proofs.lemmas.Bool.{cases_eq, cases_lt}
use Rattle.std.proofs.lemmas.Grind.{get_or-set_at}
use Rattle.std.proofs.lemmas.List.Sorted.{IsPermutation-map, length_permutation}
use Rattle.rom_model.specs.State.{State}
use Rattle.rom_model.specs.Blocks.{block_of}
use Rattle.rom_model.specs.Chains.{times, each_word}
use Rattle.rom_model.specs.Rising.{IsRising}
use Rattle.rom_model.specs.Region.{Chains, buckets, bucket_of, map_blocks, element_blocks, taken_by, IsMap, IsShape, IsVersion, IsRegion, IsOldRegion, ChangesPart}
use Rattle.rom_model.proofs.Times.{times_here, times_away, times_more, times-append}
use Rattle.rom_model.proofs.Members.{words_same}
use Rattle.rom_model.proofs.Nodes.{pow_positive}
use Rattle.rom_model.proofs.Frames.{chain_same, each_same, pairs_same, queue_frame, set_frame}
use Rattle.rom_model.proofs.Contents.{keys_once}
use Rattle.rom_model.proofs.Room.{times_members, tree_stays}
use Rattle.rom_heap.specs.Node.{head_of}
use Rattle.rom_heap.specs.Renewed.{KeepsElements}
use Rattle.rom_heap.proofs.Heads.{table_ends}
use Rattle.rom_heap.proofs.Permuted.{times_permuted, all_permuted}
use Rattle.rom_heap.proofs.Pairs.{pairs_permuted}
use Rattle.rom_heap.proofs.Renewing.{Renewing, chain_of, times_now, in_map, word_stays}

-- the first blocks
first_blocks : ℕ → List ℕ
first_blocks zero = []
first_blocks (suc m) = m ∷ first_blocks m

has_first : (m b : ℕ) → b < m → 0 < times b (first_blocks m)
unfolding first_blocks
has_first zero b lt = absurd (omega arith)
has_first (suc m) b lt = elim (cases_eq m b) [
  | inl same ↦ subst (λ a. 0 < times a (m ∷ first_blocks m)) same (omega (arith, times_here m (first_blocks m)))
  | inr other ↦ omega (arith, times_more b m (first_blocks m), has_first m b (omega (arith, lt, other)))
]

none_first : (m b : ℕ) → m ≤ b → times b (first_blocks m) ≡ 0
unfolding first_blocks
none_first zero b le = refl
none_first (suc m) b le = omega (arith, times_away b m (first_blocks m) (λ e. absurd (omega (arith, e, le))), none_first m b (omega (arith, le)))

module _ {n : ℕ} {old mid : List ℕ} {p : Chains} {s : State} {count : ℕ} (le : 4 ≤ n) (is : IsOldRegion n old p s count) (x : Renewing n (buckets n) p old mid) {new : List ℕ} (told : new ≡ slice_set mid 1 2) where
  abbrev pub next : Chains
  next = record { queue = p.queue; set = p.set; bucket = chain_of le is x }

  other_word : (k : ℕ) → k ≢ 1 → slice_index new k ≡ slice_index mid k
  other_word k ne = ap (λ w. slice_index w k) told ∙ get_or-set_other mid 1 k 2 0 ne

  long : length new ≡ length old
  long = ap length told ∙ length-set mid 1 2 ∙ x.as_long

  pub keeps : KeepsElements n p old new
  keeps = record { as_long = long; others = λ k ne outside away. other_word k ne ∙ x.others k outside away }

  word_same : (b j : ℕ) → 0 < times b (map_blocks n p) → j < 4 → j ≢ 2 → slice_index new (block_of n b + j) ≡ slice_index old (block_of n b + j)
  word_same b j some lt ne = other_word (block_of n b + j) (omega arith) ∙ word_stays le is x b j some lt ne

  -- the blocks whose words may differ
  touched : List ℕ
  touched = first_blocks (2 ^ (n - 4)) ++ map_blocks n p

  times_touched : (b : ℕ) → times b touched ≡ times b (first_blocks (2 ^ (n - 4))) + times b (map_blocks n p)
  unfolding touched
  times_touched b = times-append b (first_blocks (2 ^ (n - 4))) (map_blocks n p)

  root : (k : ℕ) → k ≤ 16 → k ≢ 1 → slice_index new k ≡ slice_index old k
  root k small ne = keeps.others k ne (inl (omega (arith, small, pow_positive n))) (λ b some e. absurd (omega (arith, e, small)))

  tree : (k : ℕ) → 17 ≤ k → k < block_of n 0 → slice_index new k ≡ slice_index old k
  tree k least most = keeps.others k (omega (arith, least)) (inl (omega (arith, most))) (λ b some e. absurd (omega (arith, e, most)))

  part : ChangesPart n 1 2 touched old new
  part = record {
    as_long = long;
    root = λ k small apart. root k small (λ one. ⊎_elim (λ lt. absurd (omega (arith, one, lt))) (λ ge. absurd (omega (arith, one, ge))) apart);
    others = λ k late outside. keeps.others k (omega (arith, late))
        (elim (cases_lt k (head_of n (buckets n))) [
          | inl early ↦
              let b = (k - block_of n 0) / 4 in
              let inside : b < 2 ^ (n - 4) = omega (arith, table_ends n le, early, late) in
              absurd (outside b (omega (arith, times_touched b, has_first (2 ^ (n - 4)) b inside)) (omega (arith, late), omega (arith, late)))
          | inr behind ↦ inr behind
        ])
        (λ b some e. outside b (omega (arith, times_touched b, some)) (omega (arith, e), omega (arith, e)));
  }

  -- the blocks of the queue and the set are not among them
  away : (b : ℕ) → 0 < times b p.queue + times b p.set → times b touched ≡ 0
  away b some = omega (
    arith,
    some,
    times_touched b,
    times_members n p b,
    is.shape.different b,
    none_first (2 ^ (n - 4)) b (is.shape.within b (omega (arith, some, times_members n p b))).0,
  )

  moved : IsPermutation (map_blocks n p) (map_blocks n next)
  moved = all_permuted p.bucket (chain_of le is x) (buckets n) (λ j lt. (x.each j).same)

  times_map : (b : ℕ) → times b (map_blocks n next) ≡ times b (map_blocks n p)
  times_map b = times_permuted b (map_blocks n p) (map_blocks n next) moved

  times_elements : (b : ℕ) → times b (element_blocks n next) ≡ times b (element_blocks n p)
  times_elements b = omega (arith, times_members n next b, times_members n p b, times_map b)

  same_taken : (i : ℕ) → taken_by n (element_blocks n p) i ≡ taken_by n (element_blocks n next) i
  same_taken i = ap (λ t. (i == 16) || (nat_le (2 ^ n) i && nat_lt 0 t)) (sym (times_elements (i - 2 ^ n)))

  map_is : IsMap n new next s.pairs
  map_is = record {
    chains = λ j lt. chain_same n (head_of n j) 2 mid new (chain_of le is x j) (other_word (head_of n j) (omega arith)) (λ c some. other_word (block_of n c + 2) (omega arith)) ((x.each j).chain lt);
    len = root 9 (omega arith) (omega arith) ∙ is.shape.map.len ∙ sym (length_permutation (map_blocks n p) (map_blocks n next) moved);
    own_bucket = λ j b lt some. ap (bucket_of n) (word_same b 0 (in_map le is x j b lt some) (omega arith) (omega arith)) ∙ is.shape.map.own_bucket j b lt (omega (arith, some, times_now le is x j b));
    pairs_are =
        ap (λ es. finite.from_entries es) (pairs_same n old new (map_blocks n next) (λ c j ne lt some. word_same c j (omega (arith, some, times_map c)) lt ne))
        ∙ pairs_permuted n old (map_blocks n p) (map_blocks n next) times_map
        (λ key. times_permuted key (each_word n old 0 (map_blocks n p)) (each_word n old 0 (map_blocks n next)) (IsPermutation-map (λ b. slice_index old (block_of n b + 0)) (map_blocks n p) (map_blocks n next) moved))
        (λ key. (keys_once n old p.bucket (buckets n) is.shape.map.own_bucket is.version.keys_differ key).0)
        ∙ is.shape.map.pairs_are;
  }

  shape_is : IsShape n new next s count
  shape_is = record {
    as_long = long ∙ is.shape.as_long;
    root = record {
      kind = root 0 (omega arith) (omega arith) ∙ is.shape.root.kind;
      count_is = root 2 (omega arith) (omega arith) ∙ is.shape.root.count_is;
      count_fits = is.shape.root.count_fits;
      table = root 8 (omega arith) (omega arith) ∙ is.shape.root.table;
      zeros = λ k least most. root k most (omega (arith, least)) ∙ is.shape.root.zeros k least most;
    };
    queue = queue_frame n 1 2 touched old new part p.queue s.queue (inr (omega arith)) (λ c some. away c (omega (arith, some))) is.shape.queue;
    set = set_frame n 1 2 touched old new part p.set s.members (inr (omega arith)) (λ c some. away c (omega (arith, some))) is.shape.set;
    map = map_is;
    different = λ b. omega (arith, times_elements b, is.shape.different b);
    within = λ b some. is.shape.within b (omega (arith, some, times_elements b));
    tree = words_same n (taken_by n (element_blocks n p)) (taken_by n (element_blocks n next)) new same_taken (tree_stays n (taken_by n (element_blocks n p)) old new tree is.shape.tree);
  }

  version_is : IsVersion n new next count
  version_is = record {
    version = ap (λ w. slice_index w 1) told ∙ get_or-set_at mid 1 1 2 0 refl (omega (arith, x.as_long, is.shape.as_long));
    rising = λ j lt. subst IsRising (sym (each_same n 0 mid new (chain_of le is x j) (λ c some. other_word (block_of n c + 0) (omega arith)))) ((x.each j).rising lt);
    stamps = λ b some. let here : 0 < times b (map_blocks n p) = omega (arith, some, times_map b) in omega (arith, word_same b 3 here (omega arith) (omega arith), is.version.fourth b here);
  }

  pub renewed : IsRegion n new next s count
  renewed = record { shape = shape_is; version = version_is }
