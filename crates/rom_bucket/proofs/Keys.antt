-- The keys of the blocks in the chains, and what they have there.
use Rattle.std.proofs.Common.{◌≡◌, inl, inr, ℕ, zero, suc, ◌+◌, ◌-◌, ◌^◌, ◌<◌, ◌≤◌, Bool, true, false, cond, List, [], ◌∷◌, ◌++◌, length, refl, sym, ◌∙◌, ap, subst, arith, append-nil}
use Rattle.std.specs.Prelude.{slice_index, ◌==◌, None, Some, is_some, filter}
use Rattle.std.specs.Ordering.{nat_cmp}
use Rattle.std.specs.Cmp.{nat_cmp_total}
use Rattle.std.specs.List.{sum_by}
use Rattle.std.specs.FinMap as finite
use Rattle.std.proofs.lemmas.Bool.{cases_eq, cases_lt}
use Rattle.std.proofs.lemmas.Bool.Decides.{nat_tests}
use Rattle.std.proofs.lemmas.List.Sums.{sum_by-cons, sum_by-append}
use Rattle.rom_model.specs.Blocks.{block_of}
use Rattle.rom_model.specs.Chains.{times, each_word}
use Rattle.rom_model.specs.Region.{buckets, bucket_of, all_of}
use Rattle.rom_model.proofs.Times.{times_here, times_away, times_more, times-append, times_bucket}
use Rattle.rom_model.proofs.Nodes.{pow_positive}
use Rattle.rom_model.proofs.Counting.{at_most}
use Rattle.rom_model.proofs.Links.{each_append}
use Rattle.rom_model.proofs.Frames.{chain_same, each_same}
use Rattle.rom_model.proofs.Contents.{each_in, keys_once}
use Rattle.rom_bucket.specs.Walk.{head_of, HoldsBucket}
use Rattle.rom_bucket.specs.Buckets.{blocks_of_buckets, AreBuckets, entries_of, keyed, keys_beside}
use Rattle.rom_bucket.proofs.Entries.{firsts, entries_map, find_there, get_at, get_absent, insert_again, count_keys}
use Rattle.rom_bucket.proofs.Chained.{Cut, cut}

module _ {V : Type 0} (n : ℕ) (w : List ℕ) (value : ℕ → V) where
  pub entry_keys : (bs : List ℕ) → firsts (entries_of n w value bs) ≡ each_word n w 0 bs
  entry_keys [] = refl
  entry_keys (b ∷ bs) = ap (λ xs. slice_index w (block_of n b + 0) ∷ xs) (entry_keys bs)

  pub entries_append : (bs cs : List ℕ) → entries_of n w value (bs ++ cs) ≡ entries_of n w value bs ++ entries_of n w value cs
  entries_append [] cs = refl
  entries_append (b ∷ bs) cs = ap (λ es. (slice_index w (block_of n b + 0), value b) ∷ es) (entries_append bs cs)

  -- entries whose keys pass a test are all counted
  pub all_counted : (p : ℕ → Bool) (bs : List ℕ) → ((b : ℕ) → 0 < times b bs → p (slice_index w (block_of n b + 0)) ≡ true) → sum_by (λ e. cond (p e.0) 1 0) (entries_of n w value bs) ≡ length bs
  all_counted p [] all = refl
  all_counted p (b ∷ bs) all =
      let rest = all_counted p bs (λ c some. all c (omega (arith, some, times_more c b bs))) in
      sum_by-cons (λ e. cond (p e.0) 1 0) (slice_index w (block_of n b + 0), value b) (entries_of n w value bs) ∙ one (p (slice_index w (block_of n b + 0))) (all b (omega (arith, times_here b bs))) ∙ ap suc rest
    where
      one : (t : Bool) → t ≡ true → cond t 1 0 + sum_by (λ e. cond (p e.0) 1 0) (entries_of n w value bs) ≡ suc (sum_by (λ e. cond (p e.0) 1 0) (entries_of n w value bs))
      one true is = omega arith
      one false is = absurd (let never : false ≡ true = is in cc)

  -- entries whose keys differ are as many as the map has keys
  pub len_entries : (bs : List ℕ) → ((key : ℕ) → times key (each_word n w 0 bs) ≤ 1) → finite.len (entries_map (entries_of n w value bs)) ≡ length bs
  len_entries [] once = finite.len-empty nat_cmp V
  len_entries (b ∷ bs) once =
      let here = slice_index w (block_of n b + 0) in
      let m = entries_map (entries_of n w value bs) in
      let rest = len_entries bs (λ key. omega (arith, once key, times_more key here (each_word n w 0 bs))) in
      let gone : times here (each_word n w 0 bs) ≡ 0 = omega (arith, once here, times_here here (each_word n w 0 bs)) in
      let none : finite.get m here ≡ None = get_absent (entries_of n w value bs) here (ap (times here) (entry_keys bs) ∙ gone) in
      finite.len-insert nat_cmp_total m here (value b) ∙ ap (λ o. cond (is_some o) (finite.len m) (finite.len m + 1)) none ∙ ap (λ a. a + 1) rest ∙ (let more : length bs + 1 ≡ length (b ∷ bs) = omega arith in more)

-- entries stay where the keys do and what they have
pub entries_same : {V : Type 0} (n : ℕ) (w w' : List ℕ) (value value' : ℕ → V) (bs : List ℕ) → ((c : ℕ) → 0 < times c bs → slice_index w' (block_of n c + 0) ≡ slice_index w (block_of n c + 0)) → ((c : ℕ) → 0 < times c bs → value' c ≡ value c)
    → entries_of n w' value' bs ≡ entries_of n w value bs
entries_same n w w' value value' [] keys values = refl
entries_same n w w' value value' (b ∷ bs) keys values =
    let key = keys b (omega (arith, times_here b bs)) in
    let has = values b (omega (arith, times_here b bs)) in
    let rest = entries_same n w w' value value' bs (λ c some. keys c (omega (arith, some, times_more c b bs))) (λ c some. values c (omega (arith, some, times_more c b bs))) in
    λ i. (key i, has i) ∷ rest i

-- a block's word is among the words
pub each_has : (n : ℕ) (w : List ℕ) (j : ℕ) (bs : List ℕ) (b : ℕ) → 0 < times b bs → 0 < times (slice_index w (block_of n b + j)) (each_word n w j bs)
each_has n w j [] b some = absurd (omega (arith, some))
each_has n w j (a ∷ bs) b some = elim (cases_eq a b) [
  | inl same ↦
      let here : slice_index w (block_of n a + j) ≡ slice_index w (block_of n b + j) = ap (λ c. slice_index w (block_of n c + j)) same in
      subst (λ x. 0 < times (slice_index w (block_of n b + j)) (x ∷ each_word n w j bs)) (sym here) (omega (arith, times_here (slice_index w (block_of n b + j)) (each_word n w j bs)))
  | inr other ↦ omega (arith, each_has n w j bs b (omega (arith, some, times_away b a bs other)), times_more (slice_index w (block_of n b + j)) (slice_index w (block_of n a + j)) (each_word n w j bs))
]

-- a block of some bucket is one of its bucket
pub in_bucket : (f : ℕ → List ℕ) (m b : ℕ) → 0 < times b (all_of f m) → (i : ℕ) × (i < m) × (0 < times b (f i))
in_bucket f zero b some = absurd (omega (arith, some))
in_bucket f (suc m) b some = elim (cases_lt 0 (times b (f m))) [
  | inl here ↦ (m, omega arith, here)
  | inr away ↦ let x = in_bucket f m b (omega (arith, some, away, times-append b (all_of f m) (f m))) in (x.0, omega (arith, x.1), x.2)
]

-- the chains stay where their links, keys and heads do
pub buckets_same : {n size : ℕ} {w : List ℕ} {f : ℕ → List ℕ} (w' : List ℕ) → ((i : ℕ) → i < buckets n → slice_index w' (head_of n i) ≡ slice_index w (head_of n i)) → slice_index w' size ≡ slice_index w size
    → ((c : ℕ) → 0 < times c (blocks_of_buckets n f) → slice_index w' (block_of n c + 0) ≡ slice_index w (block_of n c + 0)) → ((c : ℕ) → 0 < times c (blocks_of_buckets n f) → slice_index w' (block_of n c + 2) ≡ slice_index w (block_of n c + 2))
    → AreBuckets n size w f → AreBuckets n size w' f
buckets_same {n} {size} {w} {f} w' heads len keys links is = record {
  chains = λ i lt. chain_same n (head_of n i) 2 w w' (f i) (heads i lt) (λ c some. links c (omega (arith, some, times_bucket f (buckets n) i c lt))) (is.chains i lt);
  len = len ∙ is.len;
  own_bucket = λ i b lt some. ap (bucket_of n) (keys b (omega (arith, some, times_bucket f (buckets n) i b lt))) ∙ is.own_bucket i b lt some;
  keys_differ = λ i key lt. subst (λ ks. times key ks ≤ 1) (sym (each_same n 0 w w' (f i) (λ c some. keys c (omega (arith, some, times_bucket f (buckets n) i c lt))))) (is.keys_differ i key lt);
  different = is.different;
  within = is.within;
}

module _ {n size : ℕ} {w : List ℕ} {f : ℕ → List ℕ} (is : AreBuckets n size w f) where
  -- no key stands twice
  pub keys_single : (key : ℕ) → times key (each_word n w 0 (blocks_of_buckets n f)) ≤ 1
  keys_single key = (keys_once n w f (buckets n) is.own_bucket is.keys_differ key).0

  -- a key that its bucket has not is nowhere
  pub nowhere : (key : ℕ) → times key (each_word n w 0 (f (bucket_of n key))) ≡ 0 → times key (each_word n w 0 (blocks_of_buckets n f)) ≡ 0
  nowhere key none = elim (cases_lt 0 (times key (each_word n w 0 (blocks_of_buckets n f)))) [
    | inl some ↦
        let x = each_in n w 0 key (blocks_of_buckets n f) some in
        let at = in_bucket f (buckets n) x.0 x.1 in
        let own : bucket_of n key ≡ at.0 = ap (bucket_of n) (sym x.2) ∙ is.own_bucket at.0 x.0 at.1 at.2 in
        let has = each_has n w 0 (f at.0) x.0 at.2 in
        absurd (omega (arith, has, ap (λ y. times y (each_word n w 0 (f at.0))) x.2, ap (λ i. times key (each_word n w 0 (f i))) own, none))
    | inr gone ↦ omega (arith, gone)
  ]

  -- the table's blocks are not among them
  pub few : length (blocks_of_buckets n f) < 2 ^ n
  few = omega (arith, pow_positive n, pow_positive (n - 4), at_most (2 ^ (n - 4)) (2 ^ n - 2 ^ (n - 4)) (blocks_of_buckets n f) is.different (λ b some. let at = is.within b some in (at.0, omega (arith, at.1))))

  module _ (i : ℕ) (lt : i < buckets n) where
    pub in_all : (c : ℕ) → 0 < times c (f i) → 0 < times c (blocks_of_buckets n f)
    in_all c some = omega (arith, some, times_bucket f (buckets n) i c lt)

    pub single_in : (c : ℕ) → times c (f i) ≤ 1
    single_in c = omega (arith, is.different c, times_bucket f (buckets n) i c lt)

    pub placed_in : (c : ℕ) → 0 < times c (f i) → (2 ^ (n - 4) ≤ c) × (c < 2 ^ n)
    placed_in c some = is.within c (in_all c some)

    pub holds_bucket : HoldsBucket n i w
    holds_bucket = record {
      blocks = f i;
      are = is.chains i lt;
      within = λ c some. (placed_in c some).1;
      few = at_most 0 (2 ^ n) (f i) single_in (λ c some. let at = placed_in c some in (omega arith, omega (arith, at.1)));
    }

  module _ {V : Type 0} (value : ℕ → V) where
    pub once : (key : ℕ) → times key (firsts (entries_of n w value (blocks_of_buckets n f))) ≤ 1
    once key = subst (λ xs. times key xs ≤ 1) (sym (entry_keys n w value (blocks_of_buckets n f))) (keys_single key)

    pub get_nowhere : (key : ℕ) → times key (each_word n w 0 (f (bucket_of n key))) ≡ 0 → finite.get (keyed n w value f) key ≡ None
    get_nowhere key none = get_absent (entries_of n w value (blocks_of_buckets n f)) key (ap (times key) (entry_keys n w value (blocks_of_buckets n f)) ∙ nowhere key none)

    -- a key that has nothing stands nowhere
    pub none_stands : (key : ℕ) → finite.get (keyed n w value f) key ≡ None → times key (each_word n w 0 (blocks_of_buckets n f)) ≡ 0
    none_stands key none = elim (cases_lt 0 (times key (each_word n w 0 (blocks_of_buckets n f)))) [
      | inl some ↦ absurd (find_there key (entries_of n w value (blocks_of_buckets n f)) (omega (arith, some, ap (times key) (entry_keys n w value (blocks_of_buckets n f)))) (sym (finite.get-from_entries nat_cmp_total (entries_of n w value (blocks_of_buckets n f)) key) ∙ none))
      | inr gone ↦ omega (arith, gone)
    ]

    -- blocks of one bucket that stand together and pass a test are no more than the keys that do
    pub passing_few : (p : ℕ → Bool) (i : ℕ) → i < buckets n → (front mid back : List ℕ) → f i ≡ front ++ (mid ++ back) → ((b : ℕ) → 0 < times b mid → p (slice_index w (block_of n b + 0)) ≡ true) → length mid ≤ length (filter p (finite.keys (keyed n w value f)))
    passing_few p i lt front mid back are passes =
        let one : ℕ × V → ℕ = λ e. cond (p e.0) 1 0 in
        let c = cut f i (buckets n) front back lt in
        let whole : blocks_of_buckets n f ≡ c.ahead ++ (mid ++ c.behind) = c.are f (λ j ne. refl) mid are in
        let all = all_counted n w value p mid passes in
        let first = ap (λ bs. sum_by one (entries_of n w value bs)) whole ∙ ap (sum_by one) (entries_append n w value c.ahead (mid ++ c.behind)) ∙ sum_by-append one (entries_of n w value c.ahead) (entries_of n w value (mid ++ c.behind)) in
        let second = ap (sum_by one) (entries_append n w value mid c.behind) ∙ sum_by-append one (entries_of n w value mid) (entries_of n w value c.behind) in
        let total = count_keys p (entries_of n w value (blocks_of_buckets n f)) once in
        omega (arith, all, first, second, total)

    -- the keys of a bucket
    pub beside : (key : ℕ) → bucket_of n key < buckets n → length (f (bucket_of n key)) ≤ keys_beside n (keyed n w value f) key
    beside key lt = passing_few (λ x. bucket_of n x == bucket_of n key) (bucket_of n key) lt [] (f (bucket_of n key)) [] (sym (append-nil (f (bucket_of n key)))) (λ b some. passes b (is.own_bucket (bucket_of n key) b lt some))
      where
        passes : (b : ℕ) → bucket_of n (slice_index w (block_of n b + 0)) ≡ bucket_of n key → (bucket_of n (slice_index w (block_of n b + 0)) == bucket_of n key) ≡ true
        passes b e = grind (arith, nat_tests)

    pub many : finite.len (keyed n w value f) ≡ length (blocks_of_buckets n f)
    many = len_entries n w value (blocks_of_buckets n f) keys_single

  -- a block of a bucket that has the key
  module _ (key : ℕ) (lt : bucket_of n key < buckets n) (front : List ℕ) (block : ℕ) (back : List ℕ) (blocks : f (bucket_of n key) ≡ front ++ block ∷ back) (holds : slice_index w (block_of n block + 0) ≡ key) where
    pub around : Cut f (bucket_of n key) (buckets n) front back
    around = cut f (bucket_of n key) (buckets n) front back lt

    pub whole : blocks_of_buckets n f ≡ around.ahead ++ block ∷ around.behind
    whole = around.are f (λ j ne. refl) (block ∷ []) blocks

    pub counted : (c : ℕ) → times c (blocks_of_buckets n f) ≡ times c around.ahead + times c (block ∷ around.behind)
    counted c = ap (times c) whole ∙ times-append c around.ahead (block ∷ around.behind)

    alone : times key (each_word n w 0 around.ahead) + times key (each_word n w 0 around.behind) ≡ 0
    alone =
        let word = slice_index w (block_of n block + 0) in
        let split = ap (λ bs. times key (each_word n w 0 bs)) whole ∙ ap (times key) (each_append n 0 w around.ahead (block ∷ around.behind)) ∙ times-append key (each_word n w 0 around.ahead) (word ∷ each_word n w 0 around.behind) in
        omega (arith, split, keys_single key, times_here key (each_word n w 0 around.behind), ap (λ x. times key (x ∷ each_word n w 0 around.behind)) holds)

    module _ {V : Type 0} (value : ℕ → V) where
      pub none_ahead : times key (firsts (entries_of n w value around.ahead)) ≡ 0
      none_ahead = omega (arith, alone, ap (times key) (entry_keys n w value around.ahead))

      pub none_else : times key (firsts (entries_of n w value around.ahead ++ entries_of n w value around.behind)) ≡ 0
      none_else = ap (λ es. times key (firsts es)) (sym (entries_append n w value around.ahead around.behind)) ∙ ap (times key) (entry_keys n w value (around.ahead ++ around.behind) ∙ each_append n 0 w around.ahead around.behind)
          ∙ times-append key (each_word n w 0 around.ahead) (each_word n w 0 around.behind) ∙ alone

      pub entries_here : entries_map (entries_of n w value around.ahead ++ (key, value block) ∷ entries_of n w value around.behind) ≡ keyed n w value f
      entries_here =
          ap (λ x. entries_map (entries_of n w value around.ahead ++ (x, value block) ∷ entries_of n w value around.behind)) (sym holds)
          ∙ ap (λ es. entries_map es) (sym (ap (entries_of n w value) whole ∙ entries_append n w value around.ahead (block ∷ around.behind)))

      pub get_here : finite.get (keyed n w value f) key ≡ Some (value block)
      get_here = ap (λ m. finite.get m key) (sym entries_here) ∙ get_at (entries_of n w value around.ahead) (entries_of n w value around.behind) key none_ahead (value block)

      -- the key has something else, and each other key what it had
      pub again : (w' : List ℕ) (value' : ℕ → V) → ((c : ℕ) → 0 < times c (blocks_of_buckets n f) → slice_index w' (block_of n c + 0) ≡ slice_index w (block_of n c + 0)) → ((c : ℕ) → 0 < times c (blocks_of_buckets n f) → (c ≡ block → ⊥) → value' c ≡ value c)
          → keyed n w' value' f ≡ finite.insert (keyed n w value f) key (value' block)
      again w' value' keys values =
          let in_ahead : (c : ℕ) → 0 < times c around.ahead → 0 < times c (blocks_of_buckets n f) = λ c some. omega (arith, some, counted c) in
          let in_behind : (c : ℕ) → 0 < times c around.behind → 0 < times c (blocks_of_buckets n f) = λ c some. omega (arith, some, counted c, times_more c block around.behind) in
          let not_ahead : (c : ℕ) → 0 < times c around.ahead → c ≡ block → ⊥ = λ c some e. absurd (omega (arith, some, ap (λ x. times x around.ahead) e, counted block, is.different block, times_here block around.behind)) in
          let not_behind : (c : ℕ) → 0 < times c around.behind → c ≡ block → ⊥ = λ c some e. absurd (omega (arith, some, ap (λ x. times x around.behind) e, counted block, is.different block, times_here block around.behind)) in
          let one = entries_same n w w' value value' around.ahead (λ c some. keys c (in_ahead c some)) (λ c some. values c (in_ahead c some) (not_ahead c some)) in
          let two = entries_same n w w' value value' around.behind (λ c some. keys c (in_behind c some)) (λ c some. values c (in_behind c some) (not_behind c some)) in
          let here : slice_index w' (block_of n block + 0) ≡ key = keys block (omega (arith, counted block, times_here block around.behind)) ∙ holds in
          ap (λ es. entries_map es) (ap (entries_of n w' value') whole ∙ entries_append n w' value' around.ahead (block ∷ around.behind) ∙ (λ i. one i ++ (here i, value' block) ∷ two i))
          ∙ insert_again (entries_of n w value around.ahead) (entries_of n w value around.behind) key none_ahead (value block) (value' block)
          ∙ ap (λ m. finite.insert m key (value' block)) entries_here
