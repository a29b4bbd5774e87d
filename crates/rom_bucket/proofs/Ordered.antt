-- Buckets whose keys rise: what a walk tells of a key, and that they rise after a change.
use Rattle.std.proofs.Common.{◌≡◌, inl, inr, ℕ, ◌+◌, ◌<◌, ◌≤◌, true, false, List, [], ◌∷◌, ◌++◌, length, refl, sym, ◌∙◌, ap, subst, arith}
use Rattle.std.specs.Prelude.{slice_index, ◌==◌, ◌&&◌, nat_lt, Option, is_some, if◌then◌else◌}
use Rattle.std.specs.Ordering.{nat_cmp}
use Rattle.std.specs.FinMap as finite
use Rattle.std.proofs.lemmas.Bool.{cases_eq}
use Rattle.std.proofs.lemmas.Bool.Decides.{nat_tests}
use Rattle.rom_model.specs.Blocks.{block_of}
use Rattle.rom_model.specs.Chains.{times, each_word}
use Rattle.rom_model.specs.Rising.{IsRising, AreBelow, StartsAbove, starts_with}
use Rattle.rom_model.specs.Links.{first_of}
use Rattle.rom_model.specs.Region.{buckets, bucket_of}
use Rattle.rom_model.proofs.Times.{times_here, times_away, times_one, times-append, times_bucket}
use Rattle.rom_model.proofs.Frames.{each_same}
use Rattle.rom_model.proofs.Links.{each_append}
use Rattle.rom_bucket.specs.Link.{IsNodeLinked, IsNodeUnlinked}
use Rattle.rom_bucket.specs.Buckets.{blocks_of_buckets, AreBuckets, Between, There, keyed}
use Rattle.rom_model.specs.Walks.{keys_under, keys_over, end_loads}
use Rattle.rom_bucket.specs.Rising.{KeysRise, IsSought, last_load}
use Rattle.rom_bucket.specs.declared.node.Node.{Node}
use Rattle.rom_bucket.specs.declared.walk.Place.{Place}
use Rattle.rom_bucket.specs.declared.rising.Sought.{Sought}
use Rattle.rom_model.proofs.Rising.{rising_back, rising_between, rising_without, above_next, none_below, none_above}
use Rattle.rom_bucket.proofs.Keys.{passing_few, get_nowhere, get_here, in_all, placed_in}
use Rattle.rom_bucket.proofs.Added as added
use Rattle.rom_bucket.proofs.Removed as removed

-- they rise where the keys stay
pub rising_same : (n : ℕ) (w w' : List ℕ) (f : ℕ → List ℕ) → ((c : ℕ) → 0 < times c (blocks_of_buckets n f) → slice_index w' (block_of n c + 0) ≡ slice_index w (block_of n c + 0)) → KeysRise n w f → KeysRise n w' f
rising_same n w w' f keys rising i lt = subst IsRising (sym (each_same n 0 w w' (f i) (λ c some. keys c (omega (arith, some, times_bucket f (buckets n) i c lt))))) (rising i lt)

-- the first block has the key
record Starts (n : ℕ) (w : List ℕ) (key : ℕ) (back : List ℕ) : Type 0 where
  block : ℕ
  behind : List ℕ
  are : back ≡ block ∷ behind
  holds : slice_index w (block_of n block + 0) ≡ key

starts : (n : ℕ) (w : List ℕ) (key : ℕ) (back : List ℕ) → starts_with key (each_word n w 0 back) ≡ true → Starts n w key back
starts n w key [] has = absurd (let never : false ≡ true = has in cc)
starts n w key (b ∷ bs) has = record { block = b; behind = bs; are = refl; holds = same (slice_index w (block_of n b + 0)) has }
  where
    same : (x : ℕ) → (x == key) ≡ true → x ≡ key
    same x test = grind (arith, nat_tests)

one_most : (bs : List ℕ) → last_load bs ≤ 1
one_most [] = omega arith
one_most (b ∷ bs) = omega arith

-- a block whose key was passed has a key below
below_in : (n : ℕ) (w : List ℕ) (key : ℕ) (front : List ℕ) → AreBelow key (each_word n w 0 front) → (c : ℕ) → 0 < times c front → slice_index w (block_of n c + 0) < key
below_in n w key [] all c some = absurd (omega (arith, some))
below_in n w key (b ∷ front) all c some = elim (cases_eq b c) [
  | inl same ↦ subst (λ x. slice_index w (block_of n x + 0) < key) same all.0
  | inr other ↦ below_in n w key front all.1 c (omega (arith, some, times_away c b front other))
]

-- a walk stops where it did where the keys stay
abbrev pub sought_same : {n key : ℕ} {w blocks : List ℕ} {sought : Sought} (w' : List ℕ) → ((c : ℕ) → 0 < times c blocks → slice_index w' (block_of n c + 0) ≡ slice_index w (block_of n c + 0)) → IsSought n w blocks key sought → IsSought n w' blocks key sought
sought_same {n} {key} {w} w' keys at =
    let one = each_same n 0 w w' at.walked.front (λ c some. keys c (omega (arith, some, ap (times c) at.walked.blocks_are, times-append c at.walked.front at.walked.back))) in
    let two = each_same n 0 w w' at.walked.back (λ c some. keys c (omega (arith, some, ap (times c) at.walked.blocks_are, times-append c at.walked.front at.walked.back))) in
    record {
      walked = record {
        front = at.walked.front;
        back = at.walked.back;
        blocks_are = at.walked.blocks_are;
        below = subst (AreBelow key) (sym one) at.walked.below;
        link_is = at.walked.link_is;
        node_is = at.walked.node_is;
      };
      above = subst (StartsAbove key) (sym two) at.above;
      found = at.found ∙ ap (starts_with key) (sym two);
    }

module _ {n size : ℕ} {w : List ℕ} {f : ℕ → List ℕ} {key : ℕ} {sought : Sought} (is : AreBuckets n size w f) (rising : KeysRise n w f) (lt : bucket_of n key < buckets n) (at : IsSought n w (f (bucket_of n key)) key sought) where
  abbrev own : ℕ
  own = bucket_of n key

  abbrev pub between : Between n f key sought.place
  between = record { front = at.walked.front; back = at.walked.back; blocks = at.walked.blocks_are; link_is = at.walked.link_is; node_is = at.walked.node_is }

  keys_are : each_word n w 0 (f own) ≡ each_word n w 0 at.walked.front ++ each_word n w 0 at.walked.back
  keys_are = ap (each_word n w 0) at.walked.blocks_are ∙ each_append n 0 w at.walked.front at.walked.back

  rise : IsRising (each_word n w 0 at.walked.front ++ each_word n w 0 at.walked.back)
  rise = subst IsRising keys_are (rising own lt)

  -- where the key was not found, the node at which the walk stopped has a greater one
  module _ (missing : sought.found ≡ false) where
    pub over : StartsAbove (key + 1) (each_word n w 0 at.walked.back)
    over = above_next key (each_word n w 0 at.walked.back) at.above (sym at.found ∙ missing)

    -- it is not in its bucket
    pub none_there : times key (each_word n w 0 (f own)) ≡ 0
    none_there = omega (
      arith,
      ap (times key) keys_are,
      times-append key (each_word n w 0 at.walked.front) (each_word n w 0 at.walked.back),
      none_below key (each_word n w 0 at.walked.front) at.walked.below,
      none_above key (each_word n w 0 at.walked.back) over (rising_back (each_word n w 0 at.walked.front) (each_word n w 0 at.walked.back) rise),
    )

  -- where it was found, it has a node there
  pub there : sought.found ≡ true → There n w f key sought.place
  there has =
      let s = starts n w key at.walked.back (sym at.found ∙ has) in
      let are : f own ≡ at.walked.front ++ s.block ∷ s.behind = at.walked.blocks_are ∙ ap (λ bs. at.walked.front ++ bs) s.are in
      let stands : 0 < times s.block (f own) = omega (arith, ap (times s.block) are, times-append s.block at.walked.front (s.block ∷ s.behind), times_here s.block s.behind) in
      record {
        front = at.walked.front;
        block = s.block;
        back = s.behind;
        blocks = are;
        holds = s.holds;
        node_is = at.walked.node_is ∙ ap (first_of n) s.are;
        link_is = at.walked.link_is;
        within = placed_in is own lt s.block stands;
        among = in_all is own lt s.block stands;
      }

  own_at : (b : ℕ) → 0 < times b (f own) → bucket_of n (slice_index w (block_of n b + 0)) ≡ own
  own_at b some = is.own_bucket own b lt some

  module _ {V : Type 0} (value : ℕ → V) where
    abbrev kept : finite.FinMap nat_cmp V
    kept = keyed n w value f

    -- the keys that were passed are no more than those of the bucket below this one
    pub passed_few : length at.walked.front ≤ keys_under n kept key
    passed_few = passing_few is value (λ x. (bucket_of n x == own) && nat_lt x key) own lt [] at.walked.front at.walked.back at.walked.blocks_are
        (λ b some. passes b (own_at b (omega (arith, ap (times b) at.walked.blocks_are, times-append b at.walked.front at.walked.back, some))) (below_in n w key at.walked.front at.walked.below b some))
      where
        passes : (b : ℕ) → bucket_of n (slice_index w (block_of n b + 0)) ≡ own → slice_index w (block_of n b + 0) < key → ((bucket_of n (slice_index w (block_of n b + 0)) == own) && nat_lt (slice_index w (block_of n b + 0)) key) ≡ true
        passes b e less = grind (arith, nat_tests)

    -- a node at which the walk stopped for another key has a key of the bucket above this one
    stopped_few : (back : List ℕ) → at.walked.back ≡ back → StartsAbove (key + 1) (each_word n w 0 back) → last_load back ≤ keys_over n kept key
    stopped_few [] are above = omega arith
    stopped_few (c ∷ cs) are above =
        let all : f own ≡ at.walked.front ++ c ∷ cs = at.walked.blocks_are ∙ ap (λ bs. at.walked.front ++ bs) are in
        passing_few is value (λ x. (bucket_of n x == own) && nat_lt key x) own lt at.walked.front (c ∷ []) cs all
        (λ b some.
        let same : c ≡ b = sym (times_one b c some) in
        subst (λ d. ((bucket_of n (slice_index w (block_of n d + 0)) == own) && nat_lt key (slice_index w (block_of n d + 0))) ≡ true) same
        (passes c (own_at c (omega (arith, ap (times c) all, times-append c at.walked.front (c ∷ cs), times_here c cs))) (omega (arith, above))))
      where
        passes : (b : ℕ) → bucket_of n (slice_index w (block_of n b + 0)) ≡ own → key < slice_index w (block_of n b + 0) → ((bucket_of n (slice_index w (block_of n b + 0)) == own) && nat_lt key (slice_index w (block_of n b + 0))) ≡ true
        passes b e less = grind (arith, nat_tests)

    loads_with : Option V → ℕ
    loads_with o = if is_some o then 2 else (if nat_lt 0 (keys_over n kept key) then 1 else 0)

    -- what the walk loaded where it stopped, where it did not find the key
    pub end_missing : sought.found ≡ false → last_load at.walked.back ≤ end_loads n kept key
    unfolding loads_with
    end_missing missing = omega (
      arith,
      one_most at.walked.back,
      over_loads (last_load at.walked.back) (keys_over n kept key) (one_most at.walked.back) (stopped_few at.walked.back refl (over missing)),
      ap loads_with (get_nowhere is value key (none_there missing)),
    )
      where
        over_loads : (a m : ℕ) → a ≤ 1 → a ≤ m → a ≤ (if nat_lt 0 m then 1 else 0)
        over_loads a m small le = grind (arith, nat_tests)

    -- and where it did, with the load of what the key has
    pub end_found : sought.found ≡ true → last_load at.walked.back + 1 ≡ end_loads n kept key
    unfolding loads_with
    end_found has =
        let s = starts n w key at.walked.back (sym at.found ∙ has) in
        let t = there has in
        omega (arith, ap last_load s.are, ap loads_with (get_here is key lt t.front t.block t.back t.blocks t.holds value))

-- they rise with a node more, at the place where the walk stopped
module _ {n size : ℕ} {w w' : List ℕ} {f : ℕ → List ℕ} {node : Node} {block : ℕ} {sought : Sought} (may : added.MayAdd n size w f node.key block) (rising : KeysRise n w f) (at : IsSought n w (f (bucket_of n node.key)) node.key sought) (missing : sought.found ≡ false)
    (linked : IsNodeLinked size sought.place (block_of n block) node w w') where
  abbrev spot : Between n f node.key sought.place
  spot = between may.are rising may.within at

  pub added_rising : KeysRise n w' (added.next may spot linked)
  added_rising i less = elim (cases_eq i (bucket_of n node.key)) [
    | inl same ↦
        let own : IsRising (each_word n w 0 at.walked.front ++ node.key ∷ each_word n w 0 at.walked.back) = rising_between node.key (each_word n w 0 at.walked.front) (each_word n w 0 at.walked.back) at.walked.below (over may.are rising may.within at missing) (rise may.are rising may.within at) in
        subst (λ j. IsRising (each_word n w' 0 (added.next may spot linked j))) (sym same) (subst IsRising (sym (added.own_keys may spot linked)) own)
    | inr ne ↦ subst IsRising (sym (added.other_keys may spot linked i less ne)) (rising i less)
  ]

-- and with a node fewer
module _ {n size : ℕ} {w w' : List ℕ} {f : ℕ → List ℕ} {key : ℕ} {place : Place} (le : 4 ≤ n) (root : size ≤ 16) (is : AreBuckets n size w f) (within : bucket_of n key < buckets n) (t : There n w f key place) (un : IsNodeUnlinked size place w w') (rising : KeysRise n w f) where
  pub removed_rising : KeysRise n w' (removed.next le root is within t un)
  removed_rising i less = elim (cases_eq i (bucket_of n key)) [
    | inl same ↦
        let word = slice_index w (block_of n t.block + 0) in
        let was : IsRising (each_word n w 0 t.front ++ word ∷ each_word n w 0 t.back) = subst IsRising (ap (each_word n w 0) t.blocks ∙ each_append n 0 w t.front (t.block ∷ t.back)) (rising (bucket_of n key) within) in
        let own = rising_without word (each_word n w 0 t.front) (each_word n w 0 t.back) was in
        subst (λ j. IsRising (each_word n w' 0 (removed.next le root is within t un j))) (sym same) (subst IsRising (sym (removed.own_keys le root is within t un)) own)
    | inr ne ↦ subst IsRising (sym (removed.other_keys le root is within t un i less ne)) (rising i less)
  ]
