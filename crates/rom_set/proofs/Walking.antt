-- A walk along the set's chain, step by step.
use Rattle.std.proofs.Common.{◌≡◌, ℕ, ◌+◌, ◌-◌, ◌*◌, ◌^◌, ◌<◌, ◌≤◌, Bool, false, List, [], ◌∷◌, ◌++◌, length, refl, sym, ◌∙◌, ap, subst, arith, length-append, append_assoc}
use Rattle.std.specs.Prelude.{slice_index, ◌==◌, if◌then◌else◌}
use Rattle.std.specs.Ordering.{nat_cmp}
use Rattle.std.specs.FinSet as set
use Rattle.std.proofs.lemmas.Bool.Decides.{nat_tests}
use Rattle.std.proofs.lemmas.List.{length-map}
use Rattle.rom_model.specs.Blocks.{block_of}
use Rattle.rom_model.specs.Chains.{times, Chain, each_word}
use Rattle.rom_model.specs.Rising.{IsRising, AreBelow, StartsAbove, starts_with}
use Rattle.rom_model.specs.Region.{IsSet}
use Rattle.rom_model.specs.Walks.{keys_below}
use Rattle.rom_model.proofs.Times.{times_here, times-append}
use Rattle.rom_model.specs.Links.{first_of, AreNodes}
use Rattle.rom_set.specs.Walk.{HasWalkedSet, IsPlaceInSet}
use Rattle.rom_model.proofs.Links.{link_push, chain_back, chain_first, each_append}
use Rattle.rom_model.proofs.Rising.{below_push, rising_back}
use Rattle.rom_set.proofs.Passed.{passed}

-- the first block of a chain that is not empty
pub record First (n node : ℕ) (back : List ℕ) : Type 0 where
  pub block : ℕ
  pub behind : List ℕ
  pub are : back ≡ block ∷ behind
  pub here : node ≡ block_of n block

first_node : (n node : ℕ) (back : List ℕ) → node ≡ first_of n back → (node ≡ 0 → ⊥) → First n node back
first_node n node [] is some = absurd (some is)
first_node n node (b ∷ bs) is some = record { block = b; behind = bs; are = refl; here = is }

no_node : (n node : ℕ) (back : List ℕ) → node ≡ first_of n back → node ≡ 0 → back ≡ []
no_node n node [] is none = refl
no_node n node (b ∷ bs) is none = absurd (omega (arith, is, none))

positive : (m : ℕ) → 0 < m → (m == 0) ≡ false
positive m some = grind (arith, nat_tests)

-- what is left of a walk falls with each step, since the keys rise
falls_at : (n key b next : ℕ) (w behind : List ℕ) → Chain n w (block_of n b + 1) 1 behind → IsRising (each_word n w 0 (b ∷ behind)) → slice_index w (block_of n b) < key → next ≡ slice_index w (block_of n b + 1)
    → (if next == 0 then 0 else key - slice_index w next) < key - slice_index w (block_of n b)
falls_at n key b next w [] chain rising lt is =
    let none : next ≡ 0 = is ∙ chain in
    omega (arith, lt, ap (λ x. if x == 0 then 0 else key - slice_index w x) none)
falls_at n key b next w (c ∷ cs) chain rising lt is =
    let here : next ≡ block_of n c = is ∙ chain.0 in
    let test : (next == 0) ≡ false = positive next (omega (arith, here)) in
    let plain : block_of n c + 0 ≡ next = omega (arith, here) in
    let flat : block_of n b + 0 ≡ block_of n b = omega arith in
    omega (arith, lt, rising.0, ap (λ k. slice_index w k) plain, ap (λ k. slice_index w k) flat, ap (λ t. if t then 0 else key - slice_index w next) test)

-- at the chain's head
pub at_head : {n : ℕ} {w bs : List ℕ} {members : set.FinSet nat_cmp} (key node : ℕ) → IsSet n w bs members → node ≡ slice_index w 6 → HasWalkedSet n w bs key 6 node
at_head {n} {w} {bs} key node is load = record {
  front = [];
  back = bs;
  blocks_are = refl;
  below = tt;
  link_is = refl;
  node_is = load ∙ chain_first n 6 1 w bs is.chain;
}

module _ {n : ℕ} {w bs : List ℕ} {members : set.FinSet nat_cmp} {key link node : ℕ} (is : IsSet n w bs members) (x : HasWalkedSet n w bs key link node) where
  words : each_word n w 0 bs ≡ each_word n w 0 x.front ++ each_word n w 0 x.back
  words = ap (λ cs. each_word n w 0 cs) x.blocks_are ∙ each_append n 0 w x.front x.back

  rising : IsRising (each_word n w 0 x.front ++ each_word n w 0 x.back)
  rising = subst IsRising words is.rising

  -- the keys that were passed are among the set's keys below the key
  pub front_few : length x.front ≤ keys_below members key
  front_few =
      let some = passed key (each_word n w 0 x.front) (each_word n w 0 x.back) rising x.below in
      let same : set.from_list {R = nat_cmp} (each_word n w 0 x.front ++ each_word n w 0 x.back) ≡ members = ap (λ ks. set.from_list ks) (sym words) ∙ is.keys_are in
      omega (arith, some, length-map x.front (λ b. slice_index w (block_of n b + 0)), ap (λ m. keys_below m key) same)

  pub front_fits : AreNodes n bs → length x.front ≤ 2 ^ n
  front_fits are = omega (arith, are.few, ap length x.blocks_are, length-append x.front x.back)

  -- at the chain's end
  pub at_end : (found : Bool) → found ≡ false → node ≡ 0 → IsPlaceInSet n w bs key (record { link = link; node = node; found = found })
  at_end found missing none =
      let over = no_node n node x.back x.node_is none in
      record {
        walked = x;
        above = subst (λ cs. StartsAbove key (each_word n w 0 cs)) (sym over) tt;
        found = missing ∙ ap (λ cs. starts_with key (each_word n w 0 cs)) (sym over);
      }

  module _ (some : node ≡ 0 → ⊥) where
    first : First n node x.back
    first = first_node n node x.back x.node_is some

    blocks : bs ≡ x.front ++ first.block ∷ first.behind
    blocks = x.blocks_are ∙ ap (λ cs. x.front ++ cs) first.are

    flat : block_of n first.block + 0 ≡ node
    flat = omega (arith, first.here)

    behind : Chain n w (block_of n first.block + 1) 1 first.behind
    behind = (chain_back n 6 1 w x.front (first.block ∷ first.behind) (subst (λ cs. Chain n w 6 1 cs) blocks is.chain)).1

    pub node_within : AreNodes n bs → node + 4 ≤ 16 + 6 * 2 ^ n
    node_within are = omega (arith, first.here, are.within first.block (omega (arith, ap (times first.block) blocks, times-append first.block x.front (first.block ∷ first.behind), times_here first.block first.behind)))

    -- at a node whose key is not below the key
    pub at_node : (found : Bool) → found ≡ (slice_index w node == key) → key ≤ slice_index w node → IsPlaceInSet n w bs key (record { link = link; node = node; found = found })
    at_node found tells high = record {
      walked = x;
      above = subst (λ cs. StartsAbove key (each_word n w 0 cs)) (sym first.are) (subst (λ k. key ≤ slice_index w k) (sym flat) high);
      found = tells ∙ ap (λ k. slice_index w k == key) (sym flat) ∙ ap (λ cs. starts_with key (each_word n w 0 cs)) (sym first.are);
    }

    -- one step more
    pub step : (next : ℕ) → slice_index w node < key → next ≡ slice_index w (node + 1) → (y : HasWalkedSet n w bs key (node + 1) next) × (length y.front ≡ length x.front + 1)
    step next lt load = (
      record {
        front = x.front ++ first.block ∷ [];
        back = first.behind;
        blocks_are = blocks ∙ sym (append_assoc x.front (first.block ∷ []) first.behind);
        below = subst (AreBelow key) (sym (each_append n 0 w x.front (first.block ∷ []))) (below_push key (slice_index w (block_of n first.block + 0)) (each_word n w 0 x.front) x.below (subst (λ k. slice_index w k < key) (sym flat) lt));
        link_is = let more : node + 1 ≡ block_of n first.block + 1 = omega (arith, first.here) in more ∙ sym (link_push n 6 1 x.front first.block);
        node_is = load ∙ ap (λ k. slice_index w (k + 1)) first.here ∙ chain_first n (block_of n first.block + 1) 1 w first.behind behind;
      },
      length-append x.front (first.block ∷ []),
    )

    pub falls : (next : ℕ) → slice_index w node < key → next ≡ slice_index w (node + 1) → (if next == 0 then 0 else key - slice_index w next) < (if node == 0 then 0 else key - slice_index w node)
    falls next lt load =
        let rises : IsRising (each_word n w 0 (first.block ∷ first.behind)) = subst (λ cs. IsRising (each_word n w 0 cs)) first.are (rising_back (each_word n w 0 x.front) (each_word n w 0 x.back) rising) in
        let less = falls_at n key first.block next w first.behind behind rises (subst (λ k. slice_index w k < key) first.here lt) (load ∙ ap (λ k. slice_index w (k + 1)) first.here) in
        let test : (node == 0) ≡ false = positive node (omega (arith, first.here)) in
        omega (arith, less, ap (λ k. slice_index w k) first.here, ap (λ t. if t then 0 else key - slice_index w node) test)
