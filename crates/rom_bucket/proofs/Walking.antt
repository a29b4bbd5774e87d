-- A walk along a bucket's chain, step by step.
use Rattle.std.proofs.Common.{◌≡◌, ◌≢◌, ℕ, zero, suc, ◌+◌, ◌*◌, ◌^◌, ◌<◌, ◌≤◌, false, List, [], ◌∷◌, ◌++◌, length, get_or, refl, sym, ◌∙◌, ap, subst, arith, length-append, append_assoc, append-nil}
use Rattle.std.specs.Prelude.{slice_index, ◌==◌, if◌then◌else◌}
use Rattle.std.proofs.lemmas.Bool.Decides.{nat_tests}
use Rattle.rom_model.specs.Blocks.{block_of}
use Rattle.rom_model.specs.Chains.{times, Chain, each_word}
use Rattle.rom_model.specs.Links.{link_after, first_of}
use Rattle.rom_model.specs.Region.{bucket_of}
use Rattle.rom_model.proofs.Times.{times_here, times_away, times_more, times-append}
use Rattle.rom_model.proofs.Links.{link_push, chain_back, chain_first, each_append}
use Rattle.rom_bucket.specs.Walk.{head_of, IsBucket, StartsWithKey, HasWalkedBucket, IsPlaceInBucket}

-- the first block of a chain that is not empty
pub record First (n node : ℕ) (back : List ℕ) : Type 0 where
  pub block : ℕ
  pub behind : List ℕ
  pub are : back ≡ block ∷ behind
  pub here : node ≡ block_of n block

pub first_node : (n node : ℕ) (back : List ℕ) → node ≡ first_of n back → (node ≡ 0 → ⊥) → First n node back
first_node n node [] is some = absurd (some is)
first_node n node (b ∷ bs) is some = record { block = b; behind = bs; are = refl; here = is }

-- a block that is not in the chain is not its first
pub first_other : (n block : ℕ) (back : List ℕ) → times block back ≡ 0 → first_of n back ≢ block_of n block
first_other n block [] none e = absurd (omega (arith, e))
first_other n block (b ∷ bs) none e =
    let same : b ≡ block = omega (arith, e) in
    absurd (omega (arith, none, ap (λ c. times c (b ∷ bs)) same, times_here b bs))

pub no_node : (n node : ℕ) (back : List ℕ) → node ≡ first_of n back → node ≡ 0 → back ≡ []
no_node n node [] is none = refl
no_node n node (b ∷ bs) is none = absurd (omega (arith, is, none))

-- how many nodes are left from one on, counted up to a number
pub left : List ℕ → ℕ → ℕ → ℕ
left w zero node = 0
left w (suc most) node = if node == 0 then 0 else left w most (slice_index w (node + 2)) + 1

positive : (m : ℕ) → 0 < m → (m == 0) ≡ false
positive m some = grind (arith, nat_tests)

left_is : (n l : ℕ) (w bs : List ℕ) (most node : ℕ) → Chain n w l 2 bs → node ≡ slice_index w l → length bs ≤ most → left w most node ≡ length bs
unfolding left
left_is n l w [] zero node chain load few = refl
left_is n l w [] (suc most) node chain load few = ap (λ x. if x == 0 then 0 else left w most (slice_index w (x + 2)) + 1) (load ∙ chain)
left_is n l w (b ∷ bs) zero node chain load few = absurd (omega arith)
left_is n l w (b ∷ bs) (suc most) node chain load few =
    let here : node ≡ block_of n b = load ∙ chain.0 in
    let test : (node == 0) ≡ false = positive node (omega (arith, here)) in
    let rest = left_is n (block_of n b + 2) w bs most (slice_index w (node + 2)) chain.1 (ap (λ k. slice_index w (k + 2)) here) (omega (arith, few)) in
    ap (λ t. if t then 0 else left w most (slice_index w (node + 2)) + 1) test ∙ (let more : left w most (slice_index w (node + 2)) + 1 ≡ length (b ∷ bs) = omega (arith, rest) in more)

-- A way along a chain came to that node, which is 0 at its end: the blocks before it, and those from it on.
pub record Along (n l : ℕ) (w bs : List ℕ) (node : ℕ) : Type 0 where
  pub front : List ℕ
  pub back : List ℕ
  pub chain : Chain n w l 2 bs
  pub are : bs ≡ front ++ back
  pub node_is : node ≡ first_of n back

module _ {n l : ℕ} {w bs : List ℕ} {node : ℕ} (x : Along n l w bs node) where
  pub whole : node ≡ 0 → bs ≡ x.front
  whole none = x.are ∙ ap (λ cs. x.front ++ cs) (no_node n node x.back x.node_is none) ∙ append-nil x.front

  -- at a node
  module _ (some : node ≡ 0 → ⊥) where
    pub first : First n node x.back
    first = first_node n node x.back x.node_is some

    pub blocks : bs ≡ x.front ++ first.block ∷ first.behind
    blocks = x.are ∙ ap (λ cs. x.front ++ cs) first.are

    pub node_within : ((b : ℕ) → 0 < times b bs → b < 2 ^ n) → node + 4 ≤ 16 + 6 * 2 ^ n
    node_within within = omega (arith, first.here, within first.block (omega (arith, ap (times first.block) blocks, times-append first.block x.front (first.block ∷ first.behind), times_here first.block first.behind)))

    at_node : Chain n w (link_after n l 2 x.front) 2 (first.block ∷ first.behind)
    at_node = chain_back n l 2 w x.front (first.block ∷ first.behind) (subst (λ cs. Chain n w l 2 cs) blocks x.chain)

    -- one node further
    pub further : (next : ℕ) → next ≡ slice_index w (node + 2) → Along n l w bs next
    further next load = record {
      front = x.front ++ first.block ∷ [];
      back = first.behind;
      chain = x.chain;
      are = blocks ∙ sym (append_assoc x.front (first.block ∷ []) first.behind);
      node_is = load ∙ ap (λ k. slice_index w (k + 2)) first.here ∙ chain_first n (block_of n first.block + 2) 2 w first.behind at_node.1;
    }

    pub further-front : (next : ℕ) (load : next ≡ slice_index w (node + 2)) → (further next load).front ≡ x.front ++ first.block ∷ []
    unfolding further
    further-front next load = refl

    pub falls : (most next : ℕ) → length bs ≤ most → next ≡ slice_index w (node + 2) → left w most next < left w most node
    falls most next few load =
        let long = ap length blocks ∙ length-append x.front (first.block ∷ first.behind) in
        let one = left_is n (link_after n l 2 x.front) w (first.block ∷ first.behind) most node at_node (first.here ∙ sym at_node.0) (omega (arith, few, long)) in
        let two = left_is n (block_of n first.block + 2) w first.behind most next at_node.1 (load ∙ ap (λ k. slice_index w (k + 2)) first.here) (omega (arith, few, long)) in
        omega (arith, one, two)

-- the walk to a key
pub at_head : {n : ℕ} {w bs : List ℕ} (key link node : ℕ) → IsBucket n w (bucket_of n key) bs → link ≡ head_of n (bucket_of n key) → node ≡ slice_index w link → HasWalkedBucket n w bs key link node
at_head {n} {w} {bs} key link node is here load = record {
  front = [];
  back = bs;
  blocks_are = refl;
  passed = refl;
  link_is = here;
  node_is = load ∙ ap (λ k. slice_index w k) here ∙ chain_first n (head_of n (bucket_of n key)) 2 w bs is;
}

module _ {n : ℕ} {w bs : List ℕ} {key link node : ℕ} (is : IsBucket n w (bucket_of n key) bs) (x : HasWalkedBucket n w bs key link node) where
  abbrev pub along : Along n (head_of n (bucket_of n key)) w bs node
  along = record { front = x.front; back = x.back; chain = is; are = x.blocks_are; node_is = x.node_is }

  pub front_few : length x.front ≤ length bs
  front_few = omega (arith, ap length x.blocks_are, length-append x.front x.back)

  -- at the chain's end
  pub at_end : node ≡ 0 → IsPlaceInBucket n w bs key (record { link = link; node = node })
  at_end none = record {
    walked = x;
    stops = subst (λ cs. StartsWithKey key (each_word n w 0 cs)) (sym (no_node n node x.back x.node_is none)) tt;
  }

  module _ (some : node ≡ 0 → ⊥) where
    abbrev here : First n node x.back
    here = first_node n node x.back x.node_is some

    plain : block_of n here.block + 0 ≡ node
    plain = omega (arith, here.here)

    pub front_fewer : length x.front + 1 ≤ length bs
    front_fewer = omega (arith, ap length x.blocks_are, length-append x.front x.back, ap length here.are)

    -- at the key's node
    pub at_key : slice_index w node ≡ key → IsPlaceInBucket n w bs key (record { link = link; node = node })
    at_key same = record {
      walked = x;
      stops = subst (λ cs. StartsWithKey key (each_word n w 0 cs)) (sym here.are) (ap (λ k. slice_index w k) plain ∙ same);
    }

    -- one step more
    pub step : (next : ℕ) → slice_index w node ≢ key → next ≡ slice_index w (node + 2) → (y : HasWalkedBucket n w bs key (node + 2) next) × (length y.front ≡ length x.front + 1)
    unfolding further first
    step next other load =
        let word = slice_index w (block_of n here.block + 0) in
        let away : word ≢ key = λ e. other (ap (λ k. slice_index w k) (sym plain) ∙ e) in
        let one : times key (word ∷ []) ≡ 0 = times_away key word [] away in
        let sum : times key (each_word n w 0 x.front) + times key (word ∷ []) ≡ 0 = omega (arith, x.passed, one) in
        let y = further along some next load in (
          record {
            front = y.front;
            back = y.back;
            blocks_are = y.are;
            passed = ap (times key) (each_append n 0 w x.front (here.block ∷ [])) ∙ times-append key (each_word n w 0 x.front) (word ∷ []) ∙ sum;
            link_is = let more : node + 2 ≡ block_of n here.block + 2 = omega (arith, here.here) in more ∙ sym (link_push n (head_of n (bucket_of n key)) 2 x.front here.block);
            node_is = y.node_is;
          },
          length-append x.front (here.block ∷ []),
        )

tail : List ℕ → List ℕ
tail [] = []
tail (x ∷ xs) = xs

-- blocks that were passed, and have not got the key, are no more than those before one that has it
pub not_further : (n key : ℕ) (w passed rest front : List ℕ) (block : ℕ) (back : List ℕ) → front ++ block ∷ back ≡ passed ++ rest → times key (each_word n w 0 passed) ≡ 0 → slice_index w (block_of n block + 0) ≡ key → length passed ≤ length front
unfolding tail
not_further n key w [] rest front block back same none holds = omega arith
not_further n key w (x ∷ xs) rest [] block back same none holds =
    let word = slice_index w (block_of n x + 0) in
    let first : block ≡ x = ap (λ bs. get_or bs 0 0) same in
    let is : word ≡ key = ap (λ b. slice_index w (block_of n b + 0)) (sym first) ∙ holds in
    absurd (omega (arith, none, ap (λ v. times v (word ∷ each_word n w 0 xs)) is, times_here word (each_word n w 0 xs)))
not_further n key w (x ∷ xs) rest (f ∷ front) block back same none holds =
    let word = slice_index w (block_of n x + 0) in
    omega (arith, not_further n key w xs rest front block back (ap tail same) (omega (arith, none, times_more key word (each_word n w 0 xs))) holds)
