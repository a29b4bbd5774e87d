-- Blocks of two units as the taken blocks.
use Rattle.std.proofs.Common.{◌≡◌, ◌≢◌, inl, inr, ℕ, zero, suc, ◌+◌, ◌-◌, ◌*◌, ◌^◌, ◌<◌, ◌≤◌, Bool, true, false, List, [], ◌∷◌, length, refl, sym, ◌∙◌, ap, subst, arith}
use Rattle.std.specs.Prelude.{◌==◌, ◌&&◌, ◌||◌, not, nat_lt, nat_le}
use Rattle.std.proofs.lemmas.Bool.{cases_eq, cases_lt}
use Rattle.std.proofs.lemmas.Bool.Decides.{nat_tests}
use Rattle.rom_model.specs.Blocks.{IsOrder, IsNode, up, IsFree, NoneFree, IsDisjoint, IsLowest, AreWords, taking, giving, block_at}
use Rattle.rom_model.specs.Chains.{times}
use Rattle.rom_model.proofs.Times.{times_here, times_away}
use Rattle.rom_model.proofs.Nodes.{node_even, half_even, up_least, up_up, pow_positive}
use Rattle.rom_model.proofs.Members.{words_same}
use Rattle.rom_model.proofs.Counting.{covers, lacks}
use Rattle.rom_order_region.specs.Nodes.{node_at, AreNodesApart}
use Rattle.rom_order_region.proofs.Frame.{half_pow}
use Rattle.rom_order_region.specs.Region.{taken_pairs}
use Rattle.rom_order_region.proofs.Tested.{both_false, most_false, most_true, some_false, some_true}

module _ (n : ℕ) (bs : List ℕ) where
  pub pair_taken : (i : ℕ) → 2 ^ (n - 1) ≤ i → 0 < times (i - 2 ^ (n - 1)) bs → taken_pairs n bs i ≡ true
  pair_taken i le some = ap (λ b. b && nat_lt 0 (times (i - 2 ^ (n - 1)) bs)) (most_true (2 ^ (n - 1)) i le) ∙ some_true (times (i - 2 ^ (n - 1)) bs) some

  pub pair_below : (i : ℕ) → i < 2 ^ (n - 1) → taken_pairs n bs i ≡ false
  pair_below i lt = ap (λ b. b && nat_lt 0 (times (i - 2 ^ (n - 1)) bs)) (most_false (2 ^ (n - 1)) i lt)

  pub pair_absent : (i : ℕ) → times (i - 2 ^ (n - 1)) bs ≡ 0 → taken_pairs n bs i ≡ false
  pair_absent i none = both_false (nat_le (2 ^ (n - 1)) i) (nat_lt 0 (times (i - 2 ^ (n - 1)) bs)) (some_false (times (i - 2 ^ (n - 1)) bs) none)

  pub pair_cases : (i : ℕ) → taken_pairs n bs i ≡ true → (2 ^ (n - 1) ≤ i) × (0 < times (i - 2 ^ (n - 1)) bs)
  pair_cases i is = elim (cases_lt i (2 ^ (n - 1))) [
    | inl lt ↦ absurd (let none : taken_pairs n bs i ≡ false = pair_below i lt in cc)
    | inr ge ↦ elim (cases_lt 0 (times (i - 2 ^ (n - 1)) bs)) [
      | inl some ↦ (ge, some)
      | inr gone ↦ absurd (let none : taken_pairs n bs i ≡ false = pair_absent i (omega arith) in cc)
    ]
  ]

-- a node of a pair
pair_node : (n b : ℕ) → IsOrder n → b < 2 ^ (n - 1) → IsNode (n - 1) (2 ^ (n - 1) + b)
pair_node n b order lt = record { least = omega arith; most = omega arith }

never : (t : Bool) → (t ≡ true → ⊥) → t ≡ false
never true not_true = absurd (not_true refl)
never false not_true = refl

module _ {n : ℕ} (bs : List ℕ) (order : IsOrder n) (apart : AreNodesApart n bs) where
  -- the blocks are disjoint
  pub pairs_disjoint : IsDisjoint n (taken_pairs n bs)
  pairs_disjoint = record {
    nodes = λ i is.
        let c = pair_cases n bs i is in
        (n - 1, 1, omega (arith, order.least), record { least = c.0; most = omega (arith, c.0, apart.within (i - 2 ^ (n - 1)) c.1) });
    apart = λ i k is.
        let c = pair_cases n bs i is in
        pair_below n bs (up (suc k) i) (omega (arith, up_least k i, apart.within (i - 2 ^ (n - 1)) c.1, c.0, pow_positive (n - 1)));
  }

  -- a block that is not among them is free
  pub pair_free : (b : ℕ) → b < 2 ^ (n - 1) → times b bs ≡ 0 → IsFree n (taken_pairs n bs) 1 (2 ^ (n - 1) + b)
  pair_free b lt none u k unit e = never (taken_pairs n bs (up k u)) (λ is. go k (pair_cases n bs (up k u) is))
    where
      go : (k : ℕ) → (2 ^ (n - 1) ≤ up k u) × (0 < times (up k u - 2 ^ (n - 1)) bs) → ⊥
      go zero c = omega (arith, apart.within (u - 2 ^ (n - 1)) c.1, unit.least, half_pow n (omega (arith, order.least)))
      go (suc zero) c = let same : up (suc zero) u - 2 ^ (n - 1) ≡ b = omega (arith, e) in omega (arith, c.1, ap (λ a. times a bs) same, none)
      go (suc (suc k)) c =
          let e2 : suc k + 1 ≡ suc (suc k) = omega arith in
          let over : up (suc k) (up 1 u) ≡ up (suc (suc k)) u = up_up (suc k) 1 u ∙ ap (λ a. up a u) e2 in
          omega (arith, c.0, over, up_least k (up 1 u), e, lt, pow_positive (n - 1))

  -- where none is free, there are as many as a region has
  pub pairs_full : NoneFree n (taken_pairs n bs) 1 → 2 ^ (n - 1) ≤ length bs
  pairs_full none = covers 0 (2 ^ (n - 1)) bs (λ b lo hi. each b (omega (arith, hi)))
    where
      each : (b : ℕ) → b < 2 ^ (n - 1) → 0 < times b bs
      each b lt = elim (cases_lt 0 (times b bs)) [
        | inl some ↦ some
        | inr gone ↦ absurd (none (n - 1) (2 ^ (n - 1) + b) (omega (arith, order.least)) (pair_node n b order lt) (pair_free b lt (omega arith)))
      ]

-- a free block that isn't among them
pub record NewPair (n x : ℕ) (bs : List ℕ) : Type 0 where
  pub block : ℕ
  pub node_is : x ≡ 2 ^ (n - 1) + block
  pub most : block < 2 ^ (n - 1)
  pub absent : times block bs ≡ 0

pub new_pair : {n x : ℕ} {bs : List ℕ} → IsOrder n → IsLowest n (taken_pairs n bs) 1 x → NewPair n x bs
new_pair {n} {x} {bs} order lowest =
    let deep : n - 1 + 1 ≡ n = omega (arith, order.least) in
    let node : IsNode (n - 1) x = lowest.node (n - 1) deep in
    let unit : IsNode n (2 * x) = subst (λ d. IsNode d (2 * x)) deep (node_even (n - 1) x node) in
    let node_is : x ≡ 2 ^ (n - 1) + (x - 2 ^ (n - 1)) = omega (arith, node.least) in
    let free : taken_pairs n bs (up 1 (2 * x)) ≡ false = lowest.free (2 * x) 1 unit (half_even x) in
    record {
      block = x - 2 ^ (n - 1);
      node_is = node_is;
      most = omega (arith, node.most, node.least);
      absent = elim (cases_lt 0 (times (x - 2 ^ (n - 1)) bs)) [
        | inl some ↦ absurd (let yes : taken_pairs n bs x ≡ true = pair_taken n bs x node.least some in let no : taken_pairs n bs x ≡ false = sym (ap (λ a. taken_pairs n bs a) (half_even x)) ∙ free in cc)
        | inr gone ↦ omega arith
      ];
    }

-- where the block of a pair begins
pub pair_begins : (n x b : ℕ) → IsOrder n → x ≡ 2 ^ (n - 1) + b → block_at n 1 x ≡ node_at n b
pair_begins n x b order e =
    let half = half_pow n (omega (arith, order.least)) in
    let two : 2 ^ 1 ≡ 2 = refl in
    let twice : x * 2 ^ 1 ≡ 2 ^ n + 2 * b = omega (arith, ap (λ p. x * p) two, half, e) in
    omega (arith, twice)

-- more and fewer
pub taking_pair : (n b : ℕ) (bs more words : List ℕ) → ((c : ℕ) → times c more ≡ times c bs + times c (b ∷ [])) → AreWords n (taking (2 ^ (n - 1) + b) (taken_pairs n bs)) words → AreWords n (taken_pairs n more) words
taking_pair n b bs more words counts are = words_same n (taking (2 ^ (n - 1) + b) (taken_pairs n bs)) (taken_pairs n more) words same are
  where
    same : (i : ℕ) → taking (2 ^ (n - 1) + b) (taken_pairs n bs) i ≡ taken_pairs n more i
    same i = elim (cases_eq i (2 ^ (n - 1) + b)) [
      | inl here ↦
          let at : i - 2 ^ (n - 1) ≡ b = omega arith in
          let left : taking (2 ^ (n - 1) + b) (taken_pairs n bs) i ≡ true = let test : (i == 2 ^ (n - 1) + b) ≡ true = grind (arith, nat_tests) in ap (λ t. t || taken_pairs n bs i) test in
          left ∙ sym (pair_taken n more i (omega arith) (omega (arith, ap (λ a. times a more) at, counts b, times_here b [])))
      | inr other ↦
          let left : taking (2 ^ (n - 1) + b) (taken_pairs n bs) i ≡ taken_pairs n bs i = let test : (i == 2 ^ (n - 1) + b) ≡ false = grind (arith, nat_tests) in ap (λ t. t || taken_pairs n bs i) test in
          left ∙ elim (cases_lt i (2 ^ (n - 1))) [
            | inl lt ↦ pair_below n bs i lt ∙ sym (pair_below n more i lt)
            | inr ge ↦
                let ne : b ≢ i - 2 ^ (n - 1) = λ e. other (omega (arith, e, ge)) in
                let e : times (i - 2 ^ (n - 1)) bs ≡ times (i - 2 ^ (n - 1)) more = omega (arith, counts (i - 2 ^ (n - 1)), times_away (i - 2 ^ (n - 1)) b [] ne) in
                ap (λ t. nat_le (2 ^ (n - 1)) i && nat_lt 0 t) e
          ]
    ]

pub giving_pair : (n b : ℕ) (bs fewer words : List ℕ) → times b fewer ≡ 0 → ((c : ℕ) → times c bs ≡ times c fewer + times c (b ∷ [])) → AreWords n (giving (2 ^ (n - 1) + b) (taken_pairs n bs)) words → AreWords n (taken_pairs n fewer) words
giving_pair n b bs fewer words gone counts are = words_same n (giving (2 ^ (n - 1) + b) (taken_pairs n bs)) (taken_pairs n fewer) words same are
  where
    same : (i : ℕ) → giving (2 ^ (n - 1) + b) (taken_pairs n bs) i ≡ taken_pairs n fewer i
    same i = elim (cases_eq i (2 ^ (n - 1) + b)) [
      | inl here ↦
          let at : i - 2 ^ (n - 1) ≡ b = omega arith in
          let left : giving (2 ^ (n - 1) + b) (taken_pairs n bs) i ≡ false = let test : (i == 2 ^ (n - 1) + b) ≡ true = grind (arith, nat_tests) in ap (λ t. not t && taken_pairs n bs i) test in
          left ∙ sym (pair_absent n fewer i (omega (arith, ap (λ a. times a fewer) at, gone)))
      | inr other ↦
          let left : giving (2 ^ (n - 1) + b) (taken_pairs n bs) i ≡ taken_pairs n bs i = let test : (i == 2 ^ (n - 1) + b) ≡ false = grind (arith, nat_tests) in ap (λ t. not t && taken_pairs n bs i) test in
          left ∙ elim (cases_lt i (2 ^ (n - 1))) [
            | inl lt ↦ pair_below n bs i lt ∙ sym (pair_below n fewer i lt)
            | inr ge ↦
                let ne : b ≢ i - 2 ^ (n - 1) = λ e. other (omega (arith, e, ge)) in
                let e : times (i - 2 ^ (n - 1)) bs ≡ times (i - 2 ^ (n - 1)) fewer = omega (arith, counts (i - 2 ^ (n - 1)), times_away (i - 2 ^ (n - 1)) b [] ne) in
                ap (λ t. nat_le (2 ^ (n - 1)) i && nat_lt 0 t) e
          ]
    ]

-- blocks that lack one are fewer than a region has
pub pairs_lack : {n : ℕ} (bs : List ℕ) (b : ℕ) → AreNodesApart n bs → b < 2 ^ (n - 1) → times b bs ≡ 0 → length bs < 2 ^ (n - 1)
pairs_lack {n} bs b apart lt none = lacks 0 (2 ^ (n - 1)) b bs apart.different (λ c some. (omega arith, omega (arith, apart.within c some))) (omega arith) (omega (arith, lt)) none
