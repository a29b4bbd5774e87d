-- Walks along chains, of which each step takes a node's first word.
use Rattle.std.proofs.Common.{◌≡◌, ℕ, zero, suc, ◌+◌, ◌*◌, ◌^◌, ◌<◌, ◌≤◌, false, List, [], ◌∷◌, length, refl, ◌∙◌, ap, arith}
use Rattle.std.specs.Prelude.{slice_index, ◌==◌, if◌then◌else◌}
use Rattle.std.proofs.lemmas.Bool.Decides.{nat_tests}
use Rattle.rom_model.specs.Blocks.{block_of}
use Rattle.rom_model.specs.Chains.{times, Chain, each_word}
use Rattle.rom_model.proofs.Times.{times_here, times_more}

-- the first words of so many nodes from one on, of which the word j is the link
pub walked : List ℕ → ℕ → ℕ → ℕ → List ℕ
walked w j zero node = []
walked w j (suc m) node = if node == 0 then [] else slice_index w node ∷ walked w j m (slice_index w (node + j))

-- these nodes lie among the words
abbrev pub AreInside : List ℕ → ℕ → ℕ → ℕ → Type 0
AreInside w j zero node = Unit {0}
AreInside w j (suc m) node = 0 < node → (node + 4 ≤ length w) × AreInside w j m (slice_index w (node + j))

positive : (m : ℕ) → 0 < m → (m == 0) ≡ false
positive m some = grind (arith, nat_tests)

pub walked_none : (w : List ℕ) (j m node : ℕ) → node ≡ 0 → walked w j m node ≡ []
unfolding walked
walked_none w j zero node none = refl
walked_none w j (suc m) node none = ap (λ x. if x == 0 then [] else slice_index w x ∷ walked w j m (slice_index w (x + j))) none

pub walked_end : (w : List ℕ) (j node : ℕ) → walked w j 0 node ≡ []
unfolding walked
walked_end w j node = refl

pub walked_more : (w : List ℕ) (j m node : ℕ) → 0 < node → walked w j (suc m) node ≡ slice_index w node ∷ walked w j m (slice_index w (node + j))
unfolding walked
walked_more w j m node some = ap (λ t. if t then [] else slice_index w node ∷ walked w j m (slice_index w (node + j))) (positive node some)

-- a whole chain is walked
pub walked_chain : (n l j : ℕ) (w bs : List ℕ) (m node : ℕ) → Chain n w l j bs → node ≡ slice_index w l → length bs ≤ m → walked w j m node ≡ each_word n w 0 bs
walked_chain n l j w [] m node chain load few = walked_none w j m node (load ∙ chain)
walked_chain n l j w (b ∷ bs) zero node chain load few = absurd (omega (arith, few))
walked_chain n l j w (b ∷ bs) (suc m) node chain load few =
    let here : node ≡ block_of n b = load ∙ chain.0 in
    let plain : node ≡ block_of n b + 0 = omega (arith, here) in
    let rest = walked_chain n (block_of n b + j) j w bs m (slice_index w (node + j)) chain.1 (ap (λ k. slice_index w (k + j)) here) (omega (arith, few)) in
    walked_more w j m node (omega (arith, here)) ∙ (λ i. slice_index w (plain i) ∷ rest i)

pub inside_chain : (n l j : ℕ) (w bs : List ℕ) (m node : ℕ) → Chain n w l j bs → node ≡ slice_index w l → ((b : ℕ) → 0 < times b bs → b < 2 ^ n) → length w ≡ 16 + 6 * 2 ^ n → AreInside w j m node
inside_chain n l j w bs zero node chain load within long = tt
inside_chain n l j w [] (suc m) node chain load within long = λ some. absurd (omega (arith, some, load, chain))
inside_chain n l j w (b ∷ bs) (suc m) node chain load within long = λ some.
    let here : node ≡ block_of n b = load ∙ chain.0 in (
      omega (arith, here, long, within b (omega (arith, times_here b bs))),
      inside_chain n (block_of n b + j) j w bs m (slice_index w (node + j)) chain.1 (ap (λ k. slice_index w (k + j)) here) (λ c some. within c (omega (arith, some, times_more c b bs))) long,
    )
