-- The links of a chain, and where the queue begins and ends.
use Rattle.std.proofs.Common.{◌≡◌, ◌≢◌, ℕ, ◌+◌, ◌*◌, ◌^◌, ◌<◌, ◌≤◌, List, [], ◌∷◌, ◌++◌, refl, sym, ap, subst, arith, append-nil}
use Rattle.std.specs.Prelude.{slice_index}
use Rattle.rom_model.specs.Blocks.{block_of}
use Rattle.rom_model.specs.Chains.{times, Chain, last_of}
use Rattle.rom_model.specs.Region.{IsQueue}
use Rattle.rom_model.proofs.Links.{IsLink, chain_relinked}
use Rattle.rom_model.proofs.Times.{times_here, times_more}
use Rattle.rom_model.specs.Links.{link_after}

link_tail : (n b : ℕ) (bs : List ℕ) → link_after n (block_of n b + 1) 1 bs ≡ last_of n (b ∷ bs) + 1
link_tail n b [] = refl
link_tail n b (c ∷ bs) = link_tail n c bs

-- one more block at the end
pub chain_push : (n l j : ℕ) (w w' bs : List ℕ) (b : ℕ) → ((c : ℕ) → 0 < times c bs → l ≢ block_of n c + j) → ((c : ℕ) → times c bs ≤ 1)
    → ((k : ℕ) → k ≢ link_after n l j bs → IsLink n l j bs k → slice_index w' k ≡ slice_index w k)
    → slice_index w' (link_after n l j bs) ≡ block_of n b → slice_index w' (block_of n b + j) ≡ 0 → Chain n w l j bs → Chain n w' l j (bs ++ b ∷ [])
chain_push n l j w w' bs b apart single same put ends chain =
    chain_relinked n l j w w' bs [] (b ∷ []) apart single same (put, ends) (subst (λ (xs : List ℕ). Chain n w l j xs) (sym (append-nil bs)) chain)

pub last_high : (n b : ℕ) (bs : List ℕ) → 16 ≤ last_of n (b ∷ bs)
last_high n b [] = omega arith
last_high n b (c ∷ bs) = last_high n c bs

pub tail_empty : (n : ℕ) (w bs values : List ℕ) → IsQueue n w bs values → slice_index w 4 ≡ 0 → link_after n 3 1 bs ≡ 3
tail_empty n w [] values is none = refl
tail_empty n w (b ∷ bs) values is none = absurd (omega (arith, is.tail, none, last_high n b bs))

pub tail_link : (n : ℕ) (w bs values : List ℕ) → IsQueue n w bs values → 0 < slice_index w 4 → link_after n 3 1 bs ≡ slice_index w 4 + 1
tail_link n w [] values is some = absurd (omega (arith, is.tail, some))
tail_link n w (b ∷ bs) values is some = omega (arith, link_tail n b bs, is.tail)

last_in : (n b : ℕ) (bs : List ℕ) → (c : ℕ) × (0 < times c (b ∷ bs)) × (last_of n (b ∷ bs) ≡ block_of n c)
last_in n b [] = (b, omega (arith, times_here b []), refl)
last_in n b (c ∷ bs) = let x = last_in n c bs in (x.0, omega (arith, x.1, times_more x.0 b (c ∷ bs)), x.2)

pub tail_small : (n : ℕ) (w bs values : List ℕ) → IsQueue n w bs values → ((c : ℕ) → 0 < times c bs → c < 2 ^ n) → slice_index w 4 < 16 + 6 * 2 ^ n
tail_small n w [] values is within = omega (arith, is.tail)
tail_small n w (b ∷ bs) values is within = let x = last_in n b bs in omega (arith, is.tail, x.2, within x.0 x.1)

-- a chain ends, so no block links to itself
pub no_loop : (n b : ℕ) (w bs : List ℕ) → Chain n w (block_of n b + 1) 1 bs → slice_index w (block_of n b + 1) ≢ block_of n b
no_loop n b w [] chain e = absurd (omega (arith, chain, e))
no_loop n b w (c ∷ bs) chain e = let same : c ≡ b = omega (arith, chain.0, e) in no_loop n b w bs (subst (λ x. Chain n w (block_of n x + 1) 1 bs) same chain.1) e

-- a block that is not the queue's is not its tail
pub other_tail : (n b : ℕ) (bs : List ℕ) → times b bs ≡ 0 → last_of n bs ≢ block_of n b
other_tail n b [] none e = absurd (omega (arith, e))
other_tail n b (c ∷ bs) none e =
    let x = last_in n c bs in
    let same : x.0 ≡ b = omega (arith, x.2, e) in
    absurd (omega (arith, x.1, ap (λ y. times y (c ∷ bs)) same, none))

-- the last link of a chain is 0
pub last_zero : (n l j : ℕ) (w bs : List ℕ) → Chain n w l j bs → slice_index w (link_after n l j bs) ≡ 0
last_zero n l j w [] chain = chain
last_zero n l j w (b ∷ bs) chain = last_zero n (block_of n b + j) j w bs chain.1

-- without a head there is no block
pub head_none : (n : ℕ) (w bs values : List ℕ) → IsQueue n w bs values → slice_index w 3 ≡ 0 → bs ≡ []
head_none n w [] values is none = refl
head_none n w (b ∷ bs) values is none = absurd (omega (arith, is.chain.0, none))

-- the first block, and those behind it
pub record First (n at : ℕ) (bs : List ℕ) : Type 0 where
  pub block : ℕ
  pub behind : List ℕ
  pub here : at ≡ block_of n block
  pub are : bs ≡ block ∷ behind

pub head_first : (n : ℕ) (w bs values : List ℕ) → IsQueue n w bs values → 0 < slice_index w 3 → First n (slice_index w 3) bs
head_first n w [] values is some = absurd (omega (arith, is.chain, some))
head_first n w (b ∷ bs) values is some = record { block = b; behind = bs; here = is.chain.0; are = refl }
