-- The links of a chain that is cut in two, and the words of its blocks.
use Rattle.std.proofs.Common.{◌≡◌, ◌≢◌, ◌⊎◌, inl, inr, ⊎_elim, ℕ, ◌+◌, ◌<◌, ◌≤◌, List, [], ◌∷◌, ◌++◌, refl, ◌∙◌, ap, arith}
use Rattle.std.specs.Prelude.{slice_index}
use Rattle.rom_model.specs.Blocks.{block_of}
use Rattle.rom_model.specs.Chains.{times, Chain, each_word}
use Rattle.rom_model.proofs.Times.{times_here, times_more}
use Rattle.rom_model.proofs.Frames.{chain_same}
use Rattle.rom_model.specs.Links.{link_after, first_of}

-- where the last link stands
pub link_in : (n l j : ℕ) (bs : List ℕ) → (link_after n l j bs ≡ l) ⊎ ((c : ℕ) × (0 < times c bs) × (link_after n l j bs ≡ block_of n c + j))
link_in n l j [] = inl refl
link_in n l j (b ∷ bs) = ⊎_elim
    (λ at. inr (b, omega (arith, times_here b bs), at))
    (λ w. inr (w.0, omega (arith, w.1, times_more w.0 b bs), w.2))
    (link_in n (block_of n b + j) j bs)

pub link_push : (n l j : ℕ) (bs : List ℕ) (b : ℕ) → link_after n l j (bs ++ b ∷ []) ≡ block_of n b + j
link_push n l j [] b = refl
link_push n l j (a ∷ bs) b = link_push n (block_of n a + j) j bs b

-- the back begins where the front ends
pub chain_back : (n l j : ℕ) (w front back : List ℕ) → Chain n w l j (front ++ back) → Chain n w (link_after n l j front) j back
chain_back n l j w [] back chain = chain
chain_back n l j w (b ∷ front) back chain = chain_back n (block_of n b + j) j w front back chain.1

pub chain_first : (n l j : ℕ) (w bs : List ℕ) → Chain n w l j bs → slice_index w l ≡ first_of n bs
chain_first n l j w [] chain = chain
chain_first n l j w (b ∷ bs) chain = chain.0

-- a chain that begins at another link word
pub chain_moved : (n l m j : ℕ) (w w' bs : List ℕ) → slice_index w' m ≡ slice_index w l → ((c : ℕ) → 0 < times c bs → slice_index w' (block_of n c + j) ≡ slice_index w (block_of n c + j)) → Chain n w l j bs → Chain n w' m j bs
chain_moved n l m j w w' [] here same chain = here ∙ chain
chain_moved n l m j w w' (b ∷ bs) here same chain = (
  here ∙ chain.0,
  chain_same n (block_of n b + j) j w w' bs (same b (omega (arith, times_here b bs))) (λ c some. same c (omega (arith, some, times_more c b bs))) chain.1,
)

-- a link word of the chain
abbrev pub IsLink : ℕ → ℕ → ℕ → List ℕ → ℕ → Type 0
IsLink n l j bs k = (k ≡ l) ⊎ ((c : ℕ) × (0 < times c bs) × (k ≡ block_of n c + j))

-- the front stays, but for its last link
pub chain_relinked : (n l j : ℕ) (w w' front back next : List ℕ) → ((c : ℕ) → 0 < times c front → l ≢ block_of n c + j) → ((c : ℕ) → times c front ≤ 1)
    → ((k : ℕ) → k ≢ link_after n l j front → IsLink n l j front k → slice_index w' k ≡ slice_index w k)
    → Chain n w' (link_after n l j front) j next → Chain n w l j (front ++ back) → Chain n w' l j (front ++ next)
chain_relinked n l j w w' [] back next apart single same ends chain = ends
chain_relinked n l j w w' (a ∷ front) back next apart single same ends chain =
    let fresh : times a front ≤ 0 = omega (arith, times_here a front, single a) in
    let not_end : l ≢ link_after n (block_of n a + j) j front = λ e. ⊎_elim
    (λ at. apart a (omega (arith, times_here a front)) (e ∙ at))
    (λ x. apart x.0 (omega (arith, x.1, times_more x.0 a front)) (e ∙ x.2))
    (link_in n (block_of n a + j) j front) in (
      same l not_end (inl refl) ∙ chain.0,
      chain_relinked n (block_of n a + j) j w w' front back next
          (λ c some e. let is : a ≡ c = omega arith in absurd (omega (arith, some, ap (λ x. times x front) is, fresh)))
          (λ c. omega (arith, times_more c a front, single c))
          (λ k ne is. same k ne (⊎_elim (λ at. inr (a, omega (arith, times_here a front), at)) (λ x. inr (x.0, omega (arith, x.1, times_more x.0 a front), x.2)) is))
          ends chain.1,
    )

-- the words of a split list of blocks
pub each_append : (n j : ℕ) (w bs cs : List ℕ) → each_word n w j (bs ++ cs) ≡ each_word n w j bs ++ each_word n w j cs
each_append n j w [] cs = refl
each_append n j w (b ∷ bs) cs = ap (λ xs. slice_index w (block_of n b + j) ∷ xs) (each_append n j w bs cs)
