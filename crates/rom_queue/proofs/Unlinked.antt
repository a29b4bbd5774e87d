-- The queue without its first block.
use Rattle.std.proofs.Common.{◌≡◌, ◌≢◌, ℕ, ◌+◌, ◌-◌, List, [], ◌∷◌, ◌∙◌, arith}
use Rattle.std.specs.Prelude.{slice_index}
use Rattle.rom_model.specs.Space.{ChangesOnly}
use Rattle.rom_model.specs.Blocks.{block_of}
use Rattle.rom_model.specs.Chains.{Chain, last_of, each_word}
use Rattle.rom_model.specs.Region.{IsQueue}
use Rattle.rom_model.proofs.Times.{times_more}
use Rattle.rom_model.proofs.Frames.{chain_same, each_same}

-- what the stores of an unlinking leave
pub record HeadMoved (next : ℕ) (w w' : List ℕ) : Type 0 where
  pub head : slice_index w' 3 ≡ next
  pub none : next ≡ 0 → slice_index w' 4 ≡ 0
  pub tail : next ≢ 0 → slice_index w' 4 ≡ slice_index w 4
  pub len : slice_index w' 5 ≡ slice_index w 5 - 1
  pub others : ChangesOnly 3 3 w w'

module _ (n b : ℕ) (w w' : List ℕ) (moved : HeadMoved (slice_index w (block_of n b + 1)) w w') where
  block_stays : (c j : ℕ) → slice_index w' (block_of n c + j) ≡ slice_index w (block_of n c + j)
  block_stays c j = moved.others.behind (block_of n c + j) (omega arith)

  chain_behind : (bs : List ℕ) → Chain n w (block_of n b + 1) 1 bs → Chain n w' 3 1 bs
  chain_behind [] chain = moved.head ∙ chain
  chain_behind (c ∷ bs) chain = (moved.head ∙ chain.0, chain_same n (block_of n c + 1) 1 w w' bs (block_stays c 1) (λ d some. block_stays d 1) chain.1)

  tail_behind : (bs : List ℕ) → Chain n w (block_of n b + 1) 1 bs → slice_index w 4 ≡ last_of n (b ∷ bs) → slice_index w' 4 ≡ last_of n bs
  tail_behind [] chain was = moved.none chain
  tail_behind (c ∷ bs) chain was = moved.tail (λ e. absurd (omega (arith, e, chain.0))) ∙ was

  pub unlinked : (bs values : List ℕ) → IsQueue n w (b ∷ bs) values → IsQueue n w' bs (each_word n w 0 bs)
  unlinked bs values is = record {
    chain = chain_behind bs is.chain.1;
    tail = tail_behind bs is.chain.1 is.tail;
    len = omega (arith, moved.len, is.len);
    values_are = each_same n 0 w w' bs (λ c some. block_stays c 0);
    third = λ c some. block_stays c 2 ∙ is.third c (omega (arith, some, times_more c b bs));
    fourth = λ c some. block_stays c 3 ∙ is.fourth c (omega (arith, some, times_more c b bs));
  }
