-- The link word of a place, and the words that a change of the set's chain leaves.
use Rattle.std.proofs.Common.{◌≡◌, ◌≢◌, ⊎_elim, ℕ, ◌+◌, ◌*◌, ◌^◌, ◌<◌, List, [], ◌∷◌, length, ◌∙◌, ap, arith}
use Rattle.std.specs.Prelude.{slice_index}
use Rattle.rom_model.specs.Blocks.{block_of}
use Rattle.rom_model.specs.Chains.{IsWordOfBlock, times}
use Rattle.rom_model.specs.Region.{ChangesPart}
use Rattle.rom_model.proofs.Nodes.{pow_positive}
use Rattle.rom_model.proofs.Times.{times_here}
use Rattle.rom_model.specs.Links.{link_after, first_of, KeepsTree}
use Rattle.rom_model.proofs.Links.{link_in}

-- a block that is not among them is not where they begin
pub first_other : (n b : ℕ) (bs : List ℕ) → times b bs ≡ 0 → first_of n bs ≢ block_of n b
first_other n b [] none e = absurd (omega (arith, e))
first_other n b (x ∷ xs) none e = let same : x ≡ b = omega (arith, e) in absurd (omega (arith, none, ap (λ y. times b (y ∷ xs)) same, times_here b xs))

module _ (n : ℕ) (front : List ℕ) where
  -- the link is the head, or a second word of a block
  pub not_link : (c j : ℕ) → j < 4 → j ≢ 1 → block_of n c + j ≢ link_after n 6 1 front
  not_link c j lt ne e = ⊎_elim
      (λ at. absurd (omega (arith, e, at)))
      (λ x. ne (omega (arith, e, x.2, lt)))
      (link_in n 6 1 front)

  -- of a block of the front
  pub not_link_of : (c j : ℕ) → j < 4 → times c front ≡ 0 → block_of n c + j ≢ link_after n 6 1 front
  not_link_of c j lt none e = ⊎_elim
      (λ at. absurd (omega (arith, e, at)))
      (λ x. let same : x.0 ≡ c = omega (arith, e, x.2, lt) in absurd (omega (arith, x.1, ap (λ y. times y front) same, none)))
      (link_in n 6 1 front)

  -- it lies in the region
  pub link_within : ((c : ℕ) → 0 < times c front → c < 2 ^ n) → link_after n 6 1 front < 16 + 6 * 2 ^ n
  link_within within = ⊎_elim (λ at. omega (arith, at)) (λ x. omega (arith, x.2, within x.0 x.1)) (link_in n 6 1 front)

  pub link_not_len : link_after n 6 1 front ≢ 7
  link_not_len e = ⊎_elim (λ at. absurd (omega (arith, e, at))) (λ x. absurd (omega (arith, e, x.2))) (link_in n 6 1 front)

  -- a word beside the set's is not it
  pub beside : (k : ℕ) → ((c : ℕ) → 0 < times c front → IsWordOfBlock n c k → ⊥) → k ≢ 6 → k ≢ link_after n 6 1 front
  beside k outside ne e = ⊎_elim (λ at. ne (e ∙ at)) (λ x. outside x.0 x.1 (omega (arith, e, x.2), omega (arith, e, x.2))) (link_in n 6 1 front)

-- where no words differ but the head, the size and those of these blocks
module _ (n : ℕ) (touched w w' : List ℕ) (as_long : length w' ≡ length w) (same : (k : ℕ) → ((c : ℕ) → 0 < times c touched → IsWordOfBlock n c k → ⊥) → k ≢ 6 → k ≢ 7 → slice_index w' k ≡ slice_index w k) where
  pub set_part : ChangesPart n 6 8 touched w w'
  set_part = record {
    as_long = as_long;
    root = λ k small apart. same k
        (λ c some inside. absurd (omega (arith, inside.0, small, pow_positive n)))
        (λ e. ⊎_elim (λ lt. absurd (omega (arith, e, lt))) (λ ge. absurd (omega (arith, e, ge))) apart)
        (λ e. ⊎_elim (λ lt. absurd (omega (arith, e, lt))) (λ ge. absurd (omega (arith, e, ge))) apart);
    others = λ k late outside. same k outside (λ e. absurd (omega (arith, e, late))) (λ e. absurd (omega (arith, e, late)));
  }

  pub set_tree : KeepsTree n w w'
  set_tree k least most = same k (λ c some inside. absurd (omega (arith, inside.0, most))) (λ e. absurd (omega (arith, e, least))) (λ e. absurd (omega (arith, e, least)))
