-- The region that counts in the images of a batch.
use Rattle.std.proofs.Common.{inl, inr, sym, ◌∙◌, subst, ℕ, List, slice_index, arith}
use Rattle.std.proofs.lemmas.Bool.{cases_eq}
use Rattle.rom_device.specs.Device.{WritesWord}
use Rattle.rom_header.specs.Headers.{state_word}
use Rattle.rom_header.specs.Layout.{STATE}
use Rattle.rom_header.specs.Regions.{IsCurrentRegion}
use Rattle.rom_header.specs.declared.header.State.TheVariants.{Idle, Copying}
use Rattle.rom_header.proofs.Parts.{state_set}
use Rattle.rom_twin.specs.Images.{Committing, HasBack, HasMain, IsHeapInState, Twins}
use Rattle.rom_open.specs.Batch.{CountsEither}
use Rattle.rom_open.specs.Upgrading.{IsWholeHeap}

module _ (n : ℕ) (c i : List ℕ) where
  pub twins_region : Twins n c i → IsCurrentRegion n i c
  twins_region is = record {
    heap = is.heap;
    counts = elim (cases_eq (slice_index i 3) 0) [
      | inl idle ↦ inl (idle, is.main_is, is.back_is)
      | inr other ↦ elim (cases_eq (slice_index i 3) 1) [
        | inl mutating ↦ inr (inl (mutating, is.back_is))
        | inr copying ↦ inr (inr (omega (arith, is.heap.state, other, copying), is.main_is))
      ]
    ];
  }

  pub back_region : HasBack n c i → IsCurrentRegion n i c
  back_region is = record { heap = is.heap; counts = inr (inl (is.state_is, is.back_is)) }

  pub main_region : HasMain n c i → IsCurrentRegion n i c
  main_region is = record { heap = is.heap; counts = inr (inr (is.state_is, is.main_is)) }

-- within the commit
pub either_region : (n : ℕ) (c m i : List ℕ) → Committing n c m i → CountsEither n c m i
either_region n c m i (inl is) = inl (record { heap = is.heap; counts = inr (inl (is.state_is, is.back_is)) })
either_region n c m i (inr is) = inr (record { heap = is.heap; counts = inr (inr (is.state_is, is.main_is)) })

-- a heap under COPYING with the same regions, of which IDLE is written or not
pub whole_then : (n : ℕ) (m x y : List ℕ) → IsHeapInState n Copying m m x → WritesWord STATE (state_word Idle) x y → IsWholeHeap n y
whole_then n m x y is (inl same) =
    subst (λ (l : List ℕ). IsWholeHeap n l) (sym same) (record { heap = is.heap; state = inr is.state_is; same = is.main_is ∙ sym is.back_is })
whole_then n m x y is (inr put) =
    let now = state_set n 0 x (omega arith) is.heap in
    subst (λ (l : List ℕ). IsWholeHeap n l) (sym put) (record { heap = now.heap; state = inl now.state_is; same = now.main_is ∙ (is.main_is ∙ sym (now.back_is ∙ is.back_is)) })
