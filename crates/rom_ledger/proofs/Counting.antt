-- A region in which one update more is counted.
use Rattle.std.proofs.Common.{◌≡◌, ℕ, ◌+◌, ◌<◌, List, sym, subst, ◌∙◌}
use Rattle.std.specs.Prelude.{slice_index, slice_set}
use Rattle.rom_model.specs.History.{LAST_COUNT}
use Rattle.rom_model.specs.State.{State}
use Rattle.rom_model.specs.Region.{Contents}
use Rattle.rom_ledger.specs.Laws.{raised}

-- The count was loaded, and the count raised by one was stored.
pub counted : (n : ℕ) (old loaded new : List ℕ) (s : State) (k word : ℕ) → Contents n old s k → k < LAST_COUNT → word ≡ slice_index old 2 → loaded ≡ old → new ≡ slice_set loaded 2 (word + 1) → Contents n new s (k + 1)
counted n old loaded new s k word held below is same stored =
    let count : word ≡ k = is ∙ held.1.shape.root.count_is in
    subst (λ w. Contents n w s (k + 1)) (sym (stored ∙ (λ i. slice_set (same i) 2 (count i + 1)))) (raised n old s k held below)
