-- What was taken from a region, and what was made of it, where there was memory.
use Rattle.std.specs.Prelude.{Result, Ok, Err, IfOk}
use Rattle.std.specs.List.{AllByRecursion}
use Rattle.std.proofs.Common.{◌≡◌, ℕ, ◌<◌, List, map, length, sym, ap, subst, arith}
use Rattle.rom_model.specs.Blocks.{IsOrder}
use Rattle.rom_model.specs.VecSpace.{words_of_space}
use Rattle.rom_model.specs.declared.vec_space.VecSpace.{VecSpace}
use Rattle.rom_carry.specs.Carried.{AreWritten}
use Rattle.rom_blob_region.specs.State.{BlobState, no_blobs}
use Rattle.rom_blob_region.specs.Region.{BlobContents}
use Rattle.rom_blob_carry.specs.Carried.{BlobsCarried, BlobsGrown, CarriesBlobs}
use Rattle.rom_blob_carry.specs.Elements.{EntryFits, elements_of, entries_in}
use Rattle.rom_blob_carry.specs.Grown.{after_sets}
use Rattle.rom_blob_carry.specs.Lines.{blob_bounds, lines_in, set_line}
use Rattle.rom_blob_carry.specs.declared.elements.all.BlobElements.{BlobElements}
use Rattle.rom_blob_carry.proofs.Rebuilding.{carries, few_lines, stays, written}

module _ {E : Type 0} (n : ℕ) (w : List ℕ) where
  pub carrying_of : (r : Result BlobElements E) → IfOk r (λ e. (s : BlobState) (k : ℕ) → BlobContents n w s k → entries_in e.kept.items ≡ elements_of s) → IfOk r (λ e. AllByRecursion EntryFits (entries_in e.kept.items)) → IfOk r (λ e. BlobsCarried n w (lines_in e))
  carrying_of (Ok e) are fit = λ s k held.
      let same = are s k held in
      subst (λ es. CarriesBlobs n s (map set_line es)) (sym same) (carries held.1 (subst (λ es. AllByRecursion EntryFits es) same fit))
  carrying_of (Err e) are fit = tt

  pub written_of : (s : BlobState) (k : ℕ) → BlobContents n w s k → (r : Result BlobElements E) → IfOk r (λ e. (s : BlobState) (k : ℕ) → BlobContents n w s k → entries_in e.kept.items ≡ elements_of s) → IfOk r (λ e. AllByRecursion EntryFits (entries_in e.kept.items)) → IfOk r (λ e. AreWritten blob_bounds (lines_in e))
  written_of s k held (Ok e) are fit = written (entries_in e.kept.items) (omega (arith, ap length (are s k held), few_lines held.1)) fit
  written_of s k held (Err e) are fit = tt

  module _ (greater : ℕ) (above : n < greater) (order : IsOrder greater) where
    pub grown_of : (r : Result VecSpace E) → IfOk r (λ v. (s : BlobState) (k : ℕ) → BlobContents n w s k → BlobContents greater (words_of_space v) (after_sets greater no_blobs (elements_of s)) k) → IfOk r (λ v. BlobsGrown n w greater (words_of_space v))
    grown_of (Ok v) grown = λ s k held. (after_sets greater no_blobs (elements_of s), stays held.1 greater (omega (arith, above)) order, grown s k held)
    grown_of (Err e) grown = tt

    pub fit_of : (s : BlobState) (k : ℕ) → BlobContents n w s k → (r : Result VecSpace E) → IfOk r (λ v. (s : BlobState) (k : ℕ) → BlobContents n w s k → BlobContents greater (words_of_space v) (after_sets greater no_blobs (elements_of s)) k) → IfOk r (λ v. (t : BlobState) × (j : ℕ) × BlobContents greater (words_of_space v) t j)
    fit_of s k held (Ok v) grown = (after_sets greater no_blobs (elements_of s), k, grown s k held)
    fit_of s k held (Err e) grown = tt
