-- What the inspections accept has contents.
use Rattle.std.proofs.Common.{arith, true}
use Rattle.std.specs.Prelude.{◌≡◌, ℕ, List, Result, Ok, Err, OnOk, IfErr, slice_index}
use Rattle.std.proofs.lemmas.Bool.Decides.{nat_tests}
use Rattle.rom_model.specs.Inspected.{IsReason}
use Rattle.rom_model.specs.State.{State}
use Rattle.rom_model.specs.Region.{is_old, IsWellFormed, Contents, OldContents}
use Rattle.rom_model.specs.declared.unfit.Unfit.{Unfit}
use Rattle.rom_model.specs.declared.unfit.Unfit.TheVariants.{Malformed, Old, OutOfMemory}
use Rattle.rom_heap.specs.Answers.{IsOldWellFormed, OldRejects}

pub fit : (n : ℕ) (w : List ℕ) (result : Result (Unit {0}) Unfit) → OnOk result (IsWellFormed n w) → OnOk result ((s : State) × (k : ℕ) × Contents n w s k)
fit n w (Ok done) is = (is.state, is.count, is.contents)
fit n w (Err e) is = tt

pub old_fit : (n : ℕ) (w : List ℕ) (result : Result (Unit {0}) Unfit) → OnOk result (IsOldWellFormed n w) → OnOk result ((s : State) × (k : ℕ) × OldContents n w s k)
old_fit n w (Ok done) is = (is.state, is.count, is.contents)
old_fit n w (Err e) is = tt

-- words that say that they are of version 1, by their first two
pub says_old : (w : List ℕ) → is_old w ≡ true → (slice_index w 0 ≡ 1) × (slice_index w 1 ≡ 1)
says_old w is =
    let kind : slice_index w 0 ≡ 1 = grind (arith, nat_tests) in
    let version : slice_index w 1 ≡ 1 = grind (arith, nat_tests) in
    (kind, version)

-- an inspection for version 1 finds none that is older
pub never_old : (n : ℕ) (w : List ℕ) (result : Result (Unit {0}) Unfit) → IfErr result (IsReason (OldRejects n w)) → result ≡ Err Old → ⊥
never_old n w (Ok done) reason is = cc
never_old n w (Err (Malformed offset rule)) reason is = cc
never_old n w (Err OutOfMemory) reason is = cc
never_old n w (Err Old) reason is = reason
