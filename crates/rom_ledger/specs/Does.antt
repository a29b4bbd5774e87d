-- What a conditional update does that is counted already.
use Rattle.std.specs.Prelude.{◌≡◌, ℕ, ◌+◌}
use Rattle.rom_model.specs.State.{State}
use Rattle.rom_model.specs.Space.{ShownSpace, Stores}
use Rattle.rom_model.specs.Region.{Contents}
use Rattle.rom_ledger.specs.State.{conditional}
use Rattle.rom_ledger.specs.declared.call.Conditional.{Conditional}
use Rattle.rom_ledger.specs.declared.call.LedgerTold.{LedgerTold}

-- The reply and the state are those of it at its place, and at most 31 stores are made.
pub record DoesConditional {M : Type 0} (shown : ShownSpace M) (n : ℕ) (call : Conditional) (told : LedgerTold) (old new : M) : Type 0 where
  pub step_is : (s : State) (j : ℕ) → Contents n (shown.image old) s (j + 1) → let after = conditional n s j call in (told ≡ after.1) × Contents n (shown.image new) after.0 (j + 1)
  pub stores : Stores shown 31 old new
