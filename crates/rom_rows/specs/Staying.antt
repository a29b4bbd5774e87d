-- Threads of which one keeps a reader in its image while another runs passes.
use Rattle.std.specs.Prelude.{ℕ, IsTrue}
use Rattle.rom_combine.specs.AtRest.{IsCoreOf}
use Rattle.rom_lr.specs.Seats.{IsSeatOf, view}
use Rattle.rom_lr.specs.declared.shared.Shared.{Shared}
use Rattle.rom_rows.specs.Callers.{HasCalls}
use Rattle.rom_rows.specs.declared.stay.Stay.{Stay}
use Rattle.rom_rows.specs.declared.stay.Stay.TheVariants.{Holds, Passes}
use Rattle.rom_rule.specs.Views.{is_reading}

module _ {Object Call Query Reply Answer : Type 0} where
  -- by the kind of job: a reader has entered and a caller has posted one call, or the core is of this table
  abbrev pub MayStay : Shared Object Call Query Reply Answer → Stay → Type 0
  MayStay shared (Holds reader poster right) = IsSeatOf shared reader × IsTrue (is_reading (view reader).position) × HasCalls shared 1 0 poster
  MayStay shared (Passes core right) = IsCoreOf shared core

  -- the first seat has entered and the second has posted one call, or the core is of this table
  pub record IsStaying (shared : Shared Object Call Query Reply Answer) (job : Stay) : Type 0 where
    pub may : MayStay shared job
