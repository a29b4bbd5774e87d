-- Seats whose callers post and are answered.
use Rattle.std.specs.Prelude.{◌≡◌, ℕ, length}
use Rattle.rom_combine.specs.AtRest.{IsCoreOf}
use Rattle.rom_lr.specs.Seats.{IsSeatOf, view}
use Rattle.rom_lr.specs.declared.seats.Seat.{Seat}
use Rattle.rom_lr.specs.declared.shared.Shared.{Shared}
use Rattle.rom_rows.specs.declared.work.Work.{Work}
use Rattle.rom_rows.specs.declared.work.Work.TheVariants.{Passes, Posts, Reads}
use Rattle.rom_rule.specs.declared.views.Position.TheVariants.{Out}

module _ {Object Call Query Reply Answer : Type 0} where
  -- The seat is of this table, and out. Its caller has posted so many calls, and was told what became of so many.
  pub record HasCalls (shared : Shared Object Call Query Reply Answer) (posted told : ℕ) (s : Seat) : Type 0 where
    pub of : IsSeatOf shared s
    pub out : (view s).position ≡ Out
    pub posted_is : length (view s).calls ≡ posted
    pub told_is : length (view s).outcomes ≡ told

  -- by the kind of job: the seat's caller has posted nothing yet, or the core is of this table
  abbrev pub MayWork : Shared Object Call Query Reply Answer → Work → Type 0
  MayWork shared (Posts seat right) = HasCalls shared 0 0 seat
  MayWork shared (Reads seat right) = HasCalls shared 0 0 seat
  MayWork shared (Passes core right) = IsCoreOf shared core

  -- the job's caller has posted nothing, or its core is of this table
  pub record IsManned (shared : Shared Object Call Query Reply Answer) (job : Work) : Type 0 where
    pub may : MayWork shared job
