-- What a store of `side` asks for, and what it leaves.
use Rattle.std.specs.Prelude.{ℕ, List, Option}
use Rattle.rom_model.specs.declared.entry.Entry.{Entry}
use Rattle.rom_model.specs.declared.record.Fate.TheVariants.{Published}
use Rattle.rom_lr.specs.Seats.{plan, writer_view}
use Rattle.rom_lr.specs.Writing.{SetsPlan}
use Rattle.rom_lr.specs.declared.seats.WriterSeat.{WriterSeat}
use Rattle.rom_lr.specs.declared.side.Side.{Side}
use Rattle.rom_lr.specs.declared.side.Side.TheVariants.{Back, Main}
use Rattle.rom_rule.specs.Kinds.{CanSwitchToBack, CanSwitchToMain, IsBatch, TellsEach, making, raising, switched}
use Rattle.rom_rule.specs.declared.views.Base.{Base}
use Rattle.rom_rule.specs.declared.views.Plan.{Plan}

module _ {S : Type 0} (Contents : ℕ → List ℕ → S → ℕ → Type 0) (step : ℕ → S → ℕ → List ℕ → Option (S × List ℕ)) where
  -- that side is whole for the history that the call publishes, and the counts of faults go on from the records
  abbrev pub CanSwitch : Base → Plan → Side → ℕ → ℕ → Type 0
  CanSwitch b p Main before now = CanSwitchToMain Contents step b p before now
  CanSwitch b p Back before now = CanSwitchToBack Contents step b p before now

  -- Main: the batch of the calls that were found is published, and where there are any the pass has its record, with this moment. Back: the record's count of faults is that of now. No indicator counts as loaded any more.
  abbrev pub HasSwitched : WriterSeat → WriterSeat → Side → ℕ → ℕ → ℕ → Type 0
  HasSwitched s t Main before now moment = let p = plan s in (k : ℕ) × (more : List Entry) × IsBatch Contents step (writer_view s).base p k more × TellsEach Published k more p × SetsPlan s t (switched 0 (making Published before now moment k more p))
  HasSwitched s t Back before now moment = let p = plan s in SetsPlan s t (switched 1 (raising now p))
