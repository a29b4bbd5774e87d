-- A table whose callers have their seats, before its device is opened.
use Rattle.std.specs.Prelude.{◌≡◌, ℕ, List, length}
use Rattle.rom_model.specs.VecSpace.{words_of_space}
use Rattle.rom_lr.specs.Opening.{dealt_view}
use Rattle.rom_lr.specs.Seats.{IsWriterOf, opened_with, writer_view}
use Rattle.rom_combine.specs.AtRest.{IsReady}
use Rattle.rom_rule.specs.declared.views.Base.{Base}
use Rattle.rom_store.specs.Callers.{IsNewCaller}
use Rattle.rom_store.specs.Indexed.{Indexed}
use Rattle.rom_store.specs.declared.seated.Seated.{Seated}

-- It is opened with this, whose image stands for some state and count; the writer has dealt the seats, the log is clear and has room for so many stores of each caller, and there is a pass of a new caller for each.
pub record IsSeated {S Object Call Query Reply Answer : Type 0} (Contents : ℕ → List ℕ → S → ℕ → Type 0) (stores : ℕ) (base : Base) (t : Seated Object Call Query Reply Answer) : Type 0 where
  pub formed : (s : S) × (k : ℕ) × Contents base.order base.image s k
  pub of : IsWriterOf t.shared t.writer
  pub base_is : opened_with t.shared ≡ base
  pub writer : writer_view t.writer ≡ dealt_view (opened_with t.shared) base.callers
  pub ready : IsReady stores base.callers t.log
  pub many : length t.passes.items ≡ base.callers
  pub passes : Indexed (IsNewCaller Contents t.shared.table.shared.table_id (opened_with t.shared)) t.passes.items
  pub begun : (t.begun.order ≡ base.order) × (words_of_space t.begun.image.value ≡ base.image) × (t.begun.faults ≡ base.faults)

-- what an opening of this order, for so many callers, of this image begins with
abbrev pub base_for : ℕ → ℕ → List ℕ → ℕ → Base
base_for order callers image faults = record { order = order; callers = callers; image = image; faults = faults }
