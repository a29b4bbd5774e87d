-- A pass that has come to rest.
use Rattle.std.specs.Prelude.{ℕ, List}
use Rattle.rom_lr.specs.Seats.{plan}
use Rattle.rom_lr.specs.Writing.{SetsPlan}
use Rattle.rom_lr.specs.declared.seats.WriterSeat.{WriterSeat}
use Rattle.rom_rule.specs.Kinds.{raising, switched}
use Rattle.rom_rule.specs.declared.views.Plan.{Plan}

-- The plan after a published batch has settled: back is what main is, `side` names back, this pass's record has that count of faults, and `version` and which indicators count as loaded are as the waits left them. The requests and what they are told stay.
abbrev pub rested : ℕ → ℕ → List (ℕ × ℕ) → Plan → Plan
rested faults version clear p = record (switched 1 (raising faults (record p { back = p.main }))) { version = version; clear = clear }

-- after some steps the writer's plan is that one, and nothing else of its view has changed but their number
pub record HasRested (faults : ℕ) (s t : WriterSeat) : Type 0 where
  pub version : ℕ
  pub clear : List (ℕ × ℕ)
  pub writes : SetsPlan s t (rested faults version clear (plan s))
