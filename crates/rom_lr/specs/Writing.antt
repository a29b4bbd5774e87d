-- What the writer's calls ask for, and what they leave.
use Rattle.std.specs.Prelude.{◌≡◌, ℕ, zero, suc, ◌-◌, List, [], ◌∷◌, ◌++◌, Some}
use Rattle.rom_lr.specs.Seats.{plan, writer_view}
use Rattle.rom_lr.specs.Side.{other_side, side_number}
use Rattle.rom_lr.specs.declared.seats.WriterSeat.{WriterSeat}
use Rattle.rom_lr.specs.declared.side.Side.{Side}
use Rattle.rom_rule.specs.Places.{indicator_of}
use Rattle.rom_rule.specs.Readers.{Settled}
use Rattle.rom_rule.specs.Views.{plan_of}
use Rattle.rom_rule.specs.declared.views.Plan.{Plan}
use Rattle.rom_rule.specs.declared.views.View.{View}

-- Nobody reads this side: `side` names the other one, and both waits are over since it was stored.
abbrev pub NobodyReads : WriterSeat → Side → Type 0
NobodyReads s side = ((plan s).side ≡ side_number (other_side side)) × Settled (writer_view s).base (plan s)

-- After some steps the writer's plan is p, and nothing else of its view has changed but their number.
abbrev pub SetsPlan : WriterSeat → WriterSeat → Plan → Type 0
SetsPlan s t p = (t.token.table_id ≡ s.token.table_id) × (t.token.id ≡ s.token.id) × (writer_view t ≡ record (writer_view s) { plan = Some p; steps = (writer_view t).steps })

-- After both waits nothing of the writer's plan has changed but `version` and which indicators count as loaded, and nothing else of its view but the number of its steps.
pub record HasWaited (s t : WriterSeat) : Type 0 where
  pub version : ℕ
  pub clear : List (ℕ × ℕ)
  pub writes : SetsPlan s t (record (plan s) { version = version; clear = clear })

-- the loads of one wait, of the callers up to this number, the last caller's first: each caller's indicator of the version, with what `version` was then
abbrev pub checks : ℕ → ℕ → ℕ → List (ℕ × ℕ)
checks version named zero = []
checks version named (suc n) = (indicator_of (suc n) version, named) ∷ checks version named n

-- The plan after one wait: all callers' indicators of this version were loaded as 0.
abbrev pub plan_after_wait : ℕ → ℕ → Plan → Plan
plan_after_wait version callers p = record p { clear = checks version p.version callers ++ p.clear }

-- The plan after both waits: all indicators of the other version were loaded as 0 while `version` named the former, then `version` was stored as the other, then all of the former were loaded as 0 while `version` named the other. The list has the last first, each with what `version` was at that load.
abbrev pub plan_after_both_waits : ℕ → Plan → Plan
plan_after_both_waits callers p = plan_after_wait p.version callers (record (plan_after_wait (1 - p.version) callers p) { version = 1 - p.version })

-- the writer's view but for main and the number of its steps
abbrev pub but_main : View → View
but_main v = record v { plan = Some (record (plan_of v) { main = [] }); steps = 0 }
