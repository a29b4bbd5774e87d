-- The rule: what holds between any two steps.
use Rattle.std.specs.Prelude.{◌≡◌, ℕ, ◌≤◌, List, length, map, Option, Some, None}
use Rattle.atomic_table.specs.Table.{State}
use Rattle.rom_rule.specs.declared.views.Base.{Base}
use Rattle.rom_rule.specs.declared.views.Plan.{Plan}
use Rattle.rom_rule.specs.declared.views.View.{View}
use Rattle.rom_rule.specs.Calls.{Announced}
use Rattle.rom_rule.specs.Places.{shown, table_len}
use Rattle.rom_rule.specs.Readers.{ShowsArrivals, StandsAtOwn, ReadsNamedSide, Differ, HoldsNothing, IsNumbered, KeepsImage, IsWritten}
use Rattle.rom_rule.specs.Records.{Remembers, Recorded, IsCall}
use Rattle.rom_rule.specs.Views.{Each, base_in, number_in, position_in, reading_in, remembered_in, calls_in, plan_in, book_in, plan_calls}

-- only the writer's view has a plan
abbrev pub IsOnlyPlan : Plan → ℕ → ℕ → Option Plan → Type 0
IsOnlyPlan p writer id None = Unit {0}
IsOnlyPlan p writer id (Some q) = (q ≡ p) × (id ≡ writer)

-- Callers' numbers differ and are at most as many as were given, and only a view with a number stands at an indicator, one of its own, or holds anything of a caller's: a note or a view that was spent has no number and holds nothing.
pub record AreSeats (dealt : ℕ) (views : List View) : Type 0 where
  pub differ : Differ (map number_in views)
  pub given : Each (λ _ n. n ≤ dealt) (map number_in views)
  pub standing : Each (λ _. IsNumbered) views
  pub own : Each (λ _. StandsAtOwn) views
  pub bare : Each (λ _. HoldsNothing) views

-- Of an object: what a region's words stand for, and its step on words. Of what the table was opened with, and the table as it is between two steps.
module _ {S : Type 0} (Contents : ℕ → List ℕ → S → ℕ → Type 0) (step : ℕ → S → ℕ → List ℕ → Option (S × List ℕ)) where
  -- What holds of the table's words and of all views between any two steps.
  pub record IsRuled (b : Base) (s : State ℕ View) : Type 0 where
    -- the writer's plan, and the writer's seat
    pub plan : Plan
    pub writer : ℕ
    -- the state and the count that the opening image stands for
    pub start : S
    pub count : ℕ
    pub opening : Contents b.order b.image start count
    pub wide : length s.words ≡ table_len b.order b.callers
    pub limits : (b.callers ≤ 16) × (plan.dealt ≤ b.callers)
    pub bases : Each (λ _ c. c ≡ b) (map base_in s.views)
    pub plans : Each (IsOnlyPlan plan writer) (map plan_in s.views)
    -- each indicator is 1 where its caller's view stands there, and 0 else
    pub arrivals : ShowsArrivals b.callers (shown b s.words).indicators (map position_in s.views)
    -- a reading view's image is its side's words, at its front
    pub images : Each (λ _ c. KeepsImage Contents step b plan.main plan.back c.0 c.1) (map reading_in s.views)
    -- the words are those of the writer's plan, and the side that `side` names is whole
    pub written : IsWritten Contents step b start count (shown b s.words) plan
    -- no caller's view that arrived at an indicator that was loaded as 0 since reads the side that was left
    pub named : Each (λ _. ReadsNamedSide b.callers plan) (map position_in s.views)
    -- what views have seen begins the history, and their fronts are boundaries
    pub remembered : Each (λ _. Remembers count (book_in plan)) (map remembered_in s.views)
    -- the history is that of the records
    pub recorded : Recorded step b start count (book_in plan)
    -- the slots, the records and the views agree on calls
    pub announced : Announced (IsCall step b) b.callers (shown b s.words).slots count (plan_calls plan) (map calls_in s.views)
    pub seats : AreSeats plan.dealt s.views
