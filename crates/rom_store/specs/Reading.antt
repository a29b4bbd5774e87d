-- What a call that reads leaves.
use Rattle.std.specs.Prelude.{◌≡◌, ℕ, ◌+◌, ◌≤◌, List, [], ◌∷◌, ◌++◌, length}
use Rattle.atomic_table.specs.Seated.{TableId}
use Rattle.rom_model.specs.History.{after}
use Rattle.rom_model.specs.Machine.{Machine, on_words}
use Rattle.rom_model.specs.Seen.{StartsWith}
use Rattle.rom_model.specs.declared.entry.Entry.{Entry}
use Rattle.rom_rule.specs.declared.views.Base.{Base}
use Rattle.rom_rule.specs.declared.views.View.{View}
use Rattle.rom_store.specs.Callers.{Caller, IsCallerOf, IsDatedBy, IsSameCaller}

-- of what a caller knows only the number of its steps changes
abbrev pub OnlySteps : View → View → Type 0
OnlySteps v w = w ≡ record v { steps = w.steps }

-- The counter has risen by the steps that the caller made.
pub record HasCountedSteps (v w : View) (before now : ℕ) : Type 0 where
  pub least : before ≤ now
  pub as_many : now + v.steps ≡ before + w.steps

-- Of an object, and of what a heap was opened with:
module _ {S C Q R A : Type 0} (m : Machine S C Q R A) (Contents : ℕ → List ℕ → S → ℕ → Type 0) (base : Base) where
  -- The answer is the object's in the state after these updates.
  abbrev pub IsAnswer : List Entry → Q → A → Type 0
  IsAnswer seen query answer = (s : S) (k : ℕ) → Contents base.order base.image s k → answer ≡ m.tell (after (on_words m) base.order s k seen) query

  -- A call that reads the state after these updates makes so many steps more than the query costs there, at most, and the counter rises by its steps.
  pub record HasCost (beyond : ℕ) (seen : List Entry) (query : Q) (v w : View) (before now : ℕ) : Type 0 where
    pub counted : HasCountedSteps v w before now
    pub most : (s : S) (k : ℕ) → Contents base.order base.image s k → now ≤ before + m.cost base.order (after (on_words m) base.order s k seen) query + beyond

  -- A caller of the store with this table has read once: the answer, and its front.
  pub record HasAnswered (table : TableId) (query : Q) (was now : Caller) (told : A × ℕ) : Type 0 where
    pub of : IsCallerOf Contents table base now
    pub same : IsSameCaller was now
    -- what it has now seen begins with all that it had seen
    pub later : StartsWith now.view.seen was.view.seen
    -- the front is the count at the opening, and one more for each update that it has now seen
    pub front : (s : S) (k : ℕ) → Contents base.order base.image s k → told.1 ≡ k + length now.view.seen
    -- the answer is the object's in the state after these updates
    pub answer : IsAnswer now.view.seen query told.0
    -- it keeps the front, behind those that it was told before
    pub fronts : now.view.fronts ≡ was.view.fronts ++ told.1 ∷ []
    -- it knows the moments at which what it has now seen was committed, and those that it knew stay as they were
    pub dated : IsDatedBy Contents (on_words m) base was.view now.view
    -- of what it knows only what it has seen, its moments, its fronts and the number of its steps change
    pub still : now.view ≡ record was.view { seen = now.view.seen; moments = now.view.moments; fronts = now.view.fronts; steps = now.view.steps }
