-- Where a caller stands, and what its calls leave of it.
use Rattle.std.specs.Prelude.{◌≡◌, Bool, ℕ, ◌+◌, List, ◌∷◌, [], ◌++◌, Option, None, Some, false, true}
use Rattle.std.specs.Bool.{OnFalse, OnTrue}
use Rattle.atomic_table.specs.Seated.{TableId}
use Rattle.rom_model.specs.Machine.{Machine, on_words}
use Rattle.rom_model.specs.Seen.{StartsWith}
use Rattle.rom_model.specs.declared.call.Updated.{Updated}
use Rattle.rom_rule.specs.Views.{fresh_view, front_of}
use Rattle.rom_rule.specs.declared.views.Base.{Base}
use Rattle.rom_rule.specs.declared.views.Position.TheVariants as position
use Rattle.rom_rule.specs.declared.views.View.{View}
use Rattle.rom_store.specs.Blank.{no_base, no_table}
use Rattle.rom_store.specs.Callers.{Caller, IsCallerOf, IsDatedBy, IsReaderOf, IsSameCaller}
use Rattle.rom_store.specs.Reading.{HasAnswered, IsAnswer, OnlySteps}
use Rattle.rom_store.specs.Updating.{HasUpdated}

-- whether a caller is within a state, and what it has seen and was told
pub record Standing : Type 0 where
  pub within : Bool
  pub caller : Caller

-- outside of a state
abbrev pub outside : Caller → Standing
outside p = record { within = false; caller = p }

-- within one
abbrev pub within : Caller → Standing
within p = record { within = true; caller = p }

-- how it stands by its pass, which it has outside of a state, or by what reads it, which it has within one
abbrev pub standing_in : Option Caller → Option Caller → Standing
standing_in (Some pass) reading = outside pass
standing_in None (Some reading) = within reading
standing_in None None = outside (record { table_id = no_table; view = fresh_view no_base })

-- A caller outside of a state stays as it is. Within one it makes a step, by which it is outside.
pub record HasLeft (was now : Standing) : Type 0 where
  pub outside : now.within ≡ false
  pub still : OnFalse was.within (now.caller ≡ was.caller)
  pub stepped : OnTrue was.within (IsSameCaller was.caller now.caller × (now.caller.view ≡ record was.caller.view { position = position.Out; steps = was.caller.view.steps + 1 }))

module _ {S : Type 0} (Contents : ℕ → List ℕ → S → ℕ → Type 0) (step : ℕ → S → ℕ → List ℕ → Option (S × List ℕ)) (table : TableId) (base : Base) where
  -- It has one of both, and what has it is as the store's rule wants it.
  abbrev pub IsOf : Option Caller → Option Caller → Type 0
  IsOf (Some pass) None = IsCallerOf Contents table base pass
  IsOf None (Some reading) = IsReaderOf Contents step table base reading
  IsOf (Some pass) (Some reading) = ⊥
  IsOf None None = ⊥

  -- A caller has entered one committed state, the one after all that it has now seen; it keeps that state's front, behind those that it was told before.
  pub record IsWithin (was now : Caller) : Type 0 where
    pub of : IsReaderOf Contents step table base now
    pub same : IsSameCaller was now
    pub later : StartsWith now.view.seen was.view.seen
    pub fronts : now.view.fronts ≡ was.view.fronts ++ front_of now.view.position ∷ []
    pub dated : IsDatedBy Contents step base was.view now.view
    pub still : now.view ≡ record was.view { position = now.view.position; seen = now.view.seen; moments = now.view.moments; fronts = now.view.fronts; steps = was.view.steps + 3 }

  -- A caller within a state stays as it is. Outside of one it enters one.
  pub record HasEntered (was now : Standing) : Type 0 where
    pub within : now.within ≡ true
    pub stays : OnTrue was.within (now.caller ≡ was.caller)
    pub entered : OnFalse was.within (IsWithin was.caller now.caller)

module _ {S C Q R A : Type 0} (m : Machine S C Q R A) (Contents : ℕ → List ℕ → S → ℕ → Type 0) (table : TableId) (base : Base) where
  -- A caller that reads a state has read it once more: the answer, and the state's front.
  pub record HasAsked (query : Q) (was now : Caller) (told : A × ℕ) : Type 0 where
    pub of : IsReaderOf Contents (on_words m) table base now
    pub same : IsSameCaller was now
    pub front : told.1 ≡ front_of was.view.position
    pub answer : IsAnswer m Contents base was.view.seen query told.0
    pub still : OnlySteps was.view now.view

  -- Within a state that is read, and outside of one a newer one.
  pub record HasRead (query : Q) (was now : Standing) (told : A × ℕ) : Type 0 where
    pub stands : now.within ≡ was.within
    pub asked : OnTrue was.within (HasAsked query was.caller now.caller told)
    pub read : OnFalse was.within (HasAnswered m Contents base table query was.caller now.caller told)

  -- The state that it is within has ended, and this became of a call with these words, as it does of a call of the store.
  pub record HasUpdatedFrom (words : List ℕ) (answer : Updated R) (was now : Standing) : Type 0 where
    pub outside : now.within ≡ false
    pub left : Standing
    pub has_left : HasLeft was left
    pub updated : HasUpdated m Contents table base words answer left.caller now.caller

-- A caller outside of a state has told what it has seen, and knows no more and no less.
pub record HasNoted (was : Caller) (note : View) (now : Caller) : Type 0 where
  pub same : IsSameCaller was now
  pub seen : note.seen ≡ was.view.seen
  pub moments : note.moments ≡ was.view.moments
  pub still : now.view ≡ record was.view { steps = now.view.steps }

-- It has seen what it had, and what the note's caller had seen.
pub record HasLearnt {S : Type 0} (Contents : ℕ → List ℕ → S → ℕ → Type 0) (step : ℕ → S → ℕ → List ℕ → Option (S × List ℕ)) (base : Base) (was : Caller) (note : View) (now : Caller) : Type 0 where
  pub same : IsSameCaller was now
  pub later : StartsWith now.view.seen was.view.seen
  pub learnt : StartsWith now.view.seen note.seen
  pub dated : IsDatedBy Contents step base was.view now.view
  pub moments : StartsWith now.view.moments note.moments
  pub still : now.view ≡ record was.view { seen = now.view.seen; moments = now.view.moments; joined = now.view.joined; steps = now.view.steps }
