-- A caller's work on its script.
use Rattle.std.specs.Prelude.{◌≡◌, ℕ, ◌+◌, ◌-◌, ◌<◌, ◌≤◌, List, [], ◌∷◌, ◌++◌, length, unwrap_or, slice_get}
use Rattle.atomic_table.specs.Seated.{TableId}
use Rattle.rom_model.specs.History.{LAST_COUNT}
use Rattle.rom_model.specs.declared.kept.Kept.{Kept}
use Rattle.rom_model.specs.declared.line.Step.{Step}
use Rattle.rom_model.specs.declared.line.LineResult.{LineResult}
use Rattle.rom_model.specs.Heard.{HasHeard}
use Rattle.rom_model.specs.Machine.{Machine}
use Rattle.rom_lines.specs.Replies.{HasRoomFor, Reserved, TookRoom}
use Rattle.rom_lines.specs.Steps.{need}
use Rattle.rom_rule.specs.declared.views.Base.{Base}
use Rattle.rom_store.specs.Callers.{Caller, IsCallerOf}
use Rattle.rom_store.specs.Closing.{kept_in}

-- the lines of the caller with this number; callers are numbered from 1
abbrev pub script_of : {X : Type 0} → List (List X) → ℕ → List X
script_of scripts number = unwrap_or (slice_get scripts (number - 1)) []

-- what a caller keeps that has seen nothing
pub record HasSeenNothing (v : Kept) : Type 0 where
  pub seen : v.seen ≡ []
  pub fronts : v.fronts ≡ []
  pub told : v.told ≡ []

-- A caller that has done nothing, and has learnt of nobody, may take these lines: it may post a call for each, there is room for a result of each, and the opening image stands for some state and count.
pub record MayTakeLines {S C Q T : Type 0} (Contents : ℕ → List ℕ → S → ℕ → Type 0) (call_words : C → List ℕ) (table : TableId) (base : Base) (lines : List (Step C Q)) (pass : Caller) (results : Reserved T) : Type 0 where
  pub of : IsCallerOf Contents table base pass
  pub opened : (s : S) × (k : ℕ) × Contents base.order base.image s k
  pub few : length lines ≤ LAST_COUNT
  pub first : HasSeenNothing (kept_in pass)
  pub alone : pass.view.joined ≡ []
  pub none : results.items ≡ []
  pub fits : HasRoomFor call_words lines results

-- No results stand at this place, and there is room for one of each line of its script.
pub record HasReservedRoom {C Q T : Type 0} (call_words : C → List ℕ) (scripts : List (List (Step C Q))) (i : ℕ) (results : Reserved T) : Type 0 where
  pub none : results.items ≡ []
  pub fits : HasRoomFor call_words (script_of scripts (i + 1)) results

-- A pass and results are those of a caller that hasn't begun and has learnt of nobody, and there is room for a result of each of its lines.
pub record HasNotBegun {S C Q T : Type 0} (Contents : ℕ → List ℕ → S → ℕ → Type 0) (call_words : C → List ℕ) (table : TableId) (base : Base) (scripts : List (List (Step C Q))) (pass : Caller) (results : Reserved T) : Type 0 where
  pub of : IsCallerOf Contents table base pass
  pub from_one : 0 < pass.view.number
  pub known : pass.view.number ≤ length scripts
  pub first : HasSeenNothing (kept_in pass)
  pub alone : pass.view.joined ≡ []
  pub none : results.items ≡ []
  pub fits : HasRoomFor call_words (script_of scripts pass.view.number) results

-- The job at this place of a list that has the last caller first: of so many callers, one that hasn't begun.
pub record IsNext {S C Q T : Type 0} (Contents : ℕ → List ℕ → S → ℕ → Type 0) (call_words : C → List ℕ) (table : TableId) (base : Base) (scripts : List (List (Step C Q))) (j : ℕ) (pass : Caller) (results : Reserved T) : Type 0 where
  pub ready : HasNotBegun Contents call_words table base scripts pass results
  pub place : pass.view.number + j ≡ length scripts

-- Of an object, and of a heap's order and image at opening:
module _ {S C Q R A : Type 0} (m : Machine S C Q R A) (Contents : ℕ → List ℕ → S → ℕ → Type 0) (base : Base) where
  -- what the caller of this pass was told of these lines is what it keeps, and it has learnt of nobody
  pub record HasDoneLines (pass : Caller) (lines : List (Step C Q)) (results : List (LineResult R A)) : Type 0 where
    pub alone : pass.view.joined ≡ []
    pub heard : (s : S) (k : ℕ) → Contents base.order base.image s k → HasHeard m base.order s k (kept_in pass) lines results

  -- The caller has taken these lines, and its results stand for them.
  pub record HasWorked (table : TableId) (lines : List (Step C Q)) (was pass : Caller) (results : List (LineResult R A)) : Type 0 where
    pub of : IsCallerOf Contents table base pass
    pub number : pass.view.number ≡ was.view.number
    pub done : HasDoneLines pass lines results

  -- One line more was taken, which asks for this: its result stands behind those of the lines before, and took no more room than was reserved for it.
  pub record HasTaken (asks : Step C Q) (was pass : Caller) (before results : Reserved (LineResult R A)) : Type 0 where
    pub used : ℕ
    pub few : used ≤ need m.call_words asks
    pub room : TookRoom before results used
    pub done : (lines : List (Step C Q)) → HasDoneLines was lines before.items → HasDoneLines pass (lines ++ asks ∷ []) results.items

  -- the job at this place, once its caller is done
  pub record IsPast (table : TableId) (scripts : List (List (Step C Q))) (j : ℕ) (pass : Caller) (results : List (LineResult R A)) : Type 0 where
    pub of : IsCallerOf Contents table base pass
    pub place : pass.view.number + j ≡ length scripts
    pub done : HasDoneLines pass (script_of scripts pass.view.number) results
