-- A store whose callers all work in one thread, which does batches of its own making.
use Rattle.std.specs.Prelude.{◌≡◌, ◌≢◌, ℕ, ◌+◌, ◌<◌, ◌≤◌, List, [], ◌∷◌, ◌++◌, length, map, take, Option}
use Rattle.std.specs.List.{AllByRecursion}
use Rattle.atomic_table.specs.Seated.{TableId}
use Rattle.rom_model.specs.History.{LAST_COUNT, after, batch}
use Rattle.rom_model.specs.Passes.{HasFault, published}
use Rattle.rom_model.specs.VecSpace.{words_of_space}
use Rattle.rom_model.specs.declared.entry.Entry.{Entry}
use Rattle.rom_model.specs.declared.record.Fate.TheVariants.{Published}
use Rattle.rom_model.specs.declared.record.Found.{Found}
use Rattle.rom_model.specs.declared.record.PassRecord.{PassRecord}
use Rattle.rom_device.specs.Device.{ShownDevice}
use Rattle.rom_combine.specs.AtRest.{Locked}
use Rattle.rom_combine.specs.Told.{fate_of}
use Rattle.rom_combine.specs.declared.passed.Outcome.TheVariants.{Nothing}
use Rattle.rom_combine.specs.declared.passed.Passed.{Passed}
use Rattle.rom_rule.specs.Views.{plan_of, records_of}
use Rattle.rom_rule.specs.declared.views.Base.{Base}
use Rattle.rom_store.specs.Callers.{Caller, IsCallerOf, IsNumberedCaller}
use Rattle.rom_store.specs.Held.{IsBehindLock}
use Rattle.rom_store.specs.Indexed.{Indexed}
use Rattle.rom_store.specs.Start.{Start}
use Rattle.rom_store.specs.declared.begun.Begun.{Begun}

-- the heap with the writer's seat, how many callers there are, and how many batches were asked for
pub record LoneSeen (D : Type 0) : Type 0 where
  pub core : Locked D
  pub many : ℕ
  pub turns : ℕ

-- the words of the call of an entry
abbrev pub args_in : Entry → List ℕ
args_in e = e.args

-- those of its reply
abbrev pub reply_of : Entry → List ℕ
reply_of e = e.reply

-- the words of a call that a pass found
abbrev pub args_of : Found → List ℕ
args_of f = f.args

module _ {S : Type 0} (Contents : ℕ → List ℕ → S → ℕ → Type 0) (table : TableId) (base : Base) where
  -- a caller that was p is now q: one of the same store, with the same number, which has posted one call more at most
  pub record HasWorked (p q : Caller) : Type 0 where
    pub of : IsCallerOf Contents table base q
    pub number : q.view.number ≡ p.view.number
    pub few : length q.view.calls ≤ length p.view.calls + 1

  -- so each of these
  abbrev pub HaveWorked : List Caller → List Caller → Type 0
  HaveWorked [] [] = Unit {0}
  HaveWorked (p ∷ ps) (q ∷ qs) = HasWorked p q × HaveWorked ps qs
  HaveWorked ps qs = ⊥

  -- each is one of the store, and can post a call more
  abbrev pub MayPost : ℕ → List Caller → Type 0
  MayPost most callers = AllByRecursion (λ p. IsCallerOf Contents table base p × (length p.view.calls < most)) callers

-- What holds of the store between two batches.
pub record IsLone {D S : Type 0} (shown : ShownDevice D) (Contents : ℕ → List ℕ → S → ℕ → Type 0) (step : ℕ → S → ℕ → List ℕ → Option (S × List ℕ)) (table : TableId) (base : Base) (start : Start) (test : ℕ → List ℕ → Type 0) (named : TableId) (based : Base) (begun : Begun) (core : Locked D) (passes : List Caller) (turns : ℕ) : Type 0 where
  pub behind : IsBehindLock shown Contents step table base start test core
  pub named_is : named ≡ table
  pub based_is : based ≡ base
  pub order_is : begun.order ≡ base.order
  pub image_is : words_of_space begun.image.value ≡ base.image
  pub faults_is : begun.faults ≡ base.faults
  pub numbered : Indexed (IsNumberedCaller Contents table base) passes
  pub many : length passes ≡ base.callers
  pub posted : AllByRecursion (λ p. length p.view.calls ≤ turns) passes

-- A batch, from the one core to the other.
module _ {D S : Type 0} (shown : ShownDevice D) (Contents : ℕ → List ℕ → S → ℕ → Type 0) (step : ℕ → S → ℕ → List ℕ → Option (S × List ℕ)) (old new : Locked D) where
  -- what the batch of these calls did
  pub record HasDoneCalls (calls replies : List (List ℕ)) (result : Passed) : Type 0 where
    -- The history grows by entries of the first calls, in their order, each by its step: by those of all calls, or of none where the pass was not published. At the count's limit the other calls are not done.
    pub more : List Entry
    pub pass : PassRecord
    pub history : (plan_of new.view).history ≡ (plan_of old.view).history ++ more
    pub args : map args_in more ≡ take (length more) calls
    pub steps : (let b = old.view.base in (s : S) (k : ℕ) → Contents b.order b.image s k → let had = (plan_of old.view).history in
        more ≡ published pass.fate (batch step b.order (after step b.order s k had) (k + length had) pass.found))
    pub done : result.done ≡ length more
    pub limit : (let b = old.view.base in (s : S) (k : ℕ) → Contents b.order b.image s k → k + length (plan_of old.view).history ≤ LAST_COUNT → pass.fate ≡ Published → length more < length calls → k + length (plan_of new.view).history ≡ LAST_COUNT)
    -- where any is done, the words of the replies
    pub replies_are : 0 < length more → replies ≡ map reply_of more
    -- One record more, of a pass that found just these calls. It failed or is in doubt only where the device failed.
    pub records : records_of (plan_of new.view) ≡ records_of (plan_of old.view) ++ pass ∷ []
    pub found : map args_of pass.found ≡ calls
    pub fate_is : pass.fate ≡ fate_of result.outcome
    pub some : result.outcome ≢ Nothing
    pub len_is : pass.len ≡ length (plan_of new.view).history
    pub cause : HasFault pass.fate (shown.faults old.twin.device) (shown.faults new.twin.device)
