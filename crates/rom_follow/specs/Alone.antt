-- The one caller of a follower's store.
use Rattle.std.specs.Prelude.{◌≡◌, ℕ, ◌+◌, ◌<◌, ◌≤◌, List, [], ◌∷◌, ◌++◌, length, Option}
use Rattle.atomic_table.specs.Seated.{TableId}
use Rattle.rom_model.specs.History.{IsLegal, LAST_COUNT}
use Rattle.rom_model.specs.Machine.{on_words}
use Rattle.rom_model.specs.Region.{Contents}
use Rattle.rom_model.specs.State.{State}
use Rattle.rom_model.specs.Trio.{trio}
use Rattle.rom_model.specs.declared.call.Call.{Call}
use Rattle.rom_model.specs.declared.call.Reply.{Reply}
use Rattle.rom_model.specs.declared.call.Updated.{Updated}
use Rattle.rom_model.specs.declared.call.Updated.TheVariants.{Done, Spent, Failed, Doubt}
use Rattle.rom_model.specs.declared.entry.Entry.{Entry}
use Rattle.rom_rule.specs.Views.{Told}
use Rattle.rom_rule.specs.declared.views.Base.{Base}
use Rattle.rom_rule.specs.declared.views.View.{View}
use Rattle.rom_store.specs.Callers.{Caller, IsNumberedCaller}
use Rattle.rom_follow.specs.Followed.{Followed, HasDoneUpdates}
use Rattle.rom_follow.specs.Taking.{entry_at}
use Rattle.rom_follow.specs.declared.taken.Divergence.{Divergence}

-- The caller is the only one of the store with this table and this opening, whose image stands for some state and count; so it has learnt of no other.
pub record IsAlone (table : TableId) (base : Base) (p : Caller) : Type 0 where
  pub one : base.callers ≡ 1
  pub formed : (s : State) × (k : ℕ) × Contents base.order base.image s k
  pub numbered : IsNumberedCaller Contents table base 0 p
  pub nobody : p.view.joined ≡ []

-- What became of its update, from the state and the count of the opening. One that is done has the next place, and its entry is all that the caller has seen since; of one that is not, it has seen nothing. `Spent` comes only where the count is the last.
abbrev pub IsOutcome : ℕ → State → ℕ → Call → View → Updated Reply → View → Type 0
IsOutcome order s k call old (Done reply place) new =
    (place ≡ k + length old.seen) × (place < LAST_COUNT)
    × (new.seen ≡ old.seen ++ entry_at (length old.outcomes) call reply ∷ [])
    × IsLegal (on_words trio) order s k new.seen
IsOutcome order s k call old Spent new = (new.seen ≡ old.seen) × (LAST_COUNT ≤ k + length old.seen)
IsOutcome order s k call old Failed new = new.seen ≡ old.seen
IsOutcome order s k call old Doubt new = new.seen ≡ old.seen

-- what the one caller in a list has seen
abbrev pub seen_by : List Caller → List Entry
seen_by [] = []
seen_by (p ∷ ps) = p.view.seen

-- what became of the updates of the one caller in a list
abbrev pub tried_by : List Caller → List Told
tried_by [] = []
tried_by (p ∷ ps) = p.view.outcomes

-- the follower with this count and this caller
abbrev pub followed : ℕ → List Caller → Option Divergence → Followed
followed count passes diverged = record { count = count; history = seen_by passes; tried = tried_by passes; diverged = diverged }

-- What holds of each follower.
pub record IsFollower (table : TableId) (base : Base) (passes : List Caller) (f : Followed) : Type 0 where
  pub only : (p : Caller) × (passes ≡ p ∷ []) × IsAlone table base p
  pub done : (s : State) (k : ℕ) → Contents base.order base.image s k → HasDoneUpdates base.order s k f
