-- What the records of a follower's session have of the updates that it tried.
use Rattle.std.specs.Prelude.{◌≡◌, ℕ, List, [], ◌∷◌, None}
use Rattle.std.specs.Global.{Vec}
use Rattle.rom_model.specs.Region.{Contents}
use Rattle.rom_model.specs.State.{State}
use Rattle.rom_model.specs.declared.call.Updated.{Updated}
use Rattle.rom_model.specs.declared.call.Updated.TheVariants as updated
use Rattle.rom_model.specs.declared.kept.Kept.{Kept}
use Rattle.rom_model.specs.declared.record.Fate.{Fate}
use Rattle.rom_model.specs.declared.record.Fate.TheVariants.{Published, Failed, Doubt}
use Rattle.rom_model.specs.declared.record.PassRecord.{PassRecord}
use Rattle.rom_rule.specs.Views.{Told}
use Rattle.rom_store.specs.Sessions.{SessionSeen}
use Rattle.rom_follow.specs.Followed.{Followed}
use Rattle.rom_follow.specs.Taking.{AreTaken}
use Rattle.rom_follow.specs.declared.taken.MessageTaken.{MessageTaken}

-- what a pass that ended so tells the one update that it found
abbrev pub TellsUpdate : Fate → Updated (List ℕ) → Type 0
TellsUpdate Published (updated.Done reply place) = Unit {0}
TellsUpdate Published updated.Spent = Unit {0}
TellsUpdate Failed updated.Failed = Unit {0}
TellsUpdate Doubt updated.Doubt = Unit {0}
TellsUpdate other told = ⊥

-- One pass for each update that was tried, in their order: it found that update alone, and ended as the update was told.
abbrev pub ArePassesOf : List PassRecord → List Told → Type 0
ArePassesOf [] [] = Unit {0}
ArePassesOf (r ∷ rs) (x ∷ xs) = (r.found ≡ x.0 ∷ []) × TellsUpdate r.fate x.1 × ArePassesOf rs xs
ArePassesOf rs xs = ⊥

-- The follower's session had one caller. It keeps that it has seen the follower's history, and what became of each update that was tried.
pub record KeepsWhole (f : Followed) (callers : List Kept) : Type 0 where
  pub own : Kept
  pub only : callers ≡ own ∷ []
  pub number : own.number ≡ 1
  pub seen : own.seen ≡ f.history
  pub told : own.told ≡ f.tried

-- The session of a follower that had done nothing, and took these messages with these answers: its history and its passes are those of what the follower did, which its one caller keeps whole.
pub record HasTakenMessages (messages : List (Vec ℕ)) (answers : List MessageTaken) (session : SessionSeen) : Type 0 where
  pub begun : Followed
  pub ended : Followed
  pub none : (begun.history ≡ []) × (begun.tried ≡ []) × (begun.diverged ≡ None)
  pub count : (s : State) (k : ℕ) → Contents session.order session.image s k → begun.count ≡ k
  pub taken : AreTaken messages begun answers ended
  pub history : session.history ≡ ended.history
  pub passes : ArePassesOf session.records ended.tried
  pub kept : KeepsWhole ended session.callers
