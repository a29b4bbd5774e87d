-- What a message does to a follower.
use Rattle.std.specs.Prelude.{◌≡◌, ◌≢◌, ◌⊎◌, ℕ, ◌+◌, ◌<◌, ◌≤◌, List, [], ◌∷◌, ◌++◌, length, None, Some, IfSome}
use Rattle.std.specs.Global.{Vec}
use Rattle.rom_model.specs.Codes.{call_words, reply_words}
use Rattle.rom_model.specs.History.{LAST_COUNT}
use Rattle.rom_model.specs.declared.call.Call.{Call}
use Rattle.rom_model.specs.declared.call.Reply.{Reply}
use Rattle.rom_model.specs.declared.call.Updated.{Updated}
use Rattle.rom_model.specs.declared.call.Updated.TheVariants as updated
use Rattle.rom_model.specs.declared.entry.Entry.{Entry}
use Rattle.rom_model.specs.declared.record.Found.{Found}
use Rattle.rom_frame.specs.Frames.{IsOfWords, frame}
use Rattle.rom_frame.specs.declared.frame.Frame.{Frame}
use Rattle.rom_follow.specs.Followed.{Followed}
use Rattle.rom_follow.specs.declared.taken.MessageTaken.{MessageTaken}
use Rattle.rom_follow.specs.declared.taken.MessageTaken.TheVariants.{Applied, Known, Early, NotAFrame, Diverged, Spent, Failed, Doubt}

-- the message is this frame, from its first byte to its last
abbrev pub IsFrame : Frame → List ℕ → Type 0
IsFrame f message = IsOfWords f × (message ≡ frame f)

-- it is none
abbrev pub IsNoFrame : List ℕ → Type 0
IsNoFrame message = (f : Frame) → IsOfWords f → message ≢ frame f

-- the call as the follower, which is caller 1, posts it behind so many others
abbrev pub found_at : ℕ → Call → Found
found_at many call = record { caller = 1; seq = many; args = call_words call }

-- the entry of that update, which was told this
abbrev pub entry_at : ℕ → Call → Reply → Entry
entry_at many call reply = record { caller = 1; seq = many; args = call_words call; reply = reply_words reply }

-- the follower that has tried the call, and did not do it
abbrev pub failing : Followed → Call → Updated (List ℕ) → Followed
failing f call told = record f { tried = f.tried ++ (found_at (length f.tried) call, told) ∷ [] }

-- the follower that has done the call, at its count: the history has one entry more, and the count is one greater
abbrev pub doing : Followed → Call → Reply → Followed
doing f call reply = record f {
  count = f.count + 1;
  history = f.history ++ entry_at (length f.tried) call reply ∷ [];
  tried = f.tried ++ (found_at (length f.tried) call, updated.Done (reply_words reply) f.count) ∷ [];
}

-- What becomes of the frame whose place is the count. It is applied where its update is told the reply of the frame, and done but divergent where it is told another, of other words. Else it was not done, and the state stays: `Spent` comes only where the count is the last, or so many updates were tried that no other can be.
abbrev pub TakesNextFrame : Frame → Followed → MessageTaken → Followed → Type 0
TakesNextFrame f old (Applied place) new = (place ≡ f.place) × (new ≡ doing old f.call f.reply)
TakesNextFrame f old (Diverged place ours theirs) new =
    (place ≡ f.place) × (theirs ≡ f.reply) × (reply_words ours ≢ reply_words theirs)
    × (new ≡ record (doing old f.call ours) { diverged = Some record { place = place; ours = ours; theirs = theirs } })
TakesNextFrame f old Spent new =
    ((f.place ≡ LAST_COUNT) × (new ≡ failing old f.call updated.Spent))
    ⊎ ((LAST_COUNT ≤ length old.tried) × (new ≡ old))
TakesNextFrame f old Failed new = new ≡ failing old f.call updated.Failed
TakesNextFrame f old Doubt new = new ≡ failing old f.call updated.Doubt
TakesNextFrame f old other new = ⊥

-- What a frame does, by its place: below the count it is known, above it it is early, and both leave the follower as it was.
pub record TakesFrame (f : Frame) (old : Followed) (answer : MessageTaken) (new : Followed) : Type 0 where
  pub known : f.place < old.count → (answer ≡ Known f.place) × (new ≡ old)
  pub early : old.count < f.place → (answer ≡ Early f.place old.count) × (new ≡ old)
  pub next : f.place ≡ old.count → TakesNextFrame f old answer new

-- What a message does. The first of these that holds counts: the heaps had parted, and the answer is the same again; it is no frame; it is one.
pub record TakesMessage (message : List ℕ) (old : Followed) (answer : MessageTaken) (new : Followed) : Type 0 where
  pub parted : IfSome old.diverged (λ d. (answer ≡ Diverged d.place d.ours d.theirs) × (new ≡ old))
  pub no_frame : old.diverged ≡ None → IsNoFrame message → (answer ≡ NotAFrame) × (new ≡ old)
  pub frame : old.diverged ≡ None → (f : Frame) → IsFrame f message → TakesFrame f old answer new

-- so each of these messages, one after another
abbrev pub AreTaken : List (Vec ℕ) → Followed → List MessageTaken → Followed → Type 0
AreTaken [] old [] new = new ≡ old
AreTaken (m ∷ messages) old (a ∷ answers) new = (next : Followed) × TakesMessage m.items old a next × AreTaken messages next answers new
AreTaken messages old answers new = ⊥
