-- A follower of another heap's history: what it is sent, and what it has of that history.
use Rattle.std.specs.Prelude.{◌≡◌, ◌≢◌, ◌⊎◌, ℕ, ◌+◌, ◌^◌, ◌<◌, ◌≤◌, List, [], ◌∷◌, ◌++◌, length, map, take, drop, slice_get, All, IsTrue, None, Some}
use Rattle.rom_model.specs.History.{after}
use Rattle.rom_model.specs.Machine.{on_words}
use Rattle.rom_model.specs.Region.{Contents}
use Rattle.rom_model.specs.State.{State}
use Rattle.rom_model.specs.Trio.{trio}
use Rattle.rom_model.specs.declared.call.Updated.{Updated}
use Rattle.rom_model.specs.declared.call.Updated.TheVariants.{Done}
use Rattle.rom_model.specs.declared.entry.Entry.{Entry}
use Rattle.rom_model.specs.declared.record.Found.{Found}
use Rattle.rom_device.specs.Device.{Leaves, ShownDevice}
use Rattle.rom_header.specs.Held.{Holds}
use Rattle.rom_rule.specs.declared.views.Base.{Base}
use Rattle.rom_store.specs.Closing.{ClosedSeen}
use Rattle.rom_frame.specs.Frames.{entry_frame, frame_words}
use Rattle.rom_follow.specs.Followed.{Followed}
use Rattle.rom_follow.specs.Taking.{IsNoFrame}
use Rattle.rom_follow.specs.declared.taken.MessageTaken.{MessageTaken}
use Rattle.rom_follow.specs.declared.taken.MessageTaken.TheVariants.{Applied, Known, Diverged}

-- The words of an entry's update and reply, without whose it was: all entries of a follower are of caller 1,
-- and a state depends on the calls alone.
abbrev pub update_of : Entry → List ℕ × List ℕ
update_of e = (e.args, e.reply)

-- these entries are the first of the others, but for whose they are
abbrev pub AreFirstOf : List Entry → List Entry → Type 0
AreFirstOf history seen = map update_of seen ≡ map update_of (take (length seen) history)

-- Each call was that of the next entry: of the first one, and after each that was done of the one behind.
abbrev pub AreTries : List Entry → List (Found × Updated (List ℕ)) → Type 0
AreTries history [] = Unit {0}
AreTries [] (x ∷ xs) = ⊥
AreTries (e ∷ es) ((f, Done reply place) ∷ xs) = (f.args ≡ e.args) × AreTries es xs
AreTries (e ∷ es) ((f, other) ∷ xs) = (f.args ≡ e.args) × AreTries (e ∷ es) xs

-- The frames of these entries, the first of which is at that place, are of 64-bit words.
abbrev pub HasWords : ℕ → List Entry → Type 0
HasWords place [] = Unit {0}
HasWords place (e ∷ es) = All (λ w. w < 2 ^ 64) (frame_words place e.args e.reply) × HasWords (place + 1) es

-- the message is one of their frames
pub record IsFrameOf (place : ℕ) (history : List Entry) (message : List ℕ) : Type 0 where
  pub at : ℕ
  pub entry : Entry
  pub stands : slice_get history at ≡ Some entry
  pub is : message ≡ entry_frame (place + at) entry

-- it is one that was torn, of which the end is missing
pub record IsTorn (place : ℕ) (history : List Entry) (message : List ℕ) : Type 0 where
  pub missing : List ℕ
  pub some : missing ≢ []
  pub whole : IsFrameOf place history (message ++ missing)

-- What may arrive of a history's frames: one of them, one that was torn, or bytes that are no frame.
abbrev pub MayArrive : ℕ → List Entry → List ℕ → Type 0
MayArrive place history message = IsFrameOf place history message ⊎ IsTorn place history message ⊎ IsNoFrame message

-- Of a history that begins at this state and this count, and a heap of this order:
module _ (order : ℕ) (s0 : State) (n0 : ℕ) (history : List Entry) where
  -- the state after its first entries, so many
  abbrev pub state_after_first : ℕ → State
  state_after_first len = after (on_words trio) order s0 n0 (take len history)

  -- The image holds the state and the count after a prefix of the history that has at least so many entries.
  pub record HoldsPrefix (least : ℕ) (image : List ℕ) : Type 0 where
    pub len : ℕ
    pub least_is : least ≤ len
    pub within : len ≤ length history
    pub holds : Holds Contents order image (state_after_first len) (n0 + len)

-- The follower follows this history, which begins at a state and a count. It was opened at the state and the count after the first entries, so many; its own are those behind them, but for whose they are; each update that it tried was that of the entry which came next; and it has not diverged.
-- Clauses speak of every history at once, so a follower need not know whose it follows.
pub record FollowsHistory (base : Base) (s0 : State) (n0 : ℕ) (history : List Entry) (first : ℕ) (f : Followed) : Type 0 where
  pub within : first ≤ length history
  pub opening : Contents base.order base.image (state_after_first base.order s0 n0 history first) (n0 + first)
  pub entries : AreFirstOf (drop first history) f.history
  pub tries : AreTries (drop first history) f.tried
  pub agrees : f.diverged ≡ None

-- The answer is no divergence, and the entry whose frame was applied or known is below this count.
abbrev pub AgreesBelow : ℕ → MessageTaken → Type 0
AgreesBelow count (Applied place) = place < count
AgreesBelow count (Known place) = place < count
AgreesBelow count (Diverged place ours theirs) = ⊥
AgreesBelow count other = Unit {0}

-- What became of a heap that was opened on a device for messages of a history, and closed behind them. It held the state and the count after the first entries, so many.
pub record HasFollowed {D : Type 0} (shown : ShownDevice D) (order : ℕ) (s0 : State) (n0 : ℕ) (history : List Entry) (first : ℕ) (answers : List MessageTaken) (was : D) (closed : ClosedSeen D) : Type 0 where
  -- it ends with the state and the count after a prefix
  pub len : ℕ
  pub least : first ≤ len
  pub within : len ≤ length history
  pub ends : (s : State) (k : ℕ) → Contents closed.session.order closed.session.image s k → (after (on_words trio) closed.session.order s k closed.session.history ≡ state_after_first order s0 n0 history len) × (k + length closed.session.history ≡ n0 + len)
  -- no answer is a divergence, and the prefix has each entry that was applied or known
  pub agrees : All (AgreesBelow (n0 + len)) answers
  -- what a stop leaves now holds a prefix no shorter than the one at the opening, and what one at any moment since the opening might have left holds such a prefix, or could be left before
  pub now : IsTrue shown.tells_images → (i : List ℕ) → shown.leaves closed.device i → HoldsPrefix order s0 n0 history first i
  pub since : IsTrue shown.tells_images → Leaves shown (HoldsPrefix order s0 n0 history first) was closed.device
  -- so each one does, where those that the device could leave as it was opened do
  pub stopped : IsTrue shown.tells_images → ((i : List ℕ) → shown.leaves was i → HoldsPrefix order s0 n0 history first i) → (i : List ℕ) → shown.left_since closed.device (shown.clock was) i → HoldsPrefix order s0 n0 history first i
