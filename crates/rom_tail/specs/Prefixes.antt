-- What a heap has of another heap's history, whose frames it took.
use Rattle.std.specs.Prelude.{◌≡◌, ◌≢◌, ℕ, ◌+◌, ◌≤◌, List, length, IsTrue, slice_get, Some}
use Rattle.std.specs.List.{AllByRecursion}
use Rattle.rom_model.specs.Codes.{call_words, reply_words}
use Rattle.rom_model.specs.History.{IsLegal, after}
use Rattle.rom_model.specs.Machine.{on_words}
use Rattle.rom_model.specs.State.{State}
use Rattle.rom_model.specs.Story.{Story, count}
use Rattle.rom_model.specs.Trio.{trio}
use Rattle.rom_model.specs.declared.entry.Entry.{Entry}
use Rattle.rom_device.specs.Device.{Leaves, ShownDevice}
use Rattle.rom_frame.specs.declared.frame.Frame.{Frame}
use Rattle.rom_follow.specs.Following.{HoldsPrefix, state_after_first}
use Rattle.rom_replica.specs.declared.stop.Stop.{Stop}
use Rattle.rom_replica.specs.declared.stop.Stop.TheVariants.{Diverged}

-- The frame is that of an entry of this history, the first of which is at that place.
pub record IsFrameIn (place : ℕ) (history : List Entry) (f : Frame) : Type 0 where
  pub at : ℕ
  pub entry : Entry
  pub stands : slice_get history at ≡ Some entry
  pub place_is : f.place ≡ place + at
  pub args : call_words f.call ≡ entry.args
  pub reply : reply_words f.reply ≡ entry.reply

-- The session began at the state and the count after the first entries of a legal history, so many.
pub record BeginsIn (story : Story State) (s0 : State) (n0 : ℕ) (history : List Entry) (first : ℕ) : Type 0 where
  pub legal : IsLegal (on_words trio) story.order s0 n0 history
  pub within : first ≤ length history
  pub opening : story.opening ≡ state_after_first story.order s0 n0 history first
  pub opening_count : story.opening_count ≡ n0 + first

-- It ends after a prefix of that history that is no shorter, and found no divergence. Each image that a stop leaves now holds such a prefix. So does each that a stop since the device was handed in might have left, but for those that it could leave then.
pub record EndsIn {D : Type 0} (shown : ShownDevice D) (was now : D) (story : Story State) (stop : Stop) (s0 : State) (n0 : ℕ) (history : List Entry) (first : ℕ) : Type 0 where
  pub len : ℕ
  pub least : first ≤ len
  pub within : len ≤ length history
  pub state : after (on_words trio) story.order story.opening story.opening_count story.history ≡ state_after_first story.order s0 n0 history len
  pub count_is : count story ≡ n0 + len
  pub agrees : stop ≢ Diverged
  pub at_end : IsTrue shown.tells_images → (i : List ℕ) → shown.leaves now i → HoldsPrefix story.order s0 n0 history first i
  pub since : IsTrue shown.tells_images → Leaves shown (HoldsPrefix story.order s0 n0 history first) was now

-- So of each legal history in which the session began, where each of these frames is one of it.
abbrev pub FollowsEach : {D : Type 0} → ShownDevice D → D → D → Story State → Stop → List Frame → Type 0
FollowsEach shown was now story stop frames =
    (s0 : State) (n0 : ℕ) (history : List Entry) (first : ℕ) → BeginsIn story s0 n0 history first → AllByRecursion (IsFrameIn n0 history) frames → EndsIn shown was now story stop s0 n0 history first
