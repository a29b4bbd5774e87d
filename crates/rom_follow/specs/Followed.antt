-- What contracts see of a follower, and what holds of each.
use Rattle.std.specs.Prelude.{◌≡◌, ℕ, ◌+◌, ◌≤◌, List, length, Option}
use Rattle.std.specs.List.{AllByRecursion, enumerate_from}
use Rattle.rom_model.specs.History.{IsLegal, LAST_COUNT}
use Rattle.rom_model.specs.Machine.{on_words}
use Rattle.rom_model.specs.Seen.{done_in}
use Rattle.rom_model.specs.State.{State}
use Rattle.rom_model.specs.Trio.{trio}
use Rattle.rom_model.specs.declared.entry.Entry.{Entry}
use Rattle.rom_rule.specs.Views.{Told}
use Rattle.rom_follow.specs.declared.taken.Divergence.{Divergence}

-- the count of updates; the history since the opening; each update that was tried, as a pass finds it, with what became of it; and where the two heaps parted, if they did
pub record Followed : Type 0 where
  pub count : ℕ
  pub history : List Entry
  pub tried : List Told
  pub diverged : Option Divergence

-- What a follower has done since the state and the count of its opening, in a heap of this order: its history is legal and ends at the count, and its entries, at their places, are those of the updates that were tried and done. It made each try itself, as the one caller that there is.
pub record HasDoneUpdates (order : ℕ) (s : State) (k : ℕ) (f : Followed) : Type 0 where
  pub legal : IsLegal (on_words trio) order s k f.history
  pub count_is : f.count ≡ k + length f.history
  pub within : f.count ≤ LAST_COUNT
  pub done : enumerate_from k f.history ≡ done_in f.tried
  pub own : AllByRecursion (λ x. x.0.caller ≡ 1) f.tried
