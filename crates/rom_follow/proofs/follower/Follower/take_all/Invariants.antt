use Rattle.std.proofs.Common.{ℕ, ◌<◌, List, take}
use Rattle.std.specs.Prelude.{All}
use Rattle.std.proofs.Math.ListN.{get_or}
use Rattle.rom_model.specs.History.{IsLegal}
use Rattle.rom_model.specs.Machine.{on_words}
use Rattle.rom_model.specs.State.{State}
use Rattle.rom_model.specs.Trio.{trio}
use Rattle.rom_model.specs.declared.entry.Entry.{Entry}
use Rattle.rom_follow.specs.Following.{AgreesBelow, FollowsHistory, HasWords, MayArrive}
use Rattle.rom_follow.specs.Taking.{AreTaken}
use Rattle.rom_follow.specs.declared.taken.MessageTaken.{MessageTaken}
use Rattle.rom_follow.proofs.follower.Follower.take_all.Given as goal

abbrev pub invariant-loop-i : goal.invariant-loop-i
invariant-loop-i g l =
    AreTaken (take l.i l.messages) l.fn.self (take l.i l.answers) l.self
    × (
    (s0 : State) (n0 : ℕ) (history : List Entry) (first : ℕ) → IsLegal (on_words trio) g.N.Label.base.order s0 n0 history → HasWords n0 history → FollowsHistory g.N.Label.base s0 n0 history first l.fn.self
    → All (λ m. MayArrive n0 history m.items) l.messages → FollowsHistory g.N.Label.base s0 n0 history first l.self × ((k : ℕ) (d : MessageTaken) → k < l.i → AgreesBelow l.self.count (get_or l.answers k d)))
