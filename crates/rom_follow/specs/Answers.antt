-- What a follower answers, by what became of the update of a frame.
use Rattle.std.specs.Prelude.{◌≡◌, ◌≢◌, ℕ, Option, None, Some}
use Rattle.rom_model.specs.Codes.{reply_words}
use Rattle.rom_model.specs.declared.call.Reply.{Reply}
use Rattle.rom_model.specs.declared.call.Updated.{Updated}
use Rattle.rom_model.specs.declared.call.Updated.TheVariants as updated
use Rattle.rom_follow.specs.declared.taken.Divergence.{Divergence}
use Rattle.rom_follow.specs.declared.taken.MessageTaken.{MessageTaken}
use Rattle.rom_follow.specs.declared.taken.MessageTaken.TheVariants.{Applied, Diverged, Spent, Failed, Doubt}

-- one that is done is applied where it was told the frame's reply, and else divergent; any other answer is what it was told
abbrev pub IsFrameAnswer : Reply → Updated Reply → MessageTaken → Type 0
IsFrameAnswer theirs (updated.Done ours at) (Applied place) = (place ≡ at) × (ours ≡ theirs)
IsFrameAnswer theirs (updated.Done ours at) (Diverged place ours' theirs') = (place ≡ at) × (ours' ≡ ours) × (theirs' ≡ theirs) × (reply_words ours ≢ reply_words theirs)
IsFrameAnswer theirs updated.Spent Spent = Unit {0}
IsFrameAnswer theirs updated.Failed Failed = Unit {0}
IsFrameAnswer theirs updated.Doubt Doubt = Unit {0}
IsFrameAnswer theirs told other = ⊥

-- how many updates are done with it
abbrev pub updates_done : MessageTaken → ℕ
updates_done (Applied place) = 1
updates_done (Diverged place ours theirs) = 1
updates_done other = 0

-- where the heaps parted with it
abbrev pub parted_by : MessageTaken → Option Divergence
parted_by (Diverged place ours theirs) = Some record { place = place; ours = ours; theirs = theirs }
parted_by other = None
