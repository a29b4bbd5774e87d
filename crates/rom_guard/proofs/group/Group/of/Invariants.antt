use Rattle.std.proofs.Common.{◌≡◌, ◌∷◌, length, take}
use Rattle.std.specs.List.{flat_map}
use Rattle.rom_guard.proofs.group.Group.of.Given as goal

abbrev pub invariant-loop-member : goal.invariant-loop-member
invariant-loop-member g l = l.words ≡ 0 ∷ length l.members ∷ flat_map g.P.Members.shown.member_words (take l.member-index l.members)
