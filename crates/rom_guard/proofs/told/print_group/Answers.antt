use Rattle.std.proofs.Common.{rules, ◌≤◌, length}
use Rattle.std.specs.Prelude.{◌≢◌, slice_index}
use Rattle.rom_guard.proofs.Telling.{all_told}
use Rattle.rom_guard.proofs.told.print_group.Goals as goal
use Rattle.rom_guard.proofs.told.print_group.Goals.{in_default-via-then-words-lt3, in_default-via-else-words-lt3+in_default-1}

pub print_done-requires : goal.print_done-requires
print_done-requires g c =
    let done : 3 ≤ length c.args.words.now → slice_index c.args.words.now 1 ≢ 0 =
    elim c.in_default.branch [ in_default-via-then-words-lt3 w ↦ search rules | in_default-via-else-words-lt3+in_default-1 w ↦ search rules ] in
    all_told g.O.Object.machine g.P.Members.shown g.met.P.Members.told_only c.args.words.now c.requires.group.0 c.requires.group.1 done c.requires.reply
