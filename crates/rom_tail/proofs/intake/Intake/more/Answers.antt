use Rattle.std.proofs.Common.{◌<◌, ◌≤◌, ◌++◌, List, ℕ, ap, ◌∙◌, length, rules, take}
use Rattle.std.proofs.lemmas.List.{length-take-le}
use Rattle.rom_frame.proofs.Blocks.{filled}
use Rattle.rom_tail.proofs.intake.Intake.more.Goals as goal

pub returns-clause-came : goal.returns-clause-came
returns-clause-came g c =
    let i = c.make_room.new.self in
    let count = c.in_ok-count.count in
    let read = c.in_ok-count.ensures in
    let within : i.end ≤ length i.block = search rules in
    let some : 0 < length c.read.new.buf = search rules in
    record {
      bytes = take count c.read.new.buf;
      many = length-take-le count c.read.new.buf read.within;
      consumed = read.bytes.0;
      behind = filled i.start i.end _ count i.block c.read.new.buf i.order within read.within ∙ ap (λ (bs : List ℕ). bs ++ take count c.read.new.buf) c.make_room.ensures.waits;
      at_end = λ none. read.bytes.1 none some;
    }
