use Rattle.std.proofs.Common.{rules, arith, ◌≤◌, length}
use Rattle.rom_text.proofs.Numbers.{number_short}
use Rattle.rom_text.proofs.print.write_between.Goals as goal

pub write_digits-digits-requires : goal.write_digits-digits-requires
write_digits-digits-requires c = let few = number_short c.args.number c.ranges.number.fits in (omega (arith, few, c.requires.short), search rules)

pub overflow_sub-start : goal.overflow_sub-start
overflow_sub-start c = let few = number_short c.args.number c.ranges.number.fits in omega (arith, few, c.requires.short, c.write_digits-digits.ensures.start)

pub copy_from_slice-requires-2 : goal.copy_from_slice-requires-2
copy_from_slice-requires-2 c =
    let few = number_short c.args.number c.ranges.number.fits in
    let in_room : length c.args.before.now ≤ c.write_digits-digits.result = omega (arith, few, c.requires.short, c.write_digits-digits.ensures.start) in
    search (rules, in_room)
