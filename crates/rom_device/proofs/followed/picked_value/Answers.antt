use Rattle.std.proofs.Common.{◌≡◌, ◌<◌, ◌%◌, length, reverse, slice_index, sym, ap, ◌∙◌, rules}
use Rattle.std.proofs.Math.Nat.{mod-eq_of_lt}
use Rattle.rom_device.specs.Choice.{possible}
use Rattle.rom_device.proofs.followed.picked_value.Goals as goal

pub returns-then-number-first : goal.returns-then-number-first
returns-then-number-first c =
    let word = c.through-first.ensures.followed in
    let there = possible c.args.start.now (reverse c.args.made.now) c.args.at in
    let below : c.args.number < length there = search rules in
    let whole : c.args.number % length there ≡ c.args.number = mod-eq_of_lt below in
    let value : c.through-first.result.value ≡ slice_index there c.args.number = search rules in
    value ∙ ap (λ n. slice_index there n) (sym whole)
