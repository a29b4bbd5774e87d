-- Where the words of a side stand.
use Rattle.std.proofs.Common.{◌≡◌, ℕ, ◌+◌, arith, Bool, true, false, cond, eqb}
use Rattle.rom_rule.specs.Places.{back_word_at, main_word_at, side_word_at}

-- they follow the first one
pub word_from : (order callers side at : ℕ) → side_word_at order callers side 0 + at ≡ side_word_at order callers side at
word_from order callers side at = by_side (eqb side 0)
  where
    by_side : (t : Bool) → cond t (main_word_at order callers 0) (back_word_at order callers 0) + at ≡ cond t (main_word_at order callers at) (back_word_at order callers at)
    by_side true = omega arith
    by_side false = omega arith

-- a word of main, and of back, counted from where it begins
pub main_from : (order callers first at : ℕ) → first ≡ main_word_at order callers 0 → first + at ≡ main_word_at order callers at
main_from order callers first at is = omega (arith, is)

pub back_from : (order callers first at : ℕ) → first ≡ back_word_at order callers 0 → first + at ≡ back_word_at order callers at
back_from order callers first at is = omega (arith, is)
