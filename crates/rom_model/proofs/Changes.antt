-- Changes of some words alone, one after another.
use Rattle.std.proofs.Common.{◌≢◌, ℕ, ◌+◌, ◌<◌, ◌≤◌, List, set, refl, ◌∙◌, arith, length-set, get_or-set_other}
use Rattle.rom_model.specs.Space.{ChangesOnly}

pub changes_none : (at len : ℕ) (x : List ℕ) → ChangesOnly at len x x
changes_none at len x = record { as_long = refl; before = λ k h. refl; behind = λ k h. refl }

pub changes_set : (at len : ℕ) (x : List ℕ) (k v : ℕ) → at ≤ k → k < at + len → ChangesOnly at len x (set x k v)
changes_set at len x k v lo hi = record {
  as_long = length-set x k v;
  before = λ j h. let ne : j ≢ k = omega arith in rw get_or-set_other refl;
  behind = λ j h. let ne : j ≢ k = omega arith in rw get_or-set_other refl;
}

pub changes_joins : (at len : ℕ) (x y z : List ℕ) → ChangesOnly at len x y → ChangesOnly at len y z → ChangesOnly at len x z
changes_joins at len x y z first second = record {
  as_long = second.as_long ∙ first.as_long;
  before = λ k h. second.before k h ∙ first.before k h;
  behind = λ k h. second.behind k h ∙ first.behind k h;
}

-- a range that holds the range
pub changes_wider : (at len from count : ℕ) → at ≤ from → from + count ≤ at + len → (x y : List ℕ) → ChangesOnly from count x y → ChangesOnly at len x y
changes_wider at len from count low high x y within = record {
  as_long = within.as_long;
  before = λ k h. within.before k (omega (arith, h, low));
  behind = λ k h. within.behind k (omega (arith, h, high));
}
