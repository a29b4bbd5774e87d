-- What a batch changes of the words: the state and the two regions.
use Rattle.std.specs.Prelude.{◌≡◌, ℕ, ◌+◌, ◌*◌, ◌≤◌, List, length}
use Rattle.std.proofs.Common.{arith}
use Rattle.rom_model.specs.Blocks.{region_len}
use Rattle.rom_model.specs.Space.{ChangesOnly}
use Rattle.rom_device.specs.Device.{ShownDevice, Does, WritesWord}
use Rattle.rom_device.proofs.Going.{does_by}
use Rattle.rom_header.specs.Layout.{MAIN, STATE, back_at}
use Rattle.rom_header.specs.Writing.{StateOrWithin}
use Rattle.rom_ranges.specs.declared.range.Range.{Range}
use Rattle.rom_twin.specs.Ranges.{WritesRanges}
use Rattle.rom_twin.proofs.Repairs.{does_both, does_state}

-- one region lies within both
region_within : (n at count : ℕ) → MAIN ≤ at → at + count ≤ MAIN + 2 * region_len n → (x y : List ℕ) → ChangesOnly at count x y → StateOrWithin MAIN (2 * region_len n) x y
region_within n at count late ends x y only = record {
  as_long = only.as_long;
  before = λ k h other. only.before k (omega (arith, h, late));
  behind = λ k h. only.behind k (omega (arith, h, ends));
}

module _ {D : Type 0} (shown : ShownDevice D) (n : ℕ) where
  pub within_then : (a b c : D) → Does shown (StateOrWithin MAIN (2 * region_len n)) a b → Does shown (StateOrWithin MAIN (2 * region_len n)) b c → Does shown (StateOrWithin MAIN (2 * region_len n)) a c
  within_then = does_both shown MAIN (2 * region_len n)

  pub within_state : (v : ℕ) (a b : D) → Does shown (WritesWord STATE v) a b → Does shown (StateOrWithin MAIN (2 * region_len n)) a b
  within_state v = does_state shown MAIN (2 * region_len n) v (omega arith)

  pub within_main : (ranges : List Range) (image : List ℕ) → length image ≡ region_len n → (a b : D) → Does shown (WritesRanges ranges MAIN image) a b → Does shown (StateOrWithin MAIN (2 * region_len n)) a b
  within_main ranges image long a b does = does_by shown (WritesRanges ranges MAIN image) (StateOrWithin MAIN (2 * region_len n)) (λ x y w. region_within n MAIN (length image) (omega arith) (omega (arith, long)) x y w.only) a b does

  pub within_back : (ranges : List Range) (image : List ℕ) → length image ≡ region_len n → (a b : D) → Does shown (WritesRanges ranges (back_at n) image) a b → Does shown (StateOrWithin MAIN (2 * region_len n)) a b
  within_back ranges image long a b does = does_by shown (WritesRanges ranges (back_at n) image) (StateOrWithin MAIN (2 * region_len n)) (λ x y w. region_within n (back_at n) (length image) (omega arith) (omega (arith, long)) x y w.only) a b does
