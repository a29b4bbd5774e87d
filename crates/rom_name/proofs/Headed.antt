-- What words hold that differ in the name alone.
use Rattle.std.proofs.Common.{ℕ, List, sym, arith}
use Rattle.rom_model.specs.Space.{ChangesOnly}
use Rattle.rom_model.proofs.Changes.{changes_wider}
use Rattle.rom_header.specs.Held.{Holds}
use Rattle.rom_name.proofs.Counted.{holds_stays}

-- what differs from others in these words alone, from that do these
changes_back : (at len : ℕ) (x y : List ℕ) → ChangesOnly at len x y → ChangesOnly at len y x
changes_back at len x y c = record {
  as_long = sym c.as_long;
  before = λ k low. sym (c.before k low);
  behind = λ k high. sym (c.behind k high);
}

-- what they hold behind the writing of a name they held before it
pub held_before : {S : Type 0} (Contents : ℕ → List ℕ → S → ℕ → Type 0) (order : ℕ) (x y : List ℕ) (s : S) (k : ℕ) → ChangesOnly 4 2 x y → Holds Contents order y s k → Holds Contents order x s k
held_before Contents order x y s k named held =
    holds_stays Contents order y x s k (changes_wider 4 4 4 2 (omega arith) (omega arith) y x (changes_back 4 2 x y named)) held
