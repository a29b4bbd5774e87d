-- How high a balanced tree can be.
use Rattle.std.specs.Prelude.{ℕ, zero, suc, ◌+◌, ◌-◌, nat_le, if◌then◌else◌}

-- the Fibonacci numbers: 0, 1, and then each time the sum of the two before
unfoldable pub fib : ℕ → ℕ
fib zero = 0
fib (suc zero) = 1
fib (suc (suc n)) = fib (suc n) + fib n

-- the greatest number up to m that is the height of a balanced tree of s nodes or fewer
unfoldable pub highest : ℕ → ℕ → ℕ
highest s zero = 0
highest s (suc h) = if nat_le (fib (h + 3) - 1) s then suc h else highest s h

-- The greatest height of a balanced tree of s nodes: the greatest h with fib (h + 2) - 1 up to s.
unfoldable pub high : ℕ → ℕ
high s = highest s s
