use Rattle.std.proofs.Common.{◌≡◌, ℕ, ◌++◌, List, length}
use Rattle.std.specs.Prelude.{Ok}
use Rattle.rom_heap.specs.Walks.{AreMarks, bucket_walk}
use Rattle.rom_heap.specs.Parts.{OneByOne}
use Rattle.rom_heap.proofs.inspect.parts.inspect_buckets.Given as goal

-- the chains of the first buckets were walked
abbrev pub invariant-loop-number : goal.invariant-loop-number
invariant-loop-number l = (seen : List ℕ) → AreMarks l.order seen l.fn.marks
    → (blocks : List ℕ) × OneByOne l.order l.region (bucket_walk l.version) seen l.number (Ok blocks) × (l.count ≡ length blocks) × AreMarks l.order (blocks ++ seen) l.marks
