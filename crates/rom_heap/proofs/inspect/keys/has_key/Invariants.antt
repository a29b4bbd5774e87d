use Rattle.std.proofs.Common.{◌≡◌, ℕ, ◌-◌, List, length, drop}
use Rattle.rom_model.specs.Chains.{times, each_word}
use Rattle.rom_heap.specs.declared.inspect.walk.Walk.TheVariants as along
use Rattle.rom_heap.specs.Walks.{Reaches, next_link}
use Rattle.rom_heap.proofs.inspect.keys.has_key.Given as goal

-- the first nodes were passed, and have other keys
abbrev pub invariant-loop-passed : goal.invariant-loop-passed
invariant-loop-passed l = (seen before : List ℕ) → Reaches l.order l.region (along.OldBucket l.number) seen before → l.count ≡ length before
    → (l.link ≡ next_link l.order (along.OldBucket l.number) (drop (l.count - l._passed) before)) × (times l.key (each_word l.order l.region 0 (drop (l.count - l._passed) before)) ≡ 0)
