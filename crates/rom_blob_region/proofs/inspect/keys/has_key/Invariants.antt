use Rattle.std.proofs.Common.{◌≡◌, ℕ, ◌-◌, ◌<◌, List, length}
use Rattle.rom_model.specs.Chains.{times, each_word}
use Rattle.rom_blob_region.specs.Walks.{IsBlobWay}
use Rattle.rom_blob_region.proofs.inspect.keys.has_key.Given as goal

-- the key stands among the nodes that are left if it stands anywhere
abbrev pub invariant-loop-passed : goal.invariant-loop-passed
invariant-loop-passed l =
    (l.at < length l.region)
    × ((units : List ℕ) → IsBlobWay l.order l.region l.link units → l.count ≡ length units
    → (rest : List ℕ) × IsBlobWay l.order l.region l.at rest × (l.count - l._passed ≡ length rest) × (times l.key (each_word l.order l.region 0 rest) ≡ times l.key (each_word l.order l.region 0 units)))
