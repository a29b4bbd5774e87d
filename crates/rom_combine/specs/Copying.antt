-- Words of one side, copied to the other.
use Rattle.std.specs.Prelude.{◌≡◌, ℕ, List, slice_index}
use Rattle.rom_lr.specs.declared.side.Side.{Side}
use Rattle.rom_lr.specs.declared.side.Side.TheVariants.{Back, Main}
use Rattle.rom_ranges.specs.Ranges.{IsInRange}
use Rattle.rom_ranges.specs.declared.range.Range.{Range}
use Rattle.rom_rule.specs.declared.views.Plan.{Plan}

-- the words of a side
abbrev pub words_at : Side → Plan → List ℕ
words_at Main p = p.main
words_at Back p = p.back

-- the plan where a side has these words, and all else stays
abbrev pub with_side : Side → List ℕ → Plan → Plan
with_side Main words p = record p { main = words }
with_side Back words p = record p { back = words }

-- The words in the range are those of the source, and the others are as they were.
pub record Copies (range : Range) (source old new : List ℕ) : Type 0 where
  pub held : (k : ℕ) → IsInRange range k → slice_index new k ≡ slice_index source k
  pub others : (k : ℕ) → (IsInRange range k → ⊥) → slice_index new k ≡ slice_index old k
