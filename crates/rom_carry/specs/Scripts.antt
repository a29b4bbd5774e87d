-- Scripts of lines, and their parts.
use Rattle.std.specs.Prelude.{◌≢◌, ℕ, zero, suc, ◌+◌, ◌-◌, ◌*◌, List, [], ◌∷◌, length, take, drop, slice_index}
use Rattle.std.specs.Int.{div_ceil}
use Rattle.std.specs.List.{AllByRecursion, flat_map}
use Rattle.rom_text.specs.Text.{line_text}

-- the lines, each with its LF
abbrev pub script_of : List (List ℕ) → List ℕ
script_of lines = flat_map line_text lines

-- the lines from that index on up to the other one
abbrev pub between : ℕ → ℕ → List (List ℕ) → List (List ℕ)
between from to lines = take (to - from) (drop from lines)

-- the lines of the part of this number, counted from 1, where each part has so many
abbrev pub part_of : ℕ → ℕ → List (List ℕ) → List (List ℕ)
part_of many number lines = take many (drop ((number - 1) * many) lines)

-- how many parts they are
abbrev pub parts_needed : ℕ → List (List ℕ) → ℕ
parts_needed many lines = div_ceil (length lines) many

-- the scripts of so many parts, from that number on
abbrev pub parts_from : ℕ → ℕ → ℕ → List (List ℕ) → List (List ℕ)
parts_from many number zero lines = []
parts_from many number (suc more) lines = script_of (part_of many number lines) ∷ parts_from many (number + 1) more lines

-- the scripts of the first so many parts
abbrev pub parts_of : ℕ → ℕ → List (List ℕ) → List (List ℕ)
parts_of many parts lines = parts_from many 1 parts lines

-- no byte of a line is LF, and the last one is not CR
pub record IsPlain (line : List ℕ) : Type 0 where
  pub no_end : AllByRecursion (λ byte. byte ≢ 10) line
  pub no_return : slice_index line (length line - 1) ≢ 13
