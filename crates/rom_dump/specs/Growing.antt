-- The words and the lines of the command `grow`.
use Rattle.std.specs.Prelude.{ℕ, ◌&&◌, List, [], ◌∷◌, ◌++◌, codes, decimal, Option, Some, None, option_map, if◌then◌else◌}
use Rattle.std.specs.Borrow.{Bor}
use Rattle.std.specs.Str.{bytes_eq}
use Rattle.rom_text.specs.Phrases.{number_within}
use Rattle.rom_run.specs.Plain.{is_name}
use Rattle.rom_dump.specs.Copying.{untaken_line, untaken_status}
use Rattle.rom_dump.specs.declared.grow.Ungrown.{Ungrown}
use Rattle.rom_dump.specs.declared.grow.Ungrown.TheVariants.{Untaken, NotGreater}

-- `grow OLD NEW --order N` names both files and the order
abbrev pub grow_command : List (List ℕ) → Option (List ℕ × List ℕ × ℕ)
grow_command (name ∷ file ∷ new ∷ option ∷ order ∷ []) =
    if bytes_eq name (codes "grow") && (is_name file && (is_name new && bytes_eq option (codes "--order"))) then option_map (λ n. (file, new, n)) (number_within 4 16 order) else None
grow_command words = None

-- what was read, if it was
abbrev pub growth_read : Option (Bor (List ℕ) × Bor (List ℕ) × ℕ) → Option (List ℕ × List ℕ × ℕ)
growth_read (Some asked) = Some (asked.0.now, asked.1.now, asked.2)
growth_read None = None

-- why a heap is not grown, where one of this kind was looked for
abbrev pub ungrown_line : ℕ → Ungrown → List ℕ
ungrown_line kind (Untaken why) = untaken_line kind why
ungrown_line kind (NotGreater have) = codes "refused: has order " ++ decimal have

-- its status
abbrev pub ungrown_status : Ungrown → ℕ
ungrown_status (Untaken why) = untaken_status why
ungrown_status (NotGreater have) = 3
