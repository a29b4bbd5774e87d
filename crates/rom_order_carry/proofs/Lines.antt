-- The lines of entries.
use Rattle.std.proofs.Common.{◌≡◌, ℕ, ◌<◌, List, [], map, length, get_or, ap, ◌∙◌}
use Rattle.std.proofs.lemmas.List.{get_or-map}
use Rattle.rom_order_carry.specs.Entries.{entry_line}

-- the line of the entry at an index
pub line_of : (es : List (ℕ × ℕ)) (i : ℕ) (e : ℕ × ℕ) → i < length es → get_or es i e ≡ e → get_or (map entry_line es) i [] ≡ entry_line e
line_of es i e lt is = get_or-map entry_line es i e [] lt ∙ ap entry_line is
