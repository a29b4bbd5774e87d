use Rattle.std.proofs.Common.{◌≡◌, ℕ, ◌<◌, slice_index}
use Rattle.rom_model.specs.Padded.{IsPadded}
use Rattle.rom_model.proofs.words.Words.clear_all.Given as goal

-- the first cells are 0, as are those past the words
abbrev pub invariant-loop-i : goal.invariant-loop-i
invariant-loop-i g l = IsPadded 0 g.row.N l.self-inside.len l.self-inside.cells × (l.self-inside.len ≡ l.i-end) × ((k : ℕ) → k < l.i → slice_index l.self-inside.cells k ≡ 0)
