-- What a region of a greater order stands for.
use Rattle.std.specs.Prelude.{ℕ, List, [], ◌∷◌}
use Rattle.std.specs.FinMap as finite
use Rattle.rom_blob_region.specs.State.{BlobState, set_blob}
use Rattle.rom_blob_carry.specs.Elements.{Entry}

-- the state after these keys got their bytes, one after another, in a heap of order n
abbrev pub after_sets : ℕ → BlobState → List Entry → BlobState
after_sets n s [] = s
after_sets n s (e ∷ es) = after_sets n (set_blob n s e.0 e.1 (finite.get s e.0)).0 es
