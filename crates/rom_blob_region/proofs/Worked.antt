-- Worked places of blocks in a heap of order 4, by the definitions.
use Rattle.std.proofs.Common.{◌≡◌, [], ◌∷◌, replicate, Some, None, refl}
use Rattle.rom_model.specs.Blocks.{taking}
use Rattle.rom_blob_region.specs.State.{taken_with, lowest, new_body, next_body}

-- two bytes of a first key stand in the first free unit, and the key in the next
first_bytes : new_body 4 (taken_with []) (0 ∷ 255 ∷ []) ≡ Some (Some 17)
first_bytes = refl

first_key : lowest 4 (taking 17 (taken_with [])) 0 ≡ Some 18
first_key = refl

-- no bytes stand nowhere
no_bytes : next_body 4 (taken_with (18 ∷ 17 ∷ [])) record { bytes = 0 ∷ 255 ∷ []; node = 18; body = Some 17 } [] ≡ Some None
no_bytes = refl

-- bytes of the same order stay in their block
same_order : next_body 4 (taken_with (18 ∷ 17 ∷ [])) record { bytes = 0 ∷ 255 ∷ []; node = 18; body = Some 17 } (replicate 32 7) ≡ Some (Some 17)
same_order = refl

-- those of another go to the lowest block that is free while the old one is still taken
other_order : next_body 4 (taken_with (18 ∷ 17 ∷ [])) record { bytes = 0 ∷ 255 ∷ []; node = 18; body = Some 17 } (replicate 33 7) ≡ Some (Some 10)
other_order = refl

-- 256 bytes stand in the upper half, of which there is one
large_bytes : new_body 4 (taken_with []) (replicate 256 0) ≡ Some (Some 3)
large_bytes = refl

large_key : lowest 4 (taking 3 (taken_with [])) 0 ≡ Some 17
large_key = refl

no_room : new_body 4 (taken_with (17 ∷ 3 ∷ [])) (replicate 256 0) ≡ None
no_room = refl

small_room : new_body 4 (taken_with (17 ∷ 3 ∷ [])) (0 ∷ []) ≡ Some (Some 18)
small_room = refl
