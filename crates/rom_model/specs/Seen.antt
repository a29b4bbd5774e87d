-- What a caller has seen of the history.
use Rattle.std.specs.Prelude.{◌≡◌, ℕ, ◌+◌, ◌<◌, ◌≤◌, List, [], ◌∷◌, ◌++◌, length}
use Rattle.rom_model.specs.declared.call.Updated.{Updated}
use Rattle.rom_model.specs.declared.call.Updated.TheVariants.{Done}
use Rattle.rom_model.specs.declared.entry.Entry.{Entry}
use Rattle.rom_model.specs.declared.record.Found.{Found}
use Rattle.rom_model.specs.declared.kept.Kept.{Kept}

-- the list begins with another
abbrev pub StartsWith : {A : Type 0} → List A → List A → Type 0
StartsWith {A} whole first = (rest : List A) × (whole ≡ first ++ rest)

-- the place and the entry of an update that was told that it is done
abbrev pub done_one : Found → Updated (List ℕ) → List (ℕ × Entry)
done_one f (Done reply place) = (place, record { caller = f.caller; seq = f.seq; args = f.args; reply = reply }) ∷ []
done_one f other = []

-- those of some updates
abbrev pub done_in : List (Found × Updated (List ℕ)) → List (ℕ × Entry)
done_in [] = []
done_in (x ∷ xs) = done_one x.0 x.1 ++ done_in xs

-- where it is done, its place is past all that was seen before, and is seen now
abbrev pub IsPlaced : ℕ → List Entry → List Entry → Updated (List ℕ) → Type 0
IsPlaced opened before now (Done reply place) = (opened + length before ≤ place) × (place < opened + length now)
IsPlaced opened before now other = Unit {0}

-- the update with these words that the caller posts next
abbrev pub next_call : Kept → List ℕ → Found
next_call v args = record { caller = v.number; seq = length v.told; args = args }
