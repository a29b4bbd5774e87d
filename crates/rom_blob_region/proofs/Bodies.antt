-- Taking and giving back blocks for bytes.
use Rattle.std.proofs.Common.{◌≡◌, ◌≢◌, ℕ, Bool, List, subst}
use Rattle.std.specs.Prelude.{Option, Some, None, MatchOption}
use Rattle.rom_model.specs.Blocks.{NoneFree}
use Rattle.rom_block.specs.Taken.{Takes}
use Rattle.rom_blob_region.specs.State.{order_for}
use Rattle.rom_blob_region.specs.Calls.{NoBody, BodyTaken}

pub taken_body : (n len order : ℕ) (blocks : ℕ → Bool) (old new : List ℕ) (result : Option ℕ) → order ≡ order_for len → len ≢ 0 → MatchOption result (NoneFree n blocks order) (Takes n order blocks new) → MatchOption result (NoBody n len blocks) (BodyTaken n len blocks old new)
taken_body n len order blocks old new None same some is = record { some = some; none_free = subst (λ j. NoneFree n blocks j) same is }
taken_body n len order blocks old new (Some at) same some is = record { none = λ e. absurd (some e); takes = λ also. subst (λ j. Takes n j blocks new at) same is }
