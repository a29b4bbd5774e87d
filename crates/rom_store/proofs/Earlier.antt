-- What a caller keeps at the closing holds of what it had seen earlier: it begins the history, and lasts.
use Rattle.std.proofs.Common.{ℕ, ◌+◌, List, ◌++◌, Option, IsTrue, ◌∙◌, ap, subst, append_assoc}
use Rattle.rom_model.specs.Seen.{StartsWith}
use Rattle.rom_model.specs.Story.{Story}
use Rattle.rom_model.specs.declared.entry.Entry.{Entry}
use Rattle.rom_model.specs.declared.kept.Kept.{Kept}
use Rattle.rom_device.specs.Device.{ShownDevice}
use Rattle.rom_store.specs.Indexed.{Indexed}
use Rattle.rom_store.specs.Lasting.{Lasts}
use Rattle.rom_store.specs.Moments.{LastsFor}
use Rattle.rom_store.proofs.Places.{front_at}

-- a beginning of a beginning
pub starts_further : {X : Type 0} (whole first part : List X) → StartsWith whole first → StartsWith first part → StartsWith whole part
starts_further whole first part h g = (g.0 ++ h.0, h.1 ∙ (ap (λ zs. zs ++ h.0) g.1 ∙ append_assoc part g.0 h.0))

-- what a caller had seen earlier begins the history
pub earlier_seen : (history : List Entry) (w v : Kept) → StartsWith history w.seen → StartsWith w.seen v.seen → StartsWith history v.seen
earlier_seen history w v h g = starts_further history w.seen v.seen h g

-- each entry that a caller had seen earlier lasts since the moment that it knew
pub earlier_lasts : {D S : Type 0} (shown : ShownDevice D) (Contents : ℕ → List ℕ → S → ℕ → Type 0) (step : ℕ → S → ℕ → List ℕ → Option (S × List ℕ)) (story : Story S) (now : D) (w v : Kept) →
    LastsFor shown Contents step story now w → StartsWith w.moments v.moments → IsTrue shown.tells_images → Indexed (λ i moment. Lasts shown Contents step story (i + 1) moment now) v.moments
earlier_lasts shown Contents step story now w v h begins told =
    let P = λ (i moment : ℕ). Lasts shown Contents step story (i + 1) moment now in
    front_at P v.moments begins.0 (subst (Indexed P) begins.1 (h.lasts told))
