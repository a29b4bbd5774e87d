-- One store more, logged.
use Rattle.std.proofs.Common.{◌≡◌, ◌≢◌, ◌⊎◌, ◌↔◌, inl, inr, ℕ, ◌+◌, ◌<◌, ◌≤◌, List, length, set, sym, ◌∙◌, subst, arith, length-set, get_or-set_other}
use Rattle.rom_ranges.specs.Changes.{IsLogOf}
use Rattle.rom_ranges.specs.Log.{Logged}
use Rattle.rom_ranges.specs.Ranges.{AreWithin, IsHeld, held_count}

pub log_stored : (old image : List ℕ) (log log' : Logged) (at value : ℕ) → at < length image → IsLogOf old image log → ((k : ℕ) → IsHeld log'.ranges k ↔ (IsHeld log.ranges k ⊎ (k ≡ at)))
    → ((len : ℕ) → at < len → AreWithin len log.ranges → AreWithin len log'.ranges) → length log'.ranges ≤ length log.ranges + 1 → held_count log'.ranges ≤ held_count log.ranges + 1 → log'.added ≡ log.added + 1
    → IsLogOf old (set image at value) log'
log_stored old image log log' at value lt is held within longer count added = record {
  within = subst (λ (n : ℕ). AreWithin n log'.ranges) (sym (length-set image at value)) (within (length image) lt is.within);
  but = λ k low not.
      let ne : k ≢ at = λ e. not ((held k).1 (inr e)) in
      is.but k (omega (arith, low, length-set image at value)) (λ was. not ((held k).1 (inl was))) ∙ sym (get_or-set_other image at k value 0 ne);
  short = omega (arith, is.short, longer, added);
  few = omega (arith, is.few, count, added);
}
