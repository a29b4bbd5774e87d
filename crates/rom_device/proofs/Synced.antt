-- What a stop may leave after a sync that succeeded, by what it might before.
use Rattle.std.proofs.Common.{◌≡◌, ◌⊎◌, inl, inr, ⊎_elim, ℕ, ◌≤◌, true, List, [], ◌∷◌, ◌++◌, length, reverse, sym, ◌∙◌, ap, subst}
use Rattle.std.proofs.lemmas.List.{reverse-append}
use Rattle.rom_device.specs.Device.{After, Stays}
use Rattle.rom_device.specs.Log.{words_after, MayLeave, MayLeaveSince}
use Rattle.rom_device.specs.Images.{may_leave_words}
use Rattle.rom_device.specs.declared.call.LoggedCall.{LoggedCall}
use Rattle.rom_device.specs.declared.call.LoggedCall.TheVariants.{Sync}

pub newest : (old new : List LoggedCall) (m : LoggedCall) → new ≡ old ++ m ∷ [] → reverse new ≡ m ∷ reverse old
newest old new m is = ap reverse is ∙ reverse-append old (m ∷ [])

here : (base : List ℕ) (log : List LoggedCall) (i : List ℕ) → i ≡ words_after base log → After Stays (MayLeave base log) i
here base log i is = record { from = words_after base log; was = may_leave_words base log; by = is }

pub sync_now : (base : List ℕ) (old new : List LoggedCall) (i : List ℕ) → new ≡ Sync true ∷ old → MayLeave base new i → After Stays (MayLeave base old) i
sync_now base old new i is may = here base old i (subst (λ (l : List LoggedCall). MayLeave base l i) is may)

pub sync_since : (base : List ℕ) (old new : List LoggedCall) (t : ℕ) (i : List ℕ) → new ≡ Sync true ∷ old → MayLeaveSince base t new i → MayLeaveSince base t old i ⊎ After Stays (MayLeave base old) i
sync_since base old new t i is since = ⊎_elim (λ may. inr (here base old i may)) (λ earlier. inl earlier.1) (subst (λ (l : List LoggedCall). MayLeaveSince base t l i) is since)

pub sync_keeps : (base : List ℕ) (old new : List LoggedCall) (t : ℕ) (i : List ℕ) → new ≡ Sync true ∷ old → t ≤ length old → MayLeaveSince base t old i → MayLeaveSince base t new i
sync_keeps base old new t i is le since = subst (λ (l : List LoggedCall). MayLeaveSince base t l i) (sym is) (inr (le, since))
