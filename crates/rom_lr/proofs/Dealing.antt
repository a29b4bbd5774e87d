-- Seats that are dealt one after another.
use Rattle.std.proofs.Common.{◌≡◌, ℕ, zero, suc, ◌+◌, ◌⊎◌, List, [], ◌∷◌, ◌++◌, length, inl, inr, ⊎_elim, refl, ap, sym, subst, Some}
use Rattle.std.specs.Prelude.{slice_get}
use Rattle.rom_lr.specs.Opening.{IsNewSeat, AreNewSeats}
use Rattle.rom_lr.specs.declared.seats.Seat.{Seat}
use Rattle.rom_lr.specs.declared.shared.Shared.{Shared}

-- a member of a list with one more
pushed_at : {A : Type 0} (xs : List A) (y : A) (i : ℕ) (x : A) → slice_get (xs ++ y ∷ []) i ≡ Some x → (slice_get xs i ≡ Some x) ⊎ ((i ≡ length xs) × (y ≡ x))
pushed_at [] y zero x e = inr (refl, cc)
pushed_at [] y (suc i) x e = cc
pushed_at (z ∷ xs) y zero x e = inl e
pushed_at (z ∷ xs) y (suc i) x e = ⊎_elim (λ h. inl h) (λ (h : (i ≡ length xs) × (y ≡ x)). inr (ap suc h.0, h.1)) (pushed_at xs y i x e)

module _ {Object Call Query Reply Answer : Type 0} where
  pub new_pushed : (shared : Shared Object Call Query Reply Answer) (seats : List Seat) (s : Seat) → AreNewSeats shared seats → IsNewSeat shared (length seats + 1) s → AreNewSeats shared (seats ++ s ∷ [])
  new_pushed shared seats s old new i t e = ⊎_elim (old i t) (λ (h : (i ≡ length seats) × (s ≡ t)). subst (λ (z : ℕ × Seat). IsNewSeat shared (z.0 + 1) z.1) (λ j. (sym h.0 j, h.1 j)) new) (pushed_at seats s i t e)
