-- Seats that are taken out of a list, the last first.
use Rattle.std.proofs.Common.{◌≡◌, ℕ, zero, suc, ◌+◌, List, [], ◌∷◌, ◌++◌, length, length-append, refl, ap, sym, ◌∙◌, subst, arith, Option, Some}
use Rattle.std.specs.Prelude.{slice_get, option_to_list}
use Rattle.rom_lr.specs.Opening.{IsNewSeat, AreNewSeats}
use Rattle.rom_lr.specs.declared.seats.Seat.{Seat}
use Rattle.rom_lr.specs.declared.shared.Shared.{Shared}

-- a member of a list with one more
earlier_at : {A : Type 0} (xs : List A) (y : A) (i : ℕ) (x : A) → slice_get xs i ≡ Some x → slice_get (xs ++ y ∷ []) i ≡ Some x
earlier_at [] y i x e = cc
earlier_at (z ∷ xs) y zero x e = e
earlier_at (z ∷ xs) y (suc i) x e = earlier_at xs y i x e

last_at : {A : Type 0} (xs : List A) (y : A) → slice_get (xs ++ y ∷ []) (length xs) ≡ Some y
last_at [] y = refl
last_at (z ∷ xs) y = last_at xs y

module _ {Object Call Query Reply Answer : Type 0} (shared : Shared Object Call Query Reply Answer) where
  -- the last seat is that of the last caller, and those before it are as they were
  pub popped : (seats left : List Seat) (s : Seat) (taken : Option Seat) → AreNewSeats shared seats → seats ≡ left ++ option_to_list taken → taken ≡ Some s → AreNewSeats shared left × IsNewSeat shared (length left + 1) s
  popped seats left s taken new e t =
      let whole = subst (AreNewSeats shared) (e ∙ ap (λ o. left ++ option_to_list o) t) new in
      ((λ i x at. whole i x (earlier_at left s i x at)), whole (length left) s (last_at left s))

  -- so the number of the one that was taken is how many there were
  pub taken_last : (count : ℕ) (seats left : List Seat) (s : Seat) (taken : Option Seat) → AreNewSeats shared seats → length seats ≡ count → seats ≡ left ++ option_to_list taken → taken ≡ Some s → IsNewSeat shared count s
  taken_last count seats left s taken new many e t =
      let parts = ap length (e ∙ ap (λ o. left ++ option_to_list o) t) ∙ length-append left (s ∷ []) in
      subst (λ (n : ℕ). IsNewSeat shared n s) (sym parts ∙ many) (popped seats left s taken new e t).1

  pub left_many : (count : ℕ) (seats left : List Seat) (s : Seat) (taken : Option Seat) → length seats ≡ count + 1 → seats ≡ left ++ option_to_list taken → taken ≡ Some s → length left ≡ count
  left_many count seats left s taken many e t = let parts = ap length (e ∙ ap (λ o. left ++ option_to_list o) t) ∙ length-append left (s ∷ []) in omega arith
