-- What callers are that have done nothing.
use Rattle.std.proofs.Common.{ℕ, ◌+◌, List, All, get_or, map, refl, sym, ap, subst}
use Rattle.std.proofs.lemmas.Option.{slice_get-get_or}
use Rattle.rom_lr.specs.Opening.{AreNewSeats, IsNewSeat}
use Rattle.rom_lr.specs.Seats.{opened_with, view}
use Rattle.rom_lr.specs.declared.seats.Seat.{Seat}
use Rattle.rom_lr.specs.declared.shared.Shared.{Shared}
use Rattle.rom_rule.specs.Kinds.{IsIdleView}
use Rattle.rom_rule.specs.Records.{KnowsEntries}
use Rattle.rom_rule.specs.declared.views.View.{View}
use Rattle.rom_store.specs.Callers.{IsNewCaller, caller_at}
use Rattle.rom_store.specs.Indexed.{Indexed}
use Rattle.rom_store.proofs.Places.{map_at}

module _ {Object Call Query Reply Answer : Type 0} (shared : Shared Object Call Query Reply Answer) (seats : List Seat) (new : AreNewSeats shared seats) where
  -- At a new seat nothing is entered and nothing is posted.
  pub new_idle : All (λ s. IsIdleView (view s)) seats
  new_idle k d lt =
      let one : IsNewSeat shared (k + 1) (get_or seats k d) = new k (get_or seats k d) (slice_get-get_or seats k d lt) in
      subst (λ (v : View). IsIdleView v) (sym one.2) (refl, refl)

  module _ {S : Type 0} (Contents : ℕ → List ℕ → S → ℕ → Type 0) where
    new_caller : (i : ℕ) (s : Seat) → IsNewSeat shared (i + 1) s → IsNewCaller Contents shared.table.shared.table_id (opened_with shared) i (caller_at s)
    new_caller i s one = record {
      numbered = record {
        of = record {
          table_is = one.0.0;
          base_is = one.0.1;
          knows = λ x k held. subst (λ (v : View). KnowsEntries (opened_with shared).callers k v) (sym one.2) (record { known = tt; own = refl });
        };
        number = ap (λ (v : View). v.number) one.2;
      };
      bare = one.2;
    }

    -- Each new seat is that of a new caller, in their order.
    pub new_callers : Indexed (IsNewCaller Contents shared.table.shared.table_id (opened_with shared)) (map caller_at seats)
    new_callers = map_at (λ i s. IsNewSeat shared (i + 1) s) (IsNewCaller Contents shared.table.shared.table_id (opened_with shared)) caller_at seats (λ i s at one. new_caller i s one) (record { at = new })
