-- What contracts see of a caller: of its pass, and of what it reads between two calls of a reading.
use Rattle.std.specs.Prelude.{◌≡◌, ℕ, ◌+◌, List, Option, IsTrue}
use Rattle.atomic_table.specs.Seated.{TableId}
use Rattle.rom_model.specs.Seen.{StartsWith}
use Rattle.rom_lr.specs.Seats.{view}
use Rattle.rom_lr.specs.declared.seats.Seat.{Seat}
use Rattle.rom_rule.specs.Readers.{IsHeldSinceOpening}
use Rattle.rom_rule.specs.Records.{KnowsEntries, KnowsMoments}
use Rattle.rom_rule.specs.Views.{fresh_view, front_of, image_of, is_reading}
use Rattle.rom_rule.specs.declared.views.Base.{Base}
use Rattle.rom_rule.specs.declared.views.View.{View}

-- the table of its store, and what it knows
pub record Caller : Type 0 where
  pub table_id : TableId
  pub view : View

-- the caller at a seat
abbrev pub caller_at : Seat → Caller
caller_at s = record { table_id = s.token.table_id; view = view s }

-- a call keeps the store and the number
abbrev pub IsSameCaller : Caller → Caller → Type 0
IsSameCaller p q = (q.table_id ≡ p.table_id) × (q.view.base ≡ p.view.base) × (q.view.number ≡ p.view.number)

module _ {S : Type 0} (Contents : ℕ → List ℕ → S → ℕ → Type 0) where
  -- The caller is one of the store with this table and this opening, and what it has seen of callers' updates is what was done of them: its own are those that it was told are done, and all are of callers that there are.
  -- It is a condition of each call of the store, so that it need not be found again from the table. What a
  -- caller has seen grows where it enters, learns an answer, or learns a note. Each of these steps tells
  -- which entries are the caller's own.
  pub record IsCallerOf (table : TableId) (base : Base) (p : Caller) : Type 0 where
    pub table_is : p.table_id ≡ table
    pub base_is : p.view.base ≡ base
    pub knows : (s : S) (k : ℕ) → Contents base.order base.image s k → KnowsEntries base.callers k p.view

  -- so, and the one at this place, which has the next number; callers are numbered from 1
  pub record IsNumberedCaller (table : TableId) (base : Base) (i : ℕ) (p : Caller) : Type 0 where
    pub of : IsCallerOf table base p
    pub number : p.view.number ≡ i + 1

  -- so, and it has seen and done nothing
  pub record IsNewCaller (table : TableId) (base : Base) (i : ℕ) (p : Caller) : Type 0 where
    pub numbered : IsNumberedCaller table base i p
    pub bare : p.view ≡ record (fresh_view base) { number = i + 1 }

  module _ (step : ℕ → S → ℕ → List ℕ → Option (S × List ℕ)) where
    -- A caller that was p is now q: it knows the moments at which some passes that make what it has now seen were committed, one for each entry; and those that it knew stay as they were. The closing ties them to the session's passes.
    abbrev pub IsDatedBy : Base → View → View → Type 0
    IsDatedBy base p q = StartsWith q.moments p.moments × KnowsMoments Contents step base q.seen q.moments

    -- Such a caller reads one committed image, which stands for the state and the count after the history that it has seen; its front is that count.
    pub record IsReaderOf (table : TableId) (base : Base) (p : Caller) : Type 0 where
      pub of : IsCallerOf table base p
      pub reads : IsTrue (is_reading p.view.position)
      pub stands : IsHeldSinceOpening Contents step base (image_of p.view.position) p.view.seen (front_of p.view.position)
