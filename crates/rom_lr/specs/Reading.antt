-- What a seat reads.
use Rattle.std.specs.Prelude.{◌≡◌, ℕ, ◌+◌, List, length, Option}
use Rattle.rom_model.specs.Seen.{StartsWith}
use Rattle.rom_model.specs.declared.entry.Entry.{Entry}
use Rattle.rom_lr.specs.Seats.{view}
use Rattle.rom_lr.specs.declared.seats.Seat.{Seat}
use Rattle.rom_rule.specs.Kinds.{entering}
use Rattle.rom_rule.specs.Readers.{IsHeldSinceOpening}
use Rattle.rom_rule.specs.Records.{KnowsEntries, KnowsMoments}
use Rattle.rom_rule.specs.Views.{front_of, image_of, indicator_in, side_read}
use Rattle.rom_rule.specs.declared.views.View.{View}

-- The seat makes so many steps, and its view stays but for their number.
abbrev pub HasStepped : Seat → Seat → ℕ → Type 0
HasStepped s t n = (view t ≡ record (view s) { steps = (view s).steps + n }) × (t.version ≡ s.version) × (t.side ≡ s.side) × (t.first ≡ s.first)

-- a view but for the number of its steps
abbrev pub but_steps : View → View
but_steps v = record v { steps = 0 }

module _ {S : Type 0} (Contents : ℕ → List ℕ → S → ℕ → Type 0) (step : ℕ → S → ℕ → List ℕ → Option (S × List ℕ)) where
  -- In three steps the seat comes to read a side. What it has then seen begins with what it had seen; its front is the count after that history, and is kept among its fronts; the image stands for the state there. Its moments are those of this history, and begin with the ones that it knew. With no call posted, it knows which entries of that history are its own. Nothing else of its view changes.
  pub record HasEntered (s : Seat) (t : Seat) : Type 0 where
    pub seen : List Entry
    pub moments : List ℕ
    pub begins : StartsWith seen (view s).seen
    pub moments_begin : StartsWith moments (view s).moments
    pub dated : KnowsMoments Contents step (view t).base seen moments
    pub stands : IsHeldSinceOpening Contents step (view t).base (image_of (view t).position) seen (front_of (view t).position)
    pub own : (let v = view s in length v.calls ≡ length v.outcomes → (x : S) (n : ℕ) → Contents v.base.order v.base.image x n → KnowsEntries v.base.callers n (view t))
    pub view : (let q = (view t).position in view t ≡ record (entering (view s) (indicator_in q) (side_read q) (front_of q) (image_of q) seen moments) { steps = (view s).steps + 3 })
