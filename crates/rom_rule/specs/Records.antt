-- What the rule says of the published history: it is that of the records, and what views know of it is true.
use Rattle.std.specs.Prelude.{◌≡◌, ℕ, ◌+◌, ◌<◌, ◌≤◌, List, filter, take, length, Option, IsSome, ◌==◌}
use Rattle.std.specs.List.{AllByRecursion, enumerate_from}
use Rattle.rom_model.specs.Moments.{moments_of}
use Rattle.rom_model.specs.Passes.{history_of, all_told, AreInOrder}
use Rattle.rom_model.specs.Seen.{StartsWith, done_in}
use Rattle.rom_model.specs.Story.{len_after}
use Rattle.rom_model.specs.declared.entry.Entry.{Entry}
use Rattle.rom_model.specs.declared.kept.Kept.{Kept}
use Rattle.rom_model.specs.declared.record.PassRecord.{PassRecord}
use Rattle.rom_rule.specs.declared.views.Base.{Base}
use Rattle.rom_rule.specs.declared.views.View.{View}
use Rattle.rom_rule.specs.Views.{Book, Remembered}

-- a front is the count at the opening or after a pass
abbrev pub IsRecordedFront : ℕ → List PassRecord → ℕ → Type 0
IsRecordedFront count records front = (i : ℕ) × (i ≤ length records) × (front ≡ count + len_after 0 (take i records))

-- A history of this length is that after some first of the records, and the moments are those at which they committed its entries.
abbrev pub IsDated : List PassRecord → ℕ → List ℕ → Type 0
IsDated records len moments = (i : ℕ) × (i ≤ length records) × (len ≡ len_after 0 (take i records)) × (moments ≡ moments_of 0 (take i records))

-- what a joined view had seen begins the published history and is dated by its moments, and the fronts that it had are fronts
abbrev pub IsKeptInBook : ℕ → Book → Kept → Type 0
IsKeptInBook count book k = StartsWith book.history k.seen × AllByRecursion (IsRecordedFront count book.records) k.fronts × IsDated book.records (length k.seen) k.moments

-- Each history that a view has seen, also one that a join has kept, begins the published history, and is dated by the moments beside it. Each front that a view had, also one that a join has kept, is the count at a boundary of the records.
pub record Remembers (count : ℕ) (book : Book) (m : Remembered) : Type 0 where
  pub seen : StartsWith book.history m.seen
  pub dated : IsDated book.records (length m.seen) m.moments
  pub fronts : AllByRecursion (IsRecordedFront count book.records) m.fronts
  pub joined : AllByRecursion (IsKeptInBook count book) m.joined

-- What a view has seen of callers' updates, where the count at the opening was this one: each entry is of a caller numbered from 1 to their number, and its own entries, with their places, are those of its calls that were done, in their order.
pub record KnowsEntries (callers count : ℕ) (v : View) : Type 0 where
  pub known : AllByRecursion (λ e. (0 < e.caller) × (e.caller ≤ callers)) v.seen
  pub own : filter (λ x. x.1.caller == v.number) (enumerate_from count v.seen) ≡ done_in v.outcomes

-- What a view has seen is the history that some records make, in order from the opening state and count. Its moments are those at which they committed its entries, one for each.
pub record KnowsMoments {S : Type 0} (Contents : ℕ → List ℕ → S → ℕ → Type 0) (step : ℕ → S → ℕ → List ℕ → Option (S × List ℕ)) (b : Base) (seen : List Entry) (moments : List ℕ) : Type 0 where
  pub start : S
  pub count : ℕ
  pub opening : Contents b.order b.image start count
  pub records : List PassRecord
  pub made : seen ≡ history_of step b.order start count records
  pub in_order : AreInOrder step b.order start count 0 b.faults records
  pub moments_are : moments ≡ moments_of 0 records
  pub one_each : length moments ≡ length seen

module _ {S : Type 0} (step : ℕ → S → ℕ → List ℕ → Option (S × List ℕ)) where
  -- the words are those of a call
  abbrev pub IsCall : Base → List ℕ → Type 0
  IsCall b args = (s : S) (k : ℕ) → IsSome (step b.order s k args)

  -- The published history is the one that the records make, from the opening state and count, and what is told is what they told. They are in order, and the first begins with at least the opening count of faults. Each found call has the words of a call.
  pub record Recorded (b : Base) (start : S) (count : ℕ) (book : Book) : Type 0 where
    pub made : book.history ≡ history_of step b.order start count book.records
    pub told : book.told ≡ all_told step b.order start count book.records
    pub in_order : AreInOrder step b.order start count 0 b.faults book.records
    pub calls : AllByRecursion (λ r. AllByRecursion (λ f. IsCall b f.args) r.found) book.records
