-- What a caller learns of a note.
use Rattle.std.specs.Prelude.{◌≡◌, ℕ, ◌+◌, List, ◌∷◌, ◌++◌, length, Option}
use Rattle.rom_model.specs.Seen.{StartsWith}
use Rattle.rom_model.specs.declared.entry.Entry.{Entry}
use Rattle.rom_rule.specs.Records.{KnowsEntries, KnowsMoments}
use Rattle.rom_rule.specs.Views.{kept_of}
use Rattle.rom_rule.specs.declared.views.View.{View}

module _ {S : Type 0} (Contents : ℕ → List ℕ → S → ℕ → Type 0) (step : ℕ → S → ℕ → List ℕ → Option (S × List ℕ)) where
  -- In two steps a caller that had v learns what a view n knew: what it has then seen begins with what it had seen, and with what n had seen; and it keeps what n knew, and what n had kept. Its moments are those of what it has then seen, and begin with the ones that it knew, and with the ones that n knew. With no call posted, it knows its own entries in that, where it knew them before. Nothing else of its view changes.
  pub record HasLearnt (v n w : View) : Type 0 where
    pub seen : List Entry
    pub moments : List ℕ
    pub begins : StartsWith seen v.seen
    pub learns : StartsWith seen n.seen
    pub moments_begin : StartsWith moments v.moments
    pub moments_learn : StartsWith moments n.moments
    pub dated : KnowsMoments Contents step v.base seen moments
    pub view : w ≡ record v { seen = seen; moments = moments; joined = v.joined ++ kept_of n ∷ n.joined; steps = v.steps + 2 }
    pub own : (n : ℕ) → length v.calls ≡ length v.outcomes → KnowsEntries v.base.callers n v → KnowsEntries v.base.callers n w
