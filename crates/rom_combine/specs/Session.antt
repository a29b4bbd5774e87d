-- What stops leave over a whole session.
use Rattle.std.specs.Prelude.{◌≡◌, ◌⊎◌, ℕ, ◌+◌, ◌≤◌, List, [], ◌∷◌, ◌++◌, length, Option, Some}
use Rattle.rom_model.specs.History.{after}
use Rattle.rom_model.specs.Story.{Story, state_at, IsBoundary, doubted_batch}
use Rattle.rom_model.specs.declared.entry.Entry.{Entry}
use Rattle.rom_model.specs.declared.record.Fate.TheVariants as fate
use Rattle.rom_model.specs.declared.record.PassRecord.{PassRecord}
use Rattle.rom_combine.specs.Images.{HoldsIn}

module _ {S : Type 0} (Contents : ℕ → List ℕ → S → ℕ → Type 0) (step : ℕ → S → ℕ → List ℕ → Option (S × List ℕ)) (story : Story S) where
  -- the image holds the state and count after some entries more than so many of the history
  abbrev pub HoldsAfter : ℕ → List Entry → List ℕ → Type 0
  HoldsAfter len more i = let k = story.opening_count + len in HoldsIn Contents story.order (after step story.order (state_at step story k) k more) (k + length more) i

  -- it holds those at a boundary
  pub record AtBoundary (i : List ℕ) : Type 0 where
    pub len : ℕ
    pub boundary : IsBoundary story len
    pub reached : len ≤ length story.history
    pub holds : HoldsAfter len [] i

  -- it holds those at the length of a record in doubt, followed by that record's batch
  pub record AtDoubt (i : List ℕ) : Type 0 where
    pub before : List PassRecord
    pub pass : PassRecord
    pub since : List PassRecord
    pub stands : story.records ≡ before ++ pass ∷ since
    pub fate_is : pass.fate ≡ fate.Doubt
    pub reached : pass.len ≤ length story.history
    pub holds : HoldsAfter pass.len (doubted_batch step story pass) i

  -- each image of the session, but for those that could be left before it
  abbrev pub SessionImage : List ℕ → Type 0
  SessionImage i = AtBoundary i ⊎ AtDoubt i

  -- Each image now: it holds the history, or the history and the batch in doubt.
  abbrev pub ImageNow : List ℕ → Type 0
  ImageNow i = HoldsAfter (length story.history) [] i ⊎ ((doubted : List Entry) × (story.in_doubt ≡ Some doubted) × HoldsAfter (length story.history) doubted i)
