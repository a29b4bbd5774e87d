-- The rule that who writes a heap keeps, as those see it who read its words meanwhile.
use Rattle.std.specs.Prelude.{◌≡◌, ℕ, ◌+◌, ◌<◌, ◌≤◌, List, slice_index}
use Rattle.rom_header.specs.Layout.{STATE, back_of, main_of}
use Rattle.rom_header.specs.Regions.{IsHeap}

-- how far the writer is with a batch
pub data Stage : Type 0 where
  -- there is none
  Resting : Stage
  -- main is changed, or made again what back is
  Changing : Stage
  -- COPYING is written, and not yet certain: the batch is in doubt
  Deciding : Stage
  -- the batch is committed, and back is made what main is
  Copying : Stage

-- the state that stands in the header then
abbrev pub state_at : Stage → ℕ
state_at Resting = 0
state_at Changing = 1
state_at Deciding = 2
state_at Copying = 2

-- how old a region is: its region version and its count of updates, of which each batch raises one
abbrev pub age : List ℕ → ℕ
age region = slice_index region 1 + slice_index region 2

-- a batch that is in doubt has made main older than back, and back is never the older one
abbrev pub IsOlder : Stage → (main back : List ℕ) → Type 0
IsOlder Deciding main back = age back < age main
IsOlder Copying main back = age back ≤ age main
IsOlder other main back = Unit {0}

-- The words are a heap of this order in this stage.
pub record IsMoment (order : ℕ) (stage : Stage) (words : List ℕ) : Type 0 where
  pub heap : IsHeap order words
  pub state : slice_index words STATE ≡ state_at stage
  pub older : IsOlder stage (main_of order words) (back_of order words)

-- From one stage to the next, and what main and back are before and after. Back stands still but in Copying, and main stands still there; Copying is left once both are alike. A batch in doubt is committed, or taken back.
abbrev pub Moves : Stage → Stage → (main back new_main new_back : List ℕ) → Type 0
Moves Resting Resting main back new_main new_back = new_back ≡ back
Moves Resting Changing main back new_main new_back = new_back ≡ back
Moves Changing Changing main back new_main new_back = new_back ≡ back
Moves Changing Resting main back new_main new_back = new_back ≡ back
Moves Changing Deciding main back new_main new_back = new_back ≡ back
Moves Deciding Deciding main back new_main new_back = (new_main ≡ main) × (new_back ≡ back)
Moves Deciding Changing main back new_main new_back = new_back ≡ back
Moves Deciding Copying main back new_main new_back = (new_main ≡ main) × (new_back ≡ back)
Moves Copying Copying main back new_main new_back = new_main ≡ main
Moves Copying Resting main back new_main new_back = (new_main ≡ main) × (new_back ≡ main)
Moves old new main back new_main new_back = ⊥

-- From one moment to the next one. Main and back move as the stages say, version and count of back never fall, and no word of the name falls.
pub record IsStep (order : ℕ) (stage new_stage : Stage) (words new : List ℕ) : Type 0 where
  pub moves : Moves stage new_stage (main_of order words) (back_of order words) (main_of order new) (back_of order new)
  pub version : slice_index (back_of order words) 1 ≤ slice_index (back_of order new) 1
  pub count : slice_index (back_of order words) 2 ≤ slice_index (back_of order new) 2
  pub name : (k : ℕ) → 4 ≤ k → k < 8 → slice_index words k ≤ slice_index new k

-- At each moment a heap of this order stands there, and from each to the next the rule is kept.
pub record IsKept (order : ℕ) (stages : ℕ → Stage) (words : ℕ → List ℕ) : Type 0 where
  pub moment : (t : ℕ) → IsMoment order (stages t) (words t)
  pub step : (t : ℕ) → IsStep order (stages t) (stages (t + 1)) (words t) (words (t + 1))

-- the region that is committed: main once a batch is certain and until back has become it, and else back
abbrev pub committed : Stage → (main back : List ℕ) → List ℕ
committed Copying main back = main
committed other main back = back

-- the same at a moment
abbrev pub committed_at : ℕ → (ℕ → Stage) → (ℕ → List ℕ) → ℕ → List ℕ
committed_at order stages words t = committed (stages t) (main_of order (words t)) (back_of order (words t))
