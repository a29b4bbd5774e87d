-- The parts of a view, and the views that there are at the opening.
use Rattle.std.specs.Prelude.{◌≡◌, ℕ, zero, suc, ◌+◌, ◌*◌, List, [], ◌∷◌, ◌++◌, length, Bool, true, false, ◌==◌, ◌||◌, Option, Some, None, if◌then◌else◌}
use mathlib.Core.Option.{some}
use lib.ListN.{get_elem?}
use Rattle.rom_model.specs.Blocks.{region_len}
use Rattle.rom_model.specs.declared.call.Updated.{Updated}
use Rattle.rom_model.specs.declared.entry.Entry.{Entry}
use Rattle.rom_model.specs.declared.kept.Kept.{Kept}
use Rattle.rom_model.specs.declared.record.Found.{Found}
use Rattle.rom_model.specs.declared.record.PassRecord.{PassRecord}
use Rattle.rom_rule.specs.declared.law.Key.{Key}
use Rattle.rom_rule.specs.declared.views.Base.{Base}
use Rattle.rom_rule.specs.declared.views.Plan.{Plan}
use Rattle.rom_rule.specs.declared.views.Position.{Position}
use Rattle.rom_rule.specs.declared.views.Position.TheVariants.{Out, Holds, Arrived, Reads}
use Rattle.rom_rule.specs.declared.views.Request.{Request}
use Rattle.rom_rule.specs.declared.views.View.{View}
use Rattle.rom_rule.specs.Places.{indicator_count, slots_at, part}

-- P holds of each member and its index
abbrev pub Each : {A : Type 0} → (ℕ → A → Type 0) → List A → Type 0
Each {A} P xs = (j : ℕ) (a : A) → get_elem? xs j ≡ some a → P j a

-- a found call with what it is told
abbrev pub Told : Type 0
Told = Found × Updated (List ℕ)

-- what a view knows of the published history
pub record Remembered : Type 0 where
  pub seen : List Entry
  pub moments : List ℕ
  pub fronts : List ℕ
  pub joined : List Kept

-- what a view knows of its calls
pub record CallerCalls : Type 0 where
  pub number : ℕ
  pub calls : List (List ℕ)
  pub outcomes : List Told
  pub laid : List ℕ
  pub since : ℕ
  pub joined : List Kept

-- What a view's table was opened with. An invariant reads a view by its parts: by this one and by those
-- below.
abbrev pub base_in : View → Base
base_in v = v.base

-- the caller's number, or 0
abbrev pub number_in : View → ℕ
number_in v = v.number

-- where it stands as a reader
abbrev pub position_in : View → Position
position_in v = v.position

-- where it stands as a reader, and the history that it has seen
abbrev pub reading_in : View → Position × List Entry
reading_in v = (v.position, v.seen)

-- what it knows of the published history
abbrev pub remembered_in : View → Remembered
remembered_in v = record { seen = v.seen; moments = v.moments; fronts = v.fronts; joined = v.joined }

-- what it knows of its calls
abbrev pub calls_in : View → CallerCalls
calls_in v = record { number = v.number; calls = v.calls; outcomes = v.outcomes; laid = v.laid; since = v.since; joined = v.joined }

-- the plan, which the writer's view alone has
abbrev pub plan_in : View → Option Plan
plan_in v = v.plan

-- what a caller keeps of its session
abbrev pub kept_of : View → Kept
kept_of v = record { number = v.number; seen = v.seen; moments = v.moments; fronts = v.fronts; told = v.outcomes }

-- whether a reader at this position reads a side
abbrev pub is_reading : Position → Bool
is_reading (Reads k side front image) = true
is_reading _ = false

-- the version that is held at this position, else 0
abbrev pub version_of : Position → ℕ
version_of (Holds version) = version
version_of _ = 0

-- the indicator at which this position stands, else 0
abbrev pub indicator_in : Position → ℕ
indicator_in (Arrived k) = k
indicator_in (Reads k side front image) = k
indicator_in _ = 0

-- the side that is read at this position, else 0
abbrev pub side_read : Position → ℕ
side_read (Reads k side front image) = side
side_read _ = 0

-- the front at which this position reads, else 0
abbrev pub front_of : Position → ℕ
front_of (Reads k side front image) = front
front_of _ = 0

-- the words of the side that is read at this position, else none
abbrev pub image_of : Position → List ℕ
image_of (Reads k side front image) = image
image_of _ = []

-- the history, the records of all passes with this one's, and what they told
pub record Book : Type 0 where
  pub history : List Entry
  pub records : List PassRecord
  pub told : List Told

-- the records of all passes, with this one's behind them
abbrev pub records_of : Plan → List PassRecord
records_of p = p.records ++ p.mine

-- a plan's history, its records, and what they told
abbrev pub book_in : Plan → Book
book_in p = record { history = p.history; records = records_of p; told = p.told }

-- whether a pass has its record
abbrev pub is_made : List PassRecord → Bool
is_made [] = false
is_made (r ∷ rs) = true

-- what a plan has of calls; `len` is the length of the published history
pub record PlanCalls : Type 0 where
  pub requests : List Request
  pub scanned : ℕ
  pub made : Bool
  pub told : List Told
  pub dealt : ℕ
  pub len : ℕ

-- what a plan has of calls
abbrev pub plan_calls : Plan → PlanCalls
plan_calls p = record { requests = p.requests; scanned = p.scanned; made = is_made p.mine; told = p.told; dealt = p.dealt; len = length p.history }

-- the words of a side
abbrev pub side_of : ℕ → List ℕ → List ℕ → List ℕ
side_of side main back = if side == 0 then main else back

-- x is in the list
abbrev pub has : ℕ → List (ℕ × ℕ) → Bool
has x [] = false
has x (y ∷ ys) = (x == y.0) || has x ys

-- the numbers below n
abbrev pub below : ℕ → List (ℕ × ℕ)
below zero = []
below (suc n) = (n, 0) ∷ below n

-- what a table was opened with, as its key tells
abbrev pub base_of : Key → Base
base_of key = record {
  order = key.layout.order;
  callers = key.layout.callers;
  image = part (slots_at key.layout.callers + 64 * key.layout.callers) (region_len key.layout.order) key.words.value.items;
  faults = key.faults;
}

-- At the opening both sides hold the image, readers are sent to back, and both waits count as over.
abbrev pub opening_plan : Base → Plan
opening_plan b = record {
  history = [];
  records = [];
  mine = [];
  told = [];
  main = b.image;
  back = b.image;
  side = 1;
  version = 0;
  clear = below (indicator_count b.callers);
  passes = 0;
  scanned = 0;
  requests = [];
  dealt = 0;
}

-- a view that has seen nothing and done nothing
abbrev pub fresh_view : Base → View
fresh_view b = record { base = b; number = 0; seen = []; moments = []; fronts = []; joined = []; position = Out; calls = []; outcomes = []; laid = []; since = 0; plan = None; steps = 0 }

-- the writer's, which is the first
abbrev pub opening_view : Base → View
opening_view b = record (fresh_view b) { plan = Some (opening_plan b) }

-- the first plan, or the second where there is none
abbrev pub plan_or : Option Plan → Plan → Plan
plan_or (Some p) q = p
plan_or None q = q

-- the plan of the writer's view
abbrev pub plan_of : View → Plan
plan_of v = plan_or v.plan (opening_plan v.base)

-- the view is the writer's, and this is its plan
abbrev pub IsWriter : View → Plan → Type 0
IsWriter v p = v.plan ≡ Some p
