-- What contracts see of a session.
use Rattle.std.specs.Prelude.{◌≡◌, ℕ, List, [], ◌∷◌, None, Option, IsSomeAnd}
use Rattle.rom_model.specs.Machine.{Machine, on_words}
use Rattle.rom_model.specs.Story.{Story, IsInDoubt}
use Rattle.rom_model.specs.declared.entry.Entry.{Entry}
use Rattle.rom_model.specs.declared.kept.Kept.{Kept}
use Rattle.rom_model.specs.declared.record.PassRecord.{PassRecord}
use Rattle.rom_rule.specs.Views.{plan_of, records_of}
use Rattle.rom_rule.specs.declared.views.View.{View}
use Rattle.rom_twin.specs.declared.phase.Phase.{Phase}
use Rattle.rom_twin.specs.declared.phase.Phase.TheVariants.{Clean, Doubt}

-- the heap's order, its words and its device's count of faults at the opening, the published history and the records of passes at the closing, what the device needs then, and what each caller kept, in the order of their numbers
pub record SessionSeen : Type 0 where
  pub order : ℕ
  pub image : List ℕ
  pub faults : ℕ
  pub history : List Entry
  pub records : List PassRecord
  pub phase : Phase
  pub callers : List Kept

-- the history that the writer knew, which is empty where there was no writer
abbrev pub history_in : List View → List Entry
history_in [] = []
history_in (v ∷ vs) = (plan_of v).history

-- the records that the writer knew, of which there are none where there was no writer
abbrev pub records_in : List View → List PassRecord
records_in [] = []
records_in (v ∷ vs) = records_of (plan_of v)

-- what the writer kept of callers once it had taken them in, which is nothing where there was no writer
abbrev pub callers_in : List View → List Kept
callers_in [] = []
callers_in (v ∷ vs) = v.joined

-- a session in which nothing was done
abbrev pub unchanged : ℕ → List ℕ → ℕ → SessionSeen
unchanged order image faults = record { order = order; image = image; faults = faults; history = []; records = []; phase = Clean; callers = [] }

-- On a device in doubt a batch is in doubt, that of the last pass that was; on any other there is none.
abbrev pub IsDoubtOf : {S : Type 0} → (ℕ → S → ℕ → List ℕ → Option (S × List ℕ)) → Phase → Story S → Type 0
IsDoubtOf step Doubt story = IsSomeAnd story.in_doubt (IsInDoubt step story)
IsDoubtOf step other story = story.in_doubt ≡ None

module _ {S C Q R A : Type 0} (machine : Machine S C Q R A) (Contents : ℕ → List ℕ → S → ℕ → Type 0) where
  -- The story of a session begins with the state and the count that its image stands for, has its history and its records, and in doubt the batch in doubt.
  pub record IsStoryOf (session : SessionSeen) (story : Story S) : Type 0 where
    pub order_is : story.order ≡ session.order
    pub opening : Contents session.order session.image story.opening story.opening_count
    pub faults_is : story.opening_faults ≡ session.faults
    pub history : story.history ≡ session.history
    pub records : story.records ≡ session.records
    pub in_doubt : IsDoubtOf (on_words machine) session.phase story

  -- it has one
  abbrev pub HasStory : SessionSeen → Type 0
  HasStory session = (story : Story S) × IsStoryOf session story

  -- each of its stories is such
  abbrev pub EachStory : SessionSeen → (Story S → Type 0) → Type 0
  EachStory session P = (story : Story S) → IsStoryOf session story → P story
