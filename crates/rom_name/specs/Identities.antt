-- Whose updates a heap holds, as the words of its header say.
use Rattle.std.specs.Prelude.{◌≡◌, ◌≢◌, ◌⊎◌, ℕ, ◌+◌, ◌==◌, ◌<◌, if◌then◌else◌, ◌≤◌, List, length, slice_index, Option, Some, None}
use Rattle.rom_model.specs.Space.{ChangesOnly}
use Rattle.rom_header.specs.Headers.{state_word}
use Rattle.rom_header.specs.declared.header.Header.{Header}
use Rattle.rom_header.specs.Layout.{MAIN, STATE, back_at}
use Rattle.rom_header.specs.Regions.{IsCurrentRegion, IsHeap}
use Rattle.rom_frame.specs.declared.head.HeapName.{HeapName}
use Rattle.rom_name.specs.declared.count.Own.{Own}
use Rattle.rom_name.specs.declared.identity.Identity.{Identity}

-- a heap of this name has one
abbrev pub IsNamed : HeapName → Type 0
IsNamed name = name.high ≢ 0

-- what the words 4 to 7 say
abbrev pub identity_of : List ℕ → Identity
identity_of words = record { name = record { high = slice_index words 4; low = slice_index words 5 }; epoch = slice_index words 6; since = slice_index words 7 }

-- where the count of updates stands: in word 2 of the region that counts
abbrev pub count_at : ℕ → ℕ → ℕ
count_at order state = (if state == 1 then back_at order else MAIN) + 2

-- The count is that of the region that counts, or there is none, since no heap stands there.
abbrev pub IsCountAnswer : List ℕ → Option ℕ → Type 0
IsCountAnswer words (Some count) = (order : ℕ) × IsHeap order words × (count ≡ slice_index words (count_at order (slice_index words STATE)))
IsCountAnswer words None = (order : ℕ) → IsHeap order words → ⊥

-- A heap stands there with this order and this state, or none does.
abbrev pub IsHeapFound : List ℕ → Option Header → Type 0
IsHeapFound words (Some header) = IsHeap header.geometry words × (slice_index words STATE ≡ state_word header.state)
IsHeapFound words None = (order : ℕ) → IsHeap order words → ⊥

-- and so with the identity beside the count
abbrev pub IsOwnAnswer : List ℕ → Option Own → Type 0
IsOwnAnswer words (Some own) = IsCountAnswer words (Some own.count) × (own.identity ≡ identity_of words)
IsOwnAnswer words None = IsCountAnswer words None

-- the region that counts stays
abbrev pub KeepsRegion : List ℕ → List ℕ → Type 0
KeepsRegion old new = (order : ℕ) (region : List ℕ) → IsCurrentRegion order old region → IsCurrentRegion order new region

-- These words are written from that place on, and behind them, once they are certain, the word that says that they are there: where it is new, they all are.
pub record WritesGuarded (at : ℕ) (values : List ℕ) (place guard : ℕ) (old new : List ℕ) : Type 0 where
  pub as_long : length new ≡ length old
  pub others : (k : ℕ) → (k < at) ⊎ (at + length values ≤ k) → k ≢ place → slice_index new k ≡ slice_index old k
  pub whole : (slice_index new place ≡ slice_index old place) ⊎ ((slice_index new place ≡ guard) × ((k : ℕ) → k < length values → slice_index new (at + k) ≡ slice_index values k))

-- The name is as it was, or it is this one, whole; and nothing else differs but its second word.
pub record WritesName (name : HeapName) (old new : List ℕ) : Type 0 where
  pub only : ChangesOnly 4 2 old new
  pub whole : (slice_index new 4 ≡ slice_index old 4) ⊎ ((identity_of new).name ≡ name)

-- The count at which the epoch began is as it was, or it is this one, with its epoch; and nothing else differs but the epoch.
pub record WritesEpoch (epoch since : ℕ) (old new : List ℕ) : Type 0 where
  pub only : ChangesOnly 6 2 old new
  pub whole : (slice_index new 7 ≡ slice_index old 7) ⊎ ((slice_index new 6 ≡ epoch) × (slice_index new 7 ≡ since))

-- The first word of the name is as it was, or the identity is this one, whole; and nothing else differs.
pub record WritesIdentity (identity : Identity) (old new : List ℕ) : Type 0 where
  pub only : ChangesOnly 4 4 old new
  pub whole : (slice_index new 4 ≡ slice_index old 4) ⊎ (identity_of new ≡ identity)
