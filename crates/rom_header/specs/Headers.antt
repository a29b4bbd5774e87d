-- What is read of a header.
use Rattle.std.specs.Prelude.{◌≡◌, ◌≢◌, ◌⊎◌, ℕ, ◌<◌, ◌≤◌, List, length, slice_index, Result, Ok, Err}
use Rattle.rom_model.specs.Blocks.{IsOrder}
use Rattle.rom_header.specs.Layout.{words_needed, MAGIC, STATE}
use Rattle.rom_header.specs.Regions.{HasOrder, IsHeap}
use Rattle.rom_header.specs.declared.header.State.{State}
use Rattle.rom_header.specs.declared.header.State.TheVariants.{Idle, Mutating, Copying}
use Rattle.rom_header.specs.declared.header.Header.{Header}
use Rattle.rom_header.specs.declared.header.HeaderRefused.{HeaderRefused}
use Rattle.rom_header.specs.declared.header.HeaderRefused.TheVariants.{NotAHeap, BadVersion, BadOrder, TooSmall, BadState, Device}

-- the word that stands for a state
abbrev pub state_word : State → ℕ
state_word Idle = 0
state_word Mutating = 1
state_word Copying = 2

-- the state that the words name is IDLE
abbrev pub IsIdle : List ℕ → Type 0
IsIdle words = slice_index words STATE ≡ state_word Idle

-- The answer is the header, or the first refusal whose test fails. A device that fails may answer so in place of either.
abbrev pub IsHeaderAnswer : List ℕ → Result Header HeaderRefused → Type 0
IsHeaderAnswer words (Ok header) = IsHeap header.geometry words × (slice_index words STATE ≡ state_word header.state)
IsHeaderAnswer words (Err (TooSmall need have)) =
    (have ≡ length words) × (((need ≡ 8) × (have < 8)) ⊎ ((8 ≤ have) × HasOrder words (slice_index words 2) × (need ≡ words_needed (slice_index words 2)) × (have < need)))
IsHeaderAnswer words (Err NotAHeap) = (8 ≤ length words) × (slice_index words 0 ≢ MAGIC)
IsHeaderAnswer words (Err (BadVersion version)) = (8 ≤ length words) × (slice_index words 0 ≡ MAGIC) × (version ≡ slice_index words 1) × (version ≢ 1)
IsHeaderAnswer words (Err (BadOrder order)) =
    (8 ≤ length words) × (slice_index words 0 ≡ MAGIC) × (slice_index words 1 ≡ 1) × (order ≡ slice_index words 2) × ((order < 4) ⊎ (16 < order))
IsHeaderAnswer words (Err (BadState state)) =
    HasOrder words (slice_index words 2) × (words_needed (slice_index words 2) ≤ length words) × (state ≡ slice_index words STATE) × (2 < state)
IsHeaderAnswer words (Err Device) = Unit {0}

-- so many words are those of a header, or of a heap of some order that there is
abbrev pub IsNeed : ℕ → Type 0
IsNeed need = (need ≡ 8) ⊎ ((order : ℕ) × IsOrder order × (need ≡ words_needed order))

-- A refusal for too few words names how many words are needed, and how many the device has, which are fewer.
abbrev pub HasTooFew : ℕ → HeaderRefused → Type 0
HasTooFew size (TooSmall need have) = IsNeed need × (have ≡ size) × (have < need)
HasTooFew size other = Unit {0}

-- So of the first three words alone.
abbrev pub IsOrderAnswer : List ℕ → Result ℕ HeaderRefused → Type 0
IsOrderAnswer words (Ok order) = HasOrder words order
IsOrderAnswer words (Err NotAHeap) = slice_index words 0 ≢ MAGIC
IsOrderAnswer words (Err (BadVersion version)) = (slice_index words 0 ≡ MAGIC) × (version ≡ slice_index words 1) × (version ≢ 1)
IsOrderAnswer words (Err (BadOrder order)) = (slice_index words 0 ≡ MAGIC) × (slice_index words 1 ≡ 1) × (order ≡ slice_index words 2) × ((order < 4) ⊎ (16 < order))
IsOrderAnswer words (Err Device) = Unit {0}
IsOrderAnswer words (Err other) = ⊥
