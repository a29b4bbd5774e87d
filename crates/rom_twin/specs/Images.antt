-- What a stop may leave of a heap, in each phase of a batch and within each call.
use Rattle.std.specs.Prelude.{◌≡◌, ◌⊎◌, ℕ, List, slice_index}
use Rattle.rom_header.specs.Headers.{state_word}
use Rattle.rom_header.specs.Layout.{STATE, main_of, back_of}
use Rattle.rom_header.specs.Regions.{IsHeap}
use Rattle.rom_header.specs.declared.header.State.{State}
use Rattle.rom_header.specs.declared.header.State.TheVariants.{Mutating, Copying}
use Rattle.rom_twin.specs.declared.phase.Phase.{Phase}
use Rattle.rom_twin.specs.declared.phase.Phase.TheVariants.{Clean, Begun, Persisted, Committed, Copied, Undo, Doubt, Redo}

-- a heap in some state whose regions are both this image
pub record Twins (order : ℕ) (image i : List ℕ) : Type 0 where
  pub heap : IsHeap order i
  pub main_is : main_of order i ≡ image
  pub back_is : back_of order i ≡ image

-- a heap in this state, with these regions
pub record IsHeapInState (order : ℕ) (state : State) (main back i : List ℕ) : Type 0 where
  pub heap : IsHeap order i
  pub state_is : slice_index i STATE ≡ state_word state
  pub main_is : main_of order i ≡ main
  pub back_is : back_of order i ≡ back

-- a heap under MUTATING with this back, whatever main is
pub record HasBack (order : ℕ) (back i : List ℕ) : Type 0 where
  pub heap : IsHeap order i
  pub state_is : slice_index i STATE ≡ state_word Mutating
  pub back_is : back_of order i ≡ back

-- a heap under COPYING with this main, whatever back is
pub record HasMain (order : ℕ) (main i : List ℕ) : Type 0 where
  pub heap : IsHeap order i
  pub state_is : slice_index i STATE ≡ state_word Copying
  pub main_is : main_of order i ≡ main

-- The table. c is the committed image and m the new one; - is anything, where a region is in the midst of being written.
--
--               state       main   back
--   Clean       any         c      c
--   Begun       MUTATING    c      c
--   Persisted   MUTATING    m      c
--   Committed   COPYING     m      c
--   Copied      COPYING     m      m
--   Undo        MUTATING    -      c        or   any       c   c
--   Doubt       MUTATING    -      c        or   COPYING   m   c
--   Redo        COPYING     m      -
abbrev pub ImageOf : Phase → ℕ → List ℕ → List ℕ → List ℕ → Type 0
ImageOf Clean n c m i = Twins n c i
ImageOf Begun n c m i = IsHeapInState n Mutating c c i
ImageOf Persisted n c m i = IsHeapInState n Mutating m c i
ImageOf Committed n c m i = IsHeapInState n Copying m c i
ImageOf Copied n c m i = IsHeapInState n Copying m m i
ImageOf Undo n c m i = HasBack n c i ⊎ Twins n c i
ImageOf Doubt n c m i = HasBack n c i ⊎ IsHeapInState n Copying m c i
ImageOf Redo n c m i = HasMain n m i

-- Within `begin` and `finish` each image is one of `Twins`, within `persist` of `HasBack`, within `copy` of `HasMain`. Within the commit both regions are whole, and the state says which one counts:
abbrev pub Committing : ℕ → List ℕ → List ℕ → List ℕ → Type 0
Committing n c m i = IsHeapInState n Mutating m c i ⊎ IsHeapInState n Copying m c i

-- Within a repair one region is rewritten from the committed image: back in `Redo`, and else main, under MUTATING.
abbrev pub Rewriting : Phase → ℕ → List ℕ → List ℕ → Type 0
Rewriting Redo n c i = HasMain n c i
Rewriting other n c i = HasBack n c i

-- Each image that a repair makes, by the phase that it began in: so until the last write, and then the regions are the same. All others could be left before it.
abbrev pub Repairing : Phase → ℕ → List ℕ → List ℕ → Type 0
Repairing phase n c i = Rewriting phase n c i ⊎ Twins n c i

-- a heap in some state with this back
abbrev pub KeepsBack : ℕ → List ℕ → List ℕ → Type 0
KeepsBack order back i = IsHeap order i × (back_of order i ≡ back)

-- what a repair asks of each image before it, by the phase
abbrev pub Repairable : Phase → ℕ → List ℕ → List ℕ → Type 0
Repairable Redo n c i = HasMain n c i
Repairable other n c i = KeepsBack n c i
