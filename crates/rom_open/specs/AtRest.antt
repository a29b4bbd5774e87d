-- A heap between two updates of it.
use Rattle.std.specs.Prelude.{◌≡◌, ℕ, List}
use Rattle.rom_header.specs.Headers.{IsIdle}
use Rattle.rom_header.specs.Layout.{main_of, back_of}
use Rattle.rom_header.specs.Regions.{IsHeap}

-- A heap of this order at rest: its state is IDLE, and both regions are this image.
pub record IsHeapAtRest (order : ℕ) (image words : List ℕ) : Type 0 where
  pub heap : IsHeap order words
  pub idle : IsIdle words
  pub main_is : main_of order words ≡ image
  pub back_is : back_of order words ≡ image
