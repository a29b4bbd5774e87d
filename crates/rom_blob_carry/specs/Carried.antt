-- What of a heap of keys with bytes is carried over, and what is told of it.
use Rattle.std.specs.Prelude.{◌≡◌, ℕ, List, map, option_map}
use Rattle.std.specs.FinMap as finite
use Rattle.rom_carry.specs.Carried.{AreCarrying, CarriesOver, StaysIn, TellsOf}
use Rattle.rom_blob_region.specs.State.{Blob, BlobState}
use Rattle.rom_blob_region.specs.Region.{BlobContents}
use Rattle.rom_blob_region.specs.declared.call.BlobReply.{BlobReply}
use Rattle.rom_blob_region.specs.declared.call.BlobReply.TheVariants.{Full}
use Rattle.rom_blob_region.proofs.Single.{one_contents}
use Rattle.rom_blob.specs.Blobs.{blobs}
use Rattle.rom_blob.specs.Lines.{ReadsBlobs}
use Rattle.rom_blob_carry.specs.Elements.{elements_of}
use Rattle.rom_blob_carry.specs.Lines.{blob_bounds, set_line}
use Rattle.rom_blob_carry.specs.Sizes.{measures_text, sizes_text}

-- Each key has the same bytes in both states, or is missing in both. Where their blocks lie may differ.
abbrev pub SameBytes : BlobState → BlobState → Type 0
SameBytes s t = (key : ℕ) → option_map (λ (blob : Blob). blob.bytes) (finite.get t key) ≡ option_map (λ (blob : Blob). blob.bytes) (finite.get s key)

-- the heap is told to be full
abbrev pub IsFull : BlobReply → Type 0
IsFull reply = reply ≡ Full

-- These lines are those of a state's keys, the longest bytes first, and carry it over.
abbrev pub CarriesBlobs : ℕ → BlobState → List (List ℕ) → Type 0
CarriesBlobs order s lines = (lines ≡ map set_line (elements_of s)) × AreCarrying blobs ReadsBlobs SameBytes IsFull blob_bounds order s lines

-- these lines carry over what a region holds
abbrev pub BlobsCarried : ℕ → List ℕ → List (List ℕ) → Type 0
BlobsCarried order words lines = CarriesOver BlobContents CarriesBlobs order words lines

-- this text tells the sizes of the heap in a region
abbrev pub BlobsSized : ℕ → List ℕ → List ℕ → Type 0
BlobsSized order words text = TellsOf BlobContents (λ n s count told. told ≡ sizes_text n s count) order words text

-- this text tells what a monitor watches of it
abbrev pub BlobsMeasured : ℕ → List ℕ → List ℕ → Type 0
BlobsMeasured order words text = TellsOf BlobContents (λ n s count told. told ≡ measures_text n s) order words text

-- Words of a region of another order stand for keys with the same bytes, and for the same count.
abbrev pub BlobsGrown : ℕ → List ℕ → ℕ → List ℕ → Type 0
BlobsGrown order words greater new = StaysIn BlobContents SameBytes order words greater new

-- of a region that stands for something there is a text that tells its sizes
pub some_blob_sizes : (order : ℕ) (words : List ℕ) (s : BlobState) (k : ℕ) → BlobContents order words s k → (text : List ℕ) × BlobsSized order words text
some_blob_sizes order words s k is = (sizes_text order s k, λ t j other. (let same = one_contents is other in λ i. sizes_text order (same.0 i) (same.1 i)))

-- and one that tells what a monitor watches
pub some_blob_measures : (order : ℕ) (words : List ℕ) (s : BlobState) (k : ℕ) → BlobContents order words s k → (text : List ℕ) × BlobsMeasured order words text
some_blob_measures order words s k is = (measures_text order s, λ t j other. (let same = one_contents is other in λ i. measures_text order (same.0 i)))
