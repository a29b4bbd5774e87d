-- Keys with bytes, in an order in which each finds room: none has more units for its bytes than one before it.
-- What is free then lies in whole blocks of the order that comes next, but for the rest of one block. So
-- keys that fit by their units are all set.
use Rattle.std.specs.Prelude.{◌≡◌, ℕ, ◌+◌, ◌-◌, ◌^◌, ◌≤◌, List, [], ◌∷◌, map, length, sum, option_map}
use Rattle.std.specs.List.{AllByRecursion}
use Rattle.std.specs.Ordering.{nat_cmp}
use Rattle.std.specs.FinMap as finite
use Rattle.rom_model.specs.Blocks.{IsOrder}
use Rattle.rom_model.specs.Chains.{times}
use Rattle.rom_model.specs.Machine.{Machine}
use Rattle.rom_model.specs.declared.line.Step.{Step}
use Rattle.rom_model.specs.declared.line.Step.TheVariants.{Update}
use Rattle.rom_carry.specs.Rebuilds.{after_steps, told_by_steps}
use Rattle.rom_blob_region.specs.State.{BlobState, no_blobs, body_units}
use Rattle.rom_blob_region.specs.declared.call.BlobCall.{BlobCall}
use Rattle.rom_blob_region.specs.declared.call.BlobCall.TheVariants.{Set}
use Rattle.rom_blob_region.specs.declared.call.BlobQuery.{BlobQuery}
use Rattle.rom_blob_region.specs.declared.call.BlobReply.{BlobReply}
use Rattle.rom_blob_region.specs.declared.call.BlobReply.TheVariants.{New}
use Rattle.rom_blob_region.specs.declared.call.BlobAnswer.{BlobAnswer}

-- the updates that give each key its bytes
abbrev pub sets_of : List (ℕ × List ℕ) → List (Step BlobCall BlobQuery)
sets_of es = map (λ e. Update (Set e.0 e.1)) es

-- how many units the block of an entry's bytes has
abbrev pub bytes_units : ℕ × List ℕ → ℕ
bytes_units e = body_units (length e.1)

-- none has more units for its bytes than one before it
abbrev pub NeverRise : List (ℕ × List ℕ) → Type 0
NeverRise [] = Unit {0}
NeverRise (e ∷ es) = AllByRecursion (λ later. bytes_units later ≤ bytes_units e) es × NeverRise es

-- Keys with bytes, in that order. No key stands twice, and a heap of order n has enough units for them all,
-- beside the bucket table, which has 2 ^ (n - 4).
pub record ArePacked (n : ℕ) (es : List (ℕ × List ℕ)) : Type 0 where
  pub order : IsOrder n
  pub once : (key : ℕ) → times key (map (λ e. e.0) es) ≤ 1
  pub falling : NeverRise es
  pub room : 2 ^ (n - 4) + sum (map (λ e. 1 + bytes_units e) es) ≤ 2 ^ n

-- Set one after another in a new heap, each of them is told that it is new. So none is told that the heap is
-- full, and in the end each key has its bytes, and there is no other key.
pub record AreAllSet (machine : Machine BlobState BlobCall BlobQuery BlobReply BlobAnswer) (n : ℕ) (es : List (ℕ × List ℕ)) : Type 0 where
  pub told_new : AllByRecursion (λ reply. reply ≡ New) (told_by_steps machine n no_blobs 0 (sets_of es))
  pub answered : length (told_by_steps machine n no_blobs 0 (sets_of es)) ≡ length (sets_of es)
  pub bytes_are : (key : ℕ) → option_map (λ blob. blob.bytes) (finite.get (after_steps machine n no_blobs 0 (sets_of es)) key) ≡ finite.find nat_cmp key es
