-- The parts of the inspection in their order. Each is a relation to what it comes to: what it found, or
-- its first break. What the walks find are the nodes that they reach, the last first.
use Rattle.std.specs.Prelude.{◌≡◌, ℕ, zero, suc, Bool, List, [], ◌++◌, length, Result, Ok, Err, MatchResult}
use Rattle.rom_model.specs.Blocks.{AreWords}
use Rattle.rom_model.specs.Region.{buckets}
use Rattle.rom_model.specs.Tests.{checked}
use Rattle.rom_model.specs.Parts.{Then}
use Rattle.rom_model.specs.declared.unfit.Break.{Break}
use Rattle.rom_model.specs.declared.unfit.Rule.TheVariants as rule
use Rattle.rom_block.specs.Taken.{DiffersFirst}
use Rattle.rom_blob_region.specs.State.{taken_with}
use Rattle.rom_blob_region.specs.Tests.{blob_root_tests, size_tests}
use Rattle.rom_blob_region.specs.Walks.{held, WalksBlobs, AreBlobMarks}

-- the walks along the first so many buckets, one after another
abbrev pub BucketByBucket : ℕ → List ℕ → ℕ → Result (List ℕ) Break → Type 0
BucketByBucket n words zero r = r ≡ Ok []
BucketByBucket n words (suc i) r = Then (BucketByBucket n words i) (λ before. Then (WalksBlobs n words i before) (λ units r. r ≡ Ok (units ++ before))) r

-- the words of the allocator's tree, of which taken are the bucket table and the blocks of these nodes
abbrev pub BlobAllocatorTree : ℕ → List ℕ → List ℕ → Result (Unit {0}) Break → Type 0
BlobAllocatorTree n words units (Ok done) = AreWords n (taken_with (held n words units)) words
BlobAllocatorTree n words units (Err e) = (e.rule ≡ rule.Tree) × DiffersFirst n (taken_with (held n words units)) words e.offset

-- the nodes that were reached are as many as there are keys, and then the tree
abbrev pub Ending : ℕ → List ℕ → List ℕ → Result (Unit {0}) Break → Type 0
Ending n words units = Then (λ r. r ≡ checked (size_tests words units)) (λ done. BlobAllocatorTree n words units)

-- All parts: the root words, all buckets, the number of keys and the tree.
abbrev pub BlobInspection : ℕ → List ℕ → Result (Unit {0}) Break → Type 0
BlobInspection n words = Then (λ r. r ≡ checked (blob_root_tests n words)) (λ done. Then (BucketByBucket n words (buckets n)) (λ units. Ending n words units))

-- The first test of the inspection that does not hold.
abbrev pub FirstBlobBreak : ℕ → List ℕ → Break → Type 0
FirstBlobBreak n words e = BlobInspection n words (Err e)

-- what code answers of the first so many walks: how many nodes they reach, and the marks of these
abbrev pub AnswersBlobWalks : ℕ → List ℕ → ℕ → Result ℕ Break → List Bool → Type 0
AnswersBlobWalks n words many result marks = MatchResult result
    (λ count. (units : List ℕ) × BucketByBucket n words many (Ok units) × (count ≡ length units) × AreBlobMarks n (held n words units) marks)
    (λ e. BucketByBucket n words many (Err e))

-- what it answers of all before the tree, where the marks are those of the nodes that were reached
abbrev pub AnswersKeys : ℕ → List ℕ → Result (Unit {0}) Break → List Bool → Type 0
AnswersKeys n words result marks = MatchResult result
    (λ done. (units : List ℕ) × BucketByBucket n words (buckets n) (Ok units) × (checked (blob_root_tests n words) ≡ Ok tt) × (checked (size_tests words units) ≡ Ok tt) × AreBlobMarks n (held n words units) marks)
    (λ e. FirstBlobBreak n words e)
