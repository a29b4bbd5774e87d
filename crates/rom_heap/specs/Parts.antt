-- The parts of the inspection in their order. Each is a relation between the blocks that were reached
-- before it, the last first, and what it comes to: those that are reached after it, or its first break.
use Rattle.std.specs.Prelude.{◌≡◌, ℕ, zero, suc, Bool, List, [], ◌++◌, length, Result, Ok, Err, MatchResult}
use Rattle.rom_model.specs.Blocks.{AreWords}
use Rattle.rom_model.specs.Region.{buckets, taken_by}
use Rattle.rom_model.specs.Tests.{tested}
use Rattle.rom_model.specs.Parts.{Then}
use Rattle.rom_model.specs.declared.unfit.Break.{Break}
use Rattle.rom_model.specs.declared.unfit.Rule.TheVariants as rule
use Rattle.rom_block.specs.Taken.{DiffersFirst}
use Rattle.rom_heap.specs.declared.inspect.version.Version.{Version}
use Rattle.rom_heap.specs.declared.inspect.walk.Walk.{Walk}
use Rattle.rom_heap.specs.declared.inspect.walk.Walk.TheVariants as along
use Rattle.rom_heap.specs.Tests.{root_tests, queue_tests, set_tests, map_tests}
use Rattle.rom_heap.specs.Walks.{bucket_walk, Walks, AreMarks}

-- the root words, among which no block is reached
abbrev pub Root : Version → ℕ → List ℕ → Result (List ℕ) Break → Type 0
Root v n words r = r ≡ tested (root_tests v n words) []

-- the queue's chain, and then its tail and its length
abbrev pub Queue : ℕ → List ℕ → List ℕ → Result (List ℕ) Break → Type 0
Queue n words seen = Then (Walks n words along.Queue seen) (λ blocks r. r ≡ tested (queue_tests n words blocks) (blocks ++ seen))

-- the set's chain, and then its size
abbrev pub Set : ℕ → List ℕ → List ℕ → Result (List ℕ) Break → Type 0
Set n words seen = Then (Walks n words along.Set seen) (λ blocks r. r ≡ tested (set_tests words blocks) (blocks ++ seen))

-- the first so many of these walks, one after another
abbrev pub OneByOne : ℕ → List ℕ → (ℕ → Walk) → List ℕ → ℕ → Result (List ℕ) Break → Type 0
OneByOne n words walks seen zero r = r ≡ Ok []
OneByOne n words walks seen (suc i) r = Then (OneByOne n words walks seen i) (λ before. Then (Walks n words (walks i) (before ++ seen)) (λ blocks r. r ≡ Ok (blocks ++ before))) r

-- the chains of all buckets, and then the map's size
abbrev pub Map : Version → ℕ → List ℕ → List ℕ → Result (List ℕ) Break → Type 0
Map v n words seen = Then (OneByOne n words (bucket_walk v) seen (buckets n)) (λ blocks r. r ≡ tested (map_tests words blocks) (blocks ++ seen))

-- the words of the allocator's tree, of which taken are the bucket table and the blocks that were reached
abbrev pub AllocatorTree : ℕ → List ℕ → List ℕ → Result (List ℕ) Break → Type 0
AllocatorTree n words seen (Ok found) = (found ≡ seen) × AreWords n (taken_by n seen) words
AllocatorTree n words seen (Err e) = (e.rule ≡ rule.Tree) × DiffersFirst n (taken_by n seen) words e.offset

-- the root words, and then the structures
abbrev pub Structures : Version → ℕ → List ℕ → Result (List ℕ) Break → Type 0
Structures v n words = Then (Root v n words) (λ none. Then (Queue n words none) (λ seen. Then (Set n words seen) (λ seen. Map v n words seen)))

-- All parts: the root words, the queue, the set, the map and the tree.
abbrev pub Inspection : Version → ℕ → List ℕ → Result (List ℕ) Break → Type 0
Inspection v n words = Then (Structures v n words) (λ seen. AllocatorTree n words seen)

-- The first test of the inspection that does not hold.
abbrev pub FirstBreak : Version → ℕ → List ℕ → Break → Type 0
FirstBreak v n words e = Inspection v n words (Err e)

-- what code answers of a part: the marks are then those of all blocks that are reached after it
abbrev pub AnswersPart : ℕ → (Result (List ℕ) Break → Type 0) → Result (Unit {0}) Break → List Bool → Type 0
AnswersPart n part result marks = MatchResult result (λ done. (found : List ℕ) × part (Ok found) × AreMarks n found marks) (λ e. part (Err e))

-- the same, where the marks were those of the blocks that were reached before it
abbrev pub IsPart : ℕ → (List ℕ → Result (List ℕ) Break → Type 0) → List Bool → Result (Unit {0}) Break → List Bool → Type 0
IsPart n part old result new = (seen : List ℕ) → AreMarks n seen old → AnswersPart n (part seen) result new

-- what code answers of the first so many walks: how many blocks they reach, and the marks of these
abbrev pub AnswersWalks : ℕ → List ℕ → (ℕ → Walk) → List ℕ → ℕ → Result ℕ Break → List Bool → Type 0
AnswersWalks n words walks seen many result marks = MatchResult result
    (λ count. (blocks : List ℕ) × OneByOne n words walks seen many (Ok blocks) × (count ≡ length blocks) × AreMarks n (blocks ++ seen) marks)
    (λ e. OneByOne n words walks seen many (Err e))
