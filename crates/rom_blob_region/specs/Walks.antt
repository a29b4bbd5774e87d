-- Walks along the chains of buckets: which nodes they reach, and where they break. A node of a chain is
-- told by the number of its unit, a block by its node in the allocator's tree. Lists of what was reached
-- have the last first.
use Rattle.std.specs.Prelude.{◌≡◌, ◌≢◌, ◌⊎◌, ℕ, ◌+◌, ◌-◌, ◌*◌, ◌^◌, ◌<◌, Bool, List, [], ◌∷◌, ◌++◌, length, Result, Ok, Err, MatchResult, slice_index}
use Rattle.rom_model.specs.Blocks.{IsNode, block_of, block_at}
use Rattle.rom_model.specs.Parts.{Then}
use Rattle.rom_model.specs.Tests.{tested, checked, is_word}
use Rattle.rom_model.specs.declared.unfit.Break.{Break}
use Rattle.rom_model.specs.declared.unfit.Rule.TheVariants.{Link}
use Rattle.rom_block.specs.Levels.{IsMarked}
use Rattle.rom_block.specs.Walk.{Clear}
use Rattle.rom_bucket.specs.Walk.{head_of}
use Rattle.rom_blob_region.specs.State.{order_for, some_block, taken_with}
use Rattle.rom_blob_region.specs.Region.{len_at, blob_at, held_by, AreBlobsApart}
use Rattle.rom_blob_region.specs.declared.inspect.walk.Reached.{Reached}
use Rattle.rom_blob_region.specs.Tests.{key_tests, end_tests}

-- The link at that offset leads to this block of that order, which meets neither the bucket table nor one
-- of the blocks that were reached before.
pub record LeadsToBlob (n : ℕ) (words held : List ℕ) (link order x : ℕ) : Type 0 where
  pub here : slice_index words link ≡ block_at n order x
  pub node : IsNode (n - order) x
  pub clear : Clear (taken_with held) order x

-- what following the link comes to: the block, or the break that names the link where it leads to none
abbrev pub FollowsBlobLink : ℕ → List ℕ → List ℕ → ℕ → ℕ → Result ℕ Break → Type 0
FollowsBlobLink n words held link order (Ok x) = LeadsToBlob n words held link order x
FollowsBlobLink n words held link order (Err e) = ((x : ℕ) → LeadsToBlob n words held link order x → ⊥) × (e ≡ record { offset = link; rule = Link })

-- the same of a link to a node, which is told by its unit
abbrev pub Arrives : ℕ → List ℕ → List ℕ → ℕ → Result ℕ Break → Type 0
Arrives n words held link (Ok b) = LeadsToBlob n words held link 0 (2 ^ n + b)
Arrives n words held link (Err e) = FollowsBlobLink n words held link 0 (Err e)

-- What the bytes of a node come to, whose own block is among those that were reached: without any it
-- leads nowhere, and else to a block of the least order with room for them, which ends in zeros.
abbrev pub Body : ℕ → List ℕ → List ℕ → ℕ → Result ℕ Break → Type 0
Body n words held b r =
    ((len_at n words b ≡ 0) × (r ≡ tested (is_word words (block_of n b + 3) Link 0 ∷ []) b))
    ⊎ ((len_at n words b ≢ 0) × Then (FollowsBlobLink n words held (block_of n b + 3) (order_for (len_at n words b))) (λ x r. r ≡ tested (end_tests n words b) b) r)

-- the blocks of these nodes, each with that of its bytes
abbrev pub held : ℕ → List ℕ → List ℕ → List ℕ
held n words units = held_by (blob_at n words) units

-- where the next link stands behind these nodes of the bucket with that number
abbrev pub next_blob_link : ℕ → ℕ → List ℕ → ℕ
next_blob_link n i [] = head_of n i
next_blob_link n i (b ∷ before) = block_of n b + 2

-- What the node behind these comes to: the link leads to it, it passes its tests, and so do its bytes.
-- The nodes `seen` were reached before those of this bucket.
abbrev pub Node : ℕ → List ℕ → ℕ → List ℕ → List ℕ → Result ℕ Break → Type 0
Node n words i seen before =
    Then (Arrives n words (held n words (before ++ seen)) (next_blob_link n i before)) (λ b.
    Then (λ r. r ≡ checked (key_tests n words i before b)) (λ done. Body n words ((2 ^ n + b) ∷ held n words (before ++ seen)) b))

-- The walk along the bucket with that number reaches these nodes.
abbrev pub ReachesBlobs : ℕ → List ℕ → ℕ → List ℕ → List ℕ → Type 0
ReachesBlobs n words i seen [] = Unit {0}
ReachesBlobs n words i seen (b ∷ before) = ReachesBlobs n words i seen before × Node n words i seen before (Ok b)

-- behind these nodes stands a link that is not 0, and what it comes to breaks
abbrev pub BreaksBlobWalk : ℕ → List ℕ → ℕ → List ℕ → List ℕ → Break → Type 0
BreaksBlobWalk n words i seen before e = (slice_index words (next_blob_link n i before) ≢ 0) × Node n words i seen before (Err e)

-- What a walk comes to: all nodes of the chain, whose last link is 0, or its first break.
abbrev pub WalksBlobs : ℕ → List ℕ → ℕ → List ℕ → Result (List ℕ) Break → Type 0
WalksBlobs n words i seen (Ok units) = ReachesBlobs n words i seen units × (slice_index words (next_blob_link n i units) ≡ 0)
WalksBlobs n words i seen (Err e) = (before : List ℕ) × ReachesBlobs n words i seen before × BreaksBlobWalk n words i seen before e

-- of all nodes of the tree those of the bucket table and of these blocks are marked
pub record AreBlobMarks (n : ℕ) (blocks : List ℕ) (marks : List Bool) : Type 0 where
  pub as_long : length marks ≡ 2 * 2 ^ n
  pub marked : IsMarked (taken_with blocks) marks
  pub apart : AreBlobsApart n blocks

-- the marks are those of some blocks
abbrev pub AreSomeBlobMarks : ℕ → List Bool → Type 0
AreSomeBlobMarks n marks = (blocks : List ℕ) × AreBlobMarks n blocks marks

-- From that link on these nodes are reached in this order, whatever stands behind them.
abbrev pub IsBlobWay : ℕ → List ℕ → ℕ → List ℕ → Type 0
IsBlobWay n words link [] = Unit {0}
IsBlobWay n words link (b ∷ units) = (slice_index words link ≡ block_of n b) × (b < 2 ^ n) × IsBlobWay n words (block_of n b + 2) units

-- what code knows of a walk that reached these nodes, which are marked with their bytes
pub record IsOnBlobWalk (n : ℕ) (words : List ℕ) (i : ℕ) (seen units : List ℕ) (reached : Reached) (marks : List Bool) : Type 0 where
  pub reaches : ReachesBlobs n words i seen units
  pub link : reached.link ≡ next_blob_link n i units
  pub count : reached.count ≡ length units
  pub marked : AreBlobMarks n (held n words (units ++ seen)) marks

-- what code answers of the bytes of a node, and how it leaves the marks
abbrev pub AnswersBody : ℕ → List ℕ → List ℕ → ℕ → Result (Unit {0}) Break → List Bool → Type 0
AnswersBody n words blocks b result marks = MatchResult result (λ done. Body n words blocks b (Ok b) × AreBlobMarks n (some_block (blob_at n words b).body ++ blocks) marks) (λ e. Body n words blocks b (Err e))

-- what code answers at the end of a walk, and how it leaves the marks
pub record HasWalkedBlobs (n : ℕ) (words : List ℕ) (i : ℕ) (seen : List ℕ) (count : ℕ) (marks : List Bool) : Type 0 where
  pub units : List ℕ
  pub walks : WalksBlobs n words i seen (Ok units)
  pub long : count ≡ length units
  pub marked : AreBlobMarks n (held n words (units ++ seen)) marks
