-- What the calls on the map leave of a well-formed region.
use Rattle.std.specs.Prelude.{◌≡◌, ◌≢◌, ℕ, ◌+◌, ◌*◌, ◌/◌, ◌^◌, ◌<◌, ◌==◌, if◌then◌else◌, Some, None, List, ◌∷◌, ◌++◌, length, slice_index, slice_set}
use Rattle.std.specs.Ordering.{nat_cmp}
use Rattle.std.specs.FinMap as map
use Rattle.rom_model.specs.Space.{ShownSpace, Costs, Looks}
use Rattle.rom_model.specs.State.{State, Stamped, value_of, written, live, cap}
use Rattle.rom_model.specs.Walks.{keys_under, end_loads}
use Rattle.rom_model.specs.Blocks.{IsLowest, block_of}
use Rattle.rom_model.specs.Chains.{times, each_word, stamped_at, each_pair}
use Rattle.rom_model.specs.Rising.{AreBelow, StartsAbove}
use Rattle.rom_model.specs.Region.{Chains, bucket_of, element_blocks, taken_by, IsRegion, Contents, PartBecomes}
use Rattle.rom_map.specs.declared.map.Put.{Put}
use Rattle.rom_map.specs.declared.map.Put.TheVariants.{New, Was, Full}

-- how many loads it takes at most to find the value of a key, or that it has none
abbrev pub get_loads : ℕ → map.FinMap nat_cmp Stamped → ℕ → ℕ
get_loads n pairs key = 1 + 2 * keys_under n pairs key + end_loads n pairs key

-- the words in which the node that begins there has this value and this stamp
abbrev pub with_entry : List ℕ → ℕ → ℕ → ℕ → List ℕ
with_entry words node value stamp = slice_set (slice_set words (node + 1) value) (node + 3) stamp

-- the state with these pairs in its map
abbrev pub with_pairs : State → map.FinMap nat_cmp Stamped → State
with_pairs s pairs = record s { pairs = pairs }

-- the chains with these blocks as that bucket's
abbrev pub with_bucket : Chains → ℕ → List ℕ → Chains
with_bucket p i blocks = record p { bucket = λ j. if j == i then blocks else p.bucket j }

-- the block of the bucket table in which a bucket's word stands
abbrev pub table_block : ℕ → ℕ
table_block i = i / 4

-- The block in which a key stands, and those before and behind it in its bucket's chain.
pub record KeyBlock (n : ℕ) (words : List ℕ) (p : Chains) (key : ℕ) : Type 0 where
  pub front : List ℕ
  pub block : ℕ
  pub back : List ℕ
  pub blocks : p.bucket (bucket_of n key) ≡ front ++ block ∷ back
  pub holds : slice_index words (block_of n block + 0) ≡ key

-- What a put tells, and the words that it leaves. There is one answer that fits.
abbrev pub IsPut : ℕ → State → ℕ → ℕ → ℕ → ℕ → Put → List ℕ → Type 0
IsPut n s count key value stamp New new = (value_of s key ≡ None) × (live s < cap n) × Contents n new (with_pairs s (written s.pairs stamp key value)) count
IsPut n s count key value stamp (Was before) new = (value_of s key ≡ Some before) × Contents n new (with_pairs s (written s.pairs stamp key value)) count
IsPut n s count key value stamp Full new = (value_of s key ≡ None) × (live s ≡ cap n)

-- The key stands with its value and its stamp in the first block that was free, between the keys of its
-- bucket that are below it and those above. Each other element keeps its block, and those of the bucket
-- all words but the links. No word differs but the map's size, the bucket's word in the table with those
-- beside it, the tree's, those of the block, and those of the bucket's blocks before it.
pub record IsAddedToMap (n : ℕ) (old : List ℕ) (p : Chains) (s : State) (count key value stamp : ℕ) (new : List ℕ) : Type 0 where
  pub front : List ℕ
  pub block : ℕ
  pub back : List ℕ
  pub blocks : p.bucket (bucket_of n key) ≡ front ++ back
  pub below : AreBelow key (each_word n old 0 front)
  pub above : StartsAbove (key + 1) (each_word n old 0 back)
  pub lowest : IsLowest n (taken_by n (element_blocks n p)) 0 (2 ^ n + block)
  pub holds : slice_index new (block_of n block + 0) ≡ key
  pub has : stamped_at n new block ≡ record { value = value; stamp = stamp }
  pub stay : each_pair n new (front ++ back) ≡ each_pair n old (front ++ back)
  pub becomes : PartBecomes n 9 10 (table_block (bucket_of n key) ∷ block ∷ front) old new (with_bucket p (bucket_of n key) (front ++ block ∷ back))
      (with_pairs s (written s.pairs stamp key value)) count

-- The key's block has the value as its word 1 and the stamp as its word 3, and no other word differs.
pub record IsReplaced (n : ℕ) (old : List ℕ) (p : Chains) (s : State) (count key value stamp : ℕ) (new : List ℕ) : Type 0 where
  pub block : ℕ
  pub among : 0 < times block (p.bucket (bucket_of n key))
  pub holds : slice_index old (block_of n block + 0) ≡ key
  pub has : stamped_at n new block ≡ record { value = value; stamp = stamp }
  pub region : IsRegion n new p (with_pairs s (written s.pairs stamp key value)) count
  pub as_long : length new ≡ length old
  pub others : (k : ℕ) → k ≢ block_of n block + 1 → k ≢ block_of n block + 3 → slice_index new k ≡ slice_index old k

-- what a put leaves, where it stores
abbrev pub PutLeaves : ℕ → List ℕ → Chains → State → ℕ → ℕ → ℕ → ℕ → Put → List ℕ → Type 0
PutLeaves n old p s count key value stamp New new = IsAddedToMap n old p s count key value stamp new
PutLeaves n old p s count key value stamp (Was before) new = IsReplaced n old p s count key value stamp new
PutLeaves n old p s count key value stamp Full new = Unit {0}

-- What a put costs by its answer, where it takes so many loads to find the key's value.
abbrev pub PutCosts : {M : Type 0} → ShownSpace M → ℕ → ℕ → Put → M → M → Type 0
PutCosts shown n loads New old new = Costs shown (3 * n + 6 + loads) (n + 7) old new
PutCosts shown n loads (Was before) old new = Costs shown (1 + loads) 2 old new
PutCosts shown n loads Full old new = Looks shown (n + 1 + loads) old new

-- The key's block is no longer in its bucket's chain, but its words stay; and each other element keeps
-- its block, and those of the bucket all words but the links. No word differs but the map's size, the
-- bucket's word in the table with those beside it, the tree's, and those of the bucket's blocks before.
pub record IsDeleted (n : ℕ) (old : List ℕ) (p : Chains) (s : State) (count key : ℕ) (new : List ℕ) : Type 0 where
  pub block : ℕ
  pub holds : slice_index old (block_of n block + 0) ≡ key
  pub front : List ℕ
  pub back : List ℕ
  pub blocks : p.bucket (bucket_of n key) ≡ front ++ block ∷ back
  pub kept : (j : ℕ) → j < 4 → slice_index new (block_of n block + j) ≡ slice_index old (block_of n block + j)
  pub stay : each_pair n new (front ++ back) ≡ each_pair n old (front ++ back)
  pub becomes : PartBecomes n 9 10 (table_block (bucket_of n key) ∷ p.bucket (bucket_of n key)) old new (with_bucket p (bucket_of n key) (front ++ back))
      (with_pairs s (map.remove s.pairs key)) count
