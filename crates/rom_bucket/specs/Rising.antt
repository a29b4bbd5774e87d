-- Chains of buckets whose keys rise, and the place of a key in them.
use Rattle.std.specs.Prelude.{◌≡◌, ℕ, ◌+◌, ◌*◌, ◌<◌, List, [], ◌∷◌, ◌++◌, length}
use Rattle.rom_model.specs.Space.{ShownSpace, Looks}
use Rattle.rom_model.specs.Chains.{each_word}
use Rattle.rom_model.specs.Rising.{IsRising, AreBelow, StartsAbove, starts_with}
use Rattle.rom_model.specs.Links.{link_after, first_of}
use Rattle.rom_model.specs.Region.{buckets, bucket_of}
use Rattle.rom_bucket.specs.Walk.{head_of, IsBucket}
use Rattle.rom_bucket.specs.declared.rising.Sought.{Sought}

-- the keys of each bucket rise along its chain
abbrev pub KeysRise : ℕ → List ℕ → (ℕ → List ℕ) → Type 0
KeysRise n words bucket = (i : ℕ) → i < buckets n → IsRising (each_word n words 0 (bucket i))

-- a way along the chain of these blocks, whose keys are below the key as far as it went, to that link and that node
pub record WalkedBelow (n : ℕ) (words blocks : List ℕ) (key link node : ℕ) : Type 0 where
  pub front : List ℕ
  pub back : List ℕ
  pub blocks_are : blocks ≡ front ++ back
  pub below : AreBelow key (each_word n words 0 front)
  pub link_is : link ≡ link_after n (head_of n (bucket_of n key)) 2 front
  pub node_is : node ≡ first_of n back

-- it stopped at the first node whose key is not below the key, or at the chain's end
pub record IsSought (n : ℕ) (words blocks : List ℕ) (key : ℕ) (sought : Sought) : Type 0 where
  pub walked : WalkedBelow n words blocks key sought.place.link sought.place.node
  pub above : StartsAbove key (each_word n words 0 walked.back)
  pub found : sought.found ≡ starts_with key (each_word n words 0 walked.back)

-- one where there is a block: the load of its key
abbrev pub last_load : List ℕ → ℕ
last_load [] = 0
last_load (b ∷ blocks) = 1

-- The place of the key in whatever blocks are its bucket's nodes. The first link took one load, each node that was passed two, and the node at which the walk stopped one.
pub record Seeks {M : Type 0} (shown : ShownSpace M) (n key : ℕ) (sought : Sought) (old new : M) : Type 0 where
  pub is : (blocks : List ℕ) → IsBucket n (shown.image old) (bucket_of n key) blocks
      → (at : IsSought n (shown.image old) blocks key sought) × Looks shown (1 + 2 * length at.walked.front + last_load at.walked.back) old new
