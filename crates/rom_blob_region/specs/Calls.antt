-- What the calls on blocks of bytes leave.
use Rattle.std.specs.Prelude.{◌≡◌, ◌≢◌, ◌⊎◌, ℕ, ◌+◌, ◌-◌, ◌<◌, ◌≤◌, ◌==◌, ◌&&◌, not, Bool, true, List, length, slice_index}
use Rattle.rom_model.specs.Blocks.{IsNode, IsDisjoint, AreWords, NoneFree, giving, block_at}
use Rattle.rom_block.specs.Taken.{Takes}
use Rattle.rom_blob_region.specs.Bytes.{bytes_at, words_for, EndsInZeros}
use Rattle.rom_blob_region.specs.State.{order_for}

-- no block is wanted where there are no bytes, and else the lowest was taken
pub record BodyTaken (n len : ℕ) (blocks : ℕ → Bool) (old new : List ℕ) (at : ℕ) : Type 0 where
  pub none : len ≡ 0 → (at ≡ 0) × (new ≡ old)
  pub takes : len ≢ 0 → Takes n (order_for len) blocks new at

-- bytes are wanted, and no block is free for them
pub record NoBody (n len : ℕ) (blocks : ℕ → Bool) : Type 0 where
  pub some : len ≢ 0
  pub none_free : NoneFree n blocks (order_for len)

-- there are no bytes, or their block is one of these
pub record HoldsBody (n len at : ℕ) (blocks : ℕ → Bool) (words : List ℕ) (x : ℕ) : Type 0 where
  pub disjoint : IsDisjoint n blocks
  pub words_are : AreWords n blocks words
  pub node : IsNode (n - order_for len) x
  pub here : at ≡ block_at n (order_for len) x
  pub among : blocks x ≡ true

-- nothing is given back where there are no bytes, and else their block
pub record BodyGiven (n len at : ℕ) (old new : List ℕ) : Type 0 where
  pub none : len ≡ 0 → new ≡ old
  pub given : len ≢ 0 → (blocks : ℕ → Bool) (x : ℕ) → HoldsBody n len at blocks old x → IsDisjoint n (giving x blocks) × AreWords n (giving x blocks) new

-- The bytes stand from there on, as the words of the node tell that begins at `node`. No other word differs.
pub record IsFilled (node at : ℕ) (bytes old new : List ℕ) : Type 0 where
  pub as_long : length new ≡ length old
  pub len_is : slice_index new (node + 1) ≡ length bytes
  pub at_is : slice_index new (node + 3) ≡ at
  pub bytes_are : bytes_at new at (length bytes) ≡ bytes
  pub ends : EndsInZeros new at (length bytes)
  pub others : (k : ℕ) → k ≢ node + 1 → k ≢ node + 3 → (k < at) ⊎ (at + words_for (length bytes) ≤ k) → slice_index new k ≡ slice_index old k

-- whether bytes that many stay in the block of others that many
abbrev pub stay_there : ℕ → ℕ → Bool
stay_there was len = not (was == 0) && (not (len == 0) && (order_for was == order_for len))
