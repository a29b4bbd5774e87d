-- What a move of an amount from one key's value to another's leaves of a well-formed region.
use Rattle.std.specs.Prelude.{◌≡◌, ◌≢◌, ℕ, ◌+◌, List, length, slice_index}
use Rattle.rom_model.specs.Space.{ShownSpace, Looks}
use Rattle.rom_model.specs.State.{State, value_of, written, transfer}
use Rattle.rom_model.specs.Blocks.{block_of}
use Rattle.rom_model.specs.Region.{Chains, IsRegion, Contents}
use Rattle.rom_model.specs.declared.call.SingleReply.{SingleReply}
use Rattle.rom_model.specs.declared.call.SingleReply.TheVariants as reply
use Rattle.rom_map.specs.Map.{with_pairs, KeyBlock}
use Rattle.rom_map.specs.declared.entry.Entry.{Entry}
use Rattle.rom_map.specs.declared.shift.Moved.{Moved}
use Rattle.rom_map.specs.declared.shift.Moved.TheVariants.{Done, Absent, Short, Over}
use Rattle.rom_map.specs.declared.shift.Plan.{Plan}
use Rattle.rom_map.specs.declared.shift.Plan.TheVariants.{Stays, Changes}

-- the state after a move that writes this stamp, and what is told of it
abbrev pub after_move : State → ℕ → ℕ → ℕ → ℕ → State × SingleReply
after_move s from to amount stamp = transfer s stamp from to amount (value_of s from) (value_of s to)

-- the reply to the call
abbrev pub told_of : Moved → SingleReply
told_of Done = reply.Moved
told_of Absent = reply.Absent
told_of (Short value) = reply.Short value
told_of Over = reply.Over

-- What a move tells, and the words that it leaves. There is one answer that fits.
abbrev pub IsMoved : ℕ → State → ℕ → ℕ → ℕ → ℕ → ℕ → Moved → List ℕ → Type 0
IsMoved n s count from to amount stamp moved new = let after = after_move s from to amount stamp in (told_of moved ≡ after.1) × Contents n new after.0 count

-- Each of the two keys has a block, and no word differs but the words 1 and 3 of these.
pub record IsShifted (n : ℕ) (old : List ℕ) (p : Chains) (from to : ℕ) (new : List ℕ) : Type 0 where
  pub source : KeyBlock n old p from
  pub target : KeyBlock n old p to
  pub as_long : length new ≡ length old
  pub others : (k : ℕ) → k ≢ block_of n source.block + 1 → k ≢ block_of n source.block + 3 → k ≢ block_of n target.block + 1 → k ≢ block_of n target.block + 3
      → slice_index new k ≡ slice_index old k

-- The words that a move leaves: all, unless it is done.
abbrev pub MovedWords : ℕ → List ℕ → Chains → ℕ → ℕ → Moved → List ℕ → Type 0
MovedWords n old p from to Done new = IsShifted n old p from to new
MovedWords n old p from to Absent new = new ≡ old
MovedWords n old p from to (Short value) new = new ≡ old
MovedWords n old p from to Over new = new ≡ old

-- Each element keeps its block after a move, and of the words only the two values and the two stamps may
-- differ.
pub record MoveLeaves (n : ℕ) (old : List ℕ) (p : Chains) (s : State) (count from to amount stamp : ℕ) (moved : Moved) (new : List ℕ) : Type 0 where
  pub region : IsRegion n new p (after_move s from to amount stamp).0 count
  pub words : MovedWords n old p from to moved new

-- Unless the move is done, the words stay, nothing is stored, and so many loads are made at most.
abbrev pub KeepsUnlessMoved : {M : Type 0} → ShownSpace M → ℕ → Moved → M → M → Type 0
KeepsUnlessMoved shown loads Done old new = Unit {0}
KeepsUnlessMoved shown loads Absent old new = Looks shown loads old new
KeepsUnlessMoved shown loads (Short value) old new = Looks shown loads old new
KeepsUnlessMoved shown loads Over old new = Looks shown loads old new

-- The key's node begins there.
pub record HasNode (n : ℕ) (words : List ℕ) (p : Chains) (key node : ℕ) : Type 0 where
  pub at : KeyBlock n words p key
  pub begins : node ≡ block_of n at.block

-- The two keys are different ones, and a move gives their nodes these values.
pub record Changing (n : ℕ) (words : List ℕ) (p : Chains) (s : State) (from to amount : ℕ) (source target : Entry) : Type 0 where
  pub differ : from ≢ to
  pub source_is : HasNode n words p from source.node
  pub target_is : HasNode n words p to target.node
  pub after : (stamp : ℕ) → after_move s from to amount stamp ≡ (with_pairs s (written (written s.pairs stamp from source.value) stamp to target.value), reply.Moved)

-- what is to be done for a move, whatever its stamp
abbrev pub IsPlan : ℕ → List ℕ → Chains → State → ℕ → ℕ → ℕ → Plan → Type 0
IsPlan n words p s from to amount (Stays moved) = ((stamp : ℕ) → after_move s from to amount stamp ≡ (s, told_of moved)) × MovedWords n words p from to moved words
IsPlan n words p s from to amount (Changes source target) = Changing n words p s from to amount source target
