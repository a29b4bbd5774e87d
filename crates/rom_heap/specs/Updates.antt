-- What an update leaves of a region, and how many words it stores at most.
use Rattle.std.specs.Prelude.{◌≡◌, ℕ, ◌+◌, List, [], ◌∷◌, Some}
use Rattle.rom_model.specs.Machine.{on_words}
use Rattle.rom_model.specs.Trio.{trio}
use Rattle.rom_model.specs.Space.{ShownSpace, Stores}
use Rattle.rom_model.specs.State.{State, one, state_after, replies_to, step}
use Rattle.rom_model.specs.Region.{Contents}
use Rattle.rom_model.specs.declared.call.Kind.{Kind}
use Rattle.rom_model.specs.declared.call.Kind.TheVariants as kind
use Rattle.rom_model.specs.declared.call.Single.{Single}
use Rattle.rom_model.specs.declared.call.Single.TheVariants.{Put, Del}
use Rattle.rom_model.specs.declared.call.SingleReply.{SingleReply}
use Rattle.rom_model.specs.declared.call.SingleReply.TheVariants as reply
use Rattle.rom_model.specs.declared.call.Call.{Call}
use Rattle.rom_model.specs.declared.call.Reply.{Reply}

-- How many stores an update makes at most in a heap of order n, beside that of the count. A block that is
-- taken or given back changes at most n + 1 words of the allocator's tree; a node has four words.
abbrev pub most_stores : ℕ → Single → SingleReply → ℕ
-- the tree and the node, a link and the tail, and the size
most_stores n call reply.Queued = (n + 1) + 4 + 2 + 1
-- the tree, the head and the tail, and the size
most_stores n call (reply.Head v) = (n + 1) + 2 + 1
-- the tree and the node, a link, and the size
most_stores n call reply.Added = (n + 1) + 4 + 1 + 1
most_stores n (Put k v) reply.NoPrior = (n + 1) + 4 + 1 + 1
-- the tree, a link, and the size
most_stores n call reply.Removed = (n + 1) + 1 + 1
most_stores n (Del k) (reply.Was u) = (n + 1) + 1 + 1
-- one value with its stamp, or two
most_stores n (Put k v) (reply.Was u) = 2
most_stores n call reply.Moved = 4
-- where nothing changes
most_stores n call other = 0

-- those of several updates
abbrev pub most_of_all : ℕ → List Single → List SingleReply → ℕ
most_of_all n [] replies = 0
most_of_all n (c ∷ calls) [] = 0
most_of_all n (c ∷ calls) (r ∷ replies) = most_stores n c r + most_of_all n calls replies

-- Those of an update of one structure, or of a group, which stores nothing where it is refused.
abbrev pub most_of : ℕ → Kind Single (List Single) → Kind SingleReply (List SingleReply) → ℕ
most_of n (kind.Single c) (kind.Single r) = most_stores n c r
most_of n (kind.Several calls) (kind.Several replies) = most_of_all n calls replies
most_of n call other = 0

-- The region is well-formed, and this is the stamp of the last update that it has counted.
pub record HasStamp (n : ℕ) (words : List ℕ) (stamp : ℕ) : Type 0 where
  pub state : State
  pub place : ℕ
  pub contents : Contents n words state (place + 1)
  pub stamp_is : stamp ≡ place + 1

-- What an update of one structure does that is counted already: the reply and the state are those of it at its place, and so many stores are made at most.
pub record DoesUpdate {M : Type 0} (shown : ShownSpace M) (n : ℕ) (call : Single) (told : SingleReply) (old new : M) : Type 0 where
  pub step_is : (s : State) (j : ℕ) → Contents n (shown.image old) s (j + 1) → let after = one n s j call in (told ≡ after.1) × Contents n (shown.image new) after.0 (j + 1)
  pub stores : Stores shown (most_stores n call told) old new

-- So of several that are taken in order, all of them at one place.
pub record DoesUpdates {M : Type 0} (shown : ShownSpace M) (n : ℕ) (calls : List Single) (told : List SingleReply) (old new : M) : Type 0 where
  pub steps_are : (s : State) (j : ℕ) → Contents n (shown.image old) s (j + 1) → (told ≡ replies_to n s j calls) × Contents n (shown.image new) (state_after n s j calls) (j + 1)
  pub stores : Stores shown (most_of_all n calls told) old new

-- So of an update, which is counted.
abbrev pub DoesNext : ℕ → Call → Reply → List ℕ → List ℕ → Type 0
DoesNext n call told old new = (s : State) (k : ℕ) → Contents n old s k → let after = step n s k call in (told ≡ after.1) × Contents n new after.0 (k + 1)

-- So of one by its words, which is told by words.
abbrev pub DoesWords : ℕ → List ℕ → List ℕ → List ℕ → List ℕ → Type 0
DoesWords n words told old new = (s : State) (k : ℕ) → Contents n old s k → (after : State) × (on_words trio n s k words ≡ Some (after, told)) × Contents n new after (k + 1)
