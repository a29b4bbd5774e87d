-- What the work on a group asks for, and what it leaves.
use Rattle.std.specs.Prelude.{◌≡◌, ℕ, ◌+◌, ◌*◌, ◌<◌, ◌≤◌, Bool, true, false, List, [], ◌∷◌, length, drop, slice_index, Option, Some, None}
use Rattle.rom_model.specs.Groups.{is_size}
use Rattle.rom_model.specs.Space.{ShownSpace, HasRoom}
use Rattle.rom_model.specs.History.{LAST_COUNT}
use Rattle.rom_guard.specs.Guarded.{ShownMembers, Tried, Succeeded, Stopped, listed, read_listed}

-- the list, where there is one
abbrev pub list_of : {X : Type 0} → Option (List X) → List X
list_of None = []
list_of (Some xs) = xs

-- what is listed in words behind a 0
abbrev pub listed_in : {X : Type 0} → (List ℕ → Option X) → ℕ → List ℕ → List X
listed_in read width words = list_of (read_listed read width (drop 1 words))

-- The words are a 0 and what is listed there, two to eight.
pub record IsListed {X : Type 0} (write : X → List ℕ) (xs : List X) (words : List ℕ) : Type 0 where
  pub is : words ≡ 0 ∷ listed write xs
  pub size : is_size (length xs) ≡ true

-- The words are a word, a number from two to eight, and that many times so many words.
pub record HasMany (width : ℕ) (words : List ℕ) (many : ℕ) : Type 0 where
  pub size : is_size many ≡ true
  pub told : slice_index words 1 ≡ many
  pub long : length words ≡ 2 + width * many

module _ {C R M T : Type 0} (shown : ShownMembers C R M T) where
  -- the members whose words these are
  abbrev pub members_in : List ℕ → List M
  members_in words = listed_in shown.words_member 4 words

  -- the words are those of a group
  abbrev pub IsGroup : List ℕ → Type 0
  IsGroup words = IsListed shown.member_words (members_in words) words

  -- what members were told by these words
  abbrev pub told_in : List ℕ → List T
  told_in words = listed_in shown.words_told 2 words

  -- the words are those of a reply to a group that was done
  abbrev pub IsToldAll : List ℕ → Type 0
  IsToldAll words = IsListed shown.told_words (told_in words) words

  -- the words of the reply to a group that came to this
  abbrev pub tried_words : {S : Type 0} → Tried S T → List ℕ
  tried_words (Succeeded s told) = 0 ∷ listed shown.told_words told
  tried_words (Stopped member told) = 0 ∷ 0 ∷ member ∷ shown.told_words told

-- Whether all succeeded is what the definition says; and where they did the words stand for the state after them.
abbrev pub IsTried : {S T : Type 0} → Tried S T → Bool → (S → Type 0) → Type 0
IsTried (Succeeded s told) done Holds = (done ≡ true) × Holds s
IsTried (Stopped member told) done Holds = done ≡ false

-- The words stand for the state after members that all succeeded, or else for the state before.
abbrev pub IsKept : {S T : Type 0} → Tried S T → S → (S → Type 0) → Type 0
IsKept (Succeeded t told) s Holds = Holds t
IsKept (Stopped member told) s Holds = Holds s

-- Members that make at most `each` stores can be tried with `cells` before-images: the region has counted their update, whose stamp this is, and there is room for all stores and for rolling them back.
pub record MayTry {S M : Type 0} (Contents : ℕ → List ℕ → S → ℕ → Type 0) (shown : ShownSpace M) (order stamp members each cells : ℕ) (space : M) : Type 0 where
  pub state : S
  pub place : ℕ
  pub contents : Contents order (shown.image space) state (place + 1)
  pub stamp_is : stamp ≡ place + 1
  pub long : each * members ≤ cells
  pub room : HasRoom shown (2 * cells) space

-- Members that make at most `each` stores can be done as one update.
pub record MayDo {S M : Type 0} (Contents : ℕ → List ℕ → S → ℕ → Type 0) (shown : ShownSpace M) (order members each : ℕ) (space : M) : Type 0 where
  pub state : S
  pub place : ℕ
  pub contents : Contents order (shown.image space) state place
  pub below : place < LAST_COUNT
  pub room : HasRoom shown (1 + 2 * (each * members)) space

-- This holds where one did not succeed.
abbrev pub OnStopped : {S T : Type 0} → Tried S T → Type 0 → Type 0
OnStopped (Succeeded s told) Holds = Unit {0}
OnStopped (Stopped member told) Holds = Holds
