-- What is handed on of a history, batch by batch, as it is done.
use Rattle.std.specs.Prelude.{◌≡◌, ◌⊎◌, ℕ, ◌+◌, Bool, true, false, List, [], ◌∷◌, ◌++◌, map, take, Option, None}
use Rattle.std.specs.Io.KnownBytes.{Appends}
use Rattle.rom_model.specs.Faults.{counted}
use Rattle.rom_model.specs.declared.entry.Entry.{Entry}
use Rattle.rom_combine.specs.declared.answering.CallAnswer.{CallAnswer}
use Rattle.rom_combine.specs.declared.scanning.Posted.{Posted}

-- the words of an update's call and of its reply, without whose it was
abbrev pub update_of : Entry → List ℕ × List ℕ
update_of e = (e.args, e.reply)

-- those of calls that were found, with their answers
abbrev pub updates_of : List Posted → List CallAnswer → List (List ℕ × List ℕ)
updates_of (f ∷ fs) (a ∷ more) = (f.args, a.reply) ∷ updates_of fs more
updates_of found answers = []

-- the words of the reply of an update
abbrev pub reply_in : List ℕ × List ℕ → List ℕ
reply_in u = u.1

-- These updates are the last ones of a history.
abbrev pub AreLast : List Entry → List (List ℕ × List ℕ) → Type 0
AreLast history updates = (before : List Entry) × (done : List Entry) × (history ≡ before ++ done) × (updates ≡ map update_of done)

-- updates that were done one behind another, and the place of the first
pub record BatchSeen : Type 0 where
  pub place : ℕ
  pub updates : List (List ℕ × List ℕ)

-- what is made of updates that were done one behind another, from a place on
abbrev pub text_from : (ℕ → List ℕ → List ℕ → List ℕ) → ℕ → List (List ℕ × List ℕ) → List ℕ
text_from text place [] = []
text_from text place (u ∷ us) = text place u.0 u.1 ++ text_from text (place + 1) us

-- what was handed on: the bytes that were taken, where they are told; how often handing on failed, up to 2 ^ 64 - 1; and whether it has failed, so that nothing more is handed on
pub record Shipped : Type 0 where
  pub taken : Option (List ℕ)
  pub faults : ℕ
  pub failing : Bool

-- Who hands on what is done.
pub record ShownShipper (W : Type 0) : Type 1 where
  -- whether it promises anything of what it hands on
  pub tells : Bool
  -- the bytes that it makes of an update: of its place, and of the words of its call and its reply
  pub text : ℕ → List ℕ → List ℕ → List ℕ
  -- what it has handed on
  pub state : W → Shipped
  -- the words of the replies of the batch that it was handed last, where it keeps them
  pub last : W → Option (List (List ℕ))

-- who hands on nothing, and promises nothing
abbrev pub unshipped : {W : Type 0} → ShownShipper W
unshipped = record { tells = false; text = λ place args reply. []; state = λ w. record { taken = None; faults = 0; failing = false }; last = λ w. None }

-- A text was to be handed on. All of it was taken; or some of it from its front, and then handing on has failed, now for the first time or before: after that nothing more is taken.
pub record Ships (was now : Shipped) (text : List ℕ) : Type 0 where
  pub many : ℕ
  pub front : Appends was.taken now.taken (take many text)
  pub whole : now.failing ≡ false → Appends was.taken now.taken text
  pub ended : was.failing ≡ true → now ≡ was
  pub cause : ((now.failing ≡ was.failing) × (now.faults ≡ was.faults)) ⊎ ((was.failing ≡ false) × (now.failing ≡ true) × (now.faults ≡ counted was.faults))
