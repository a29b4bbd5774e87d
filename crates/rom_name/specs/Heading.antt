-- The head of the stream that a heap begins.
use Rattle.std.specs.Prelude.{◌≡◌, ◌⊎◌, IsTrue, Option, Some, None}
use Rattle.rom_device.specs.Device.{ShownDevice}
use Rattle.rom_frame.specs.declared.head.Head.{Head}
use Rattle.rom_frame.specs.declared.head.HeapName.{HeapName}
use Rattle.rom_name.specs.Identities.{IsNamed, IsOwnAnswer, identity_of}
use Rattle.rom_name.specs.declared.count.Own.{Own}

-- The name is the heap's own, or it had none, and has the one that was drawn.
abbrev pub IsNameOf : HeapName → HeapName → HeapName → Type 0
IsNameOf own drawn name = (IsNamed own × (name ≡ own)) ⊎ ((IsNamed own → ⊥) × (name ≡ drawn))

module _ {D : Type 0} (shown : ShownDevice D) where
  -- The head says whose the heap's updates are, as its header does from now on, and that the next one comes first.
  pub record IsHead (drawn : HeapName) (old new : D) (h : Head) : Type 0 where
    pub own : Own
    pub own_is : IsTrue shown.tells_words → IsOwnAnswer (shown.words old) (Some own)
    pub first : h.first ≡ own.count
    pub name : IsNameOf own.identity.name drawn h.name
    pub epoch : h.epoch ≡ own.identity.epoch
    pub since : h.since ≡ own.identity.since
    pub stands : IsTrue shown.tells_words → identity_of (shown.words new) ≡ record { name = h.name; epoch = h.epoch; since = h.since }

  -- or no heap stands there
  abbrev pub IsHeadOf : HeapName → D → D → Option Head → Type 0
  IsHeadOf drawn old new (Some h) = IsHead drawn old new h
  IsHeadOf drawn old new None = IsTrue shown.tells_words → IsOwnAnswer (shown.words old) None
