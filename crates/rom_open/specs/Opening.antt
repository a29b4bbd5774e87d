-- What the opening of a heap answers.
use Rattle.std.specs.Prelude.{ℕ, List, Result, Ok, Err, IsTrue}
use Rattle.rom_model.specs.declared.unfit.Unfit.{Unfit}
use Rattle.rom_device.specs.Device.{ShownDevice, Leaves}
use Rattle.rom_header.specs.Held.{Holds}
use Rattle.rom_header.specs.Regions.{IsCurrentRegion}
use Rattle.rom_recover.specs.Recovered.{Mends}
use Rattle.rom_open.specs.Refusals.{named_order, IsRefusal}
use Rattle.rom_open.specs.declared.reasons.Why.{Why}
use Rattle.rom_open.specs.declared.from_device.Opened.{Opened}
use Rattle.rom_open.specs.declared.from_device.Refused.{Refused}

-- the device, which comes back whatever is answered
abbrev pub device_of : {D : Type 0} → Result (Opened D) (Refused D) → D
device_of (Ok opened) = opened.device
device_of (Err refused) = refused.device

-- the refusal, if there is one
abbrev pub refusal_of : {D : Type 0} → Result (Opened D) (Refused D) → Result (Unit {0}) Why
refusal_of (Ok opened) = Ok tt
refusal_of (Err refused) = Err refused.why

-- The answer to these words: the region that counted in a heap of the order that they name, or the first refusal whose test fails.
abbrev pub IsOpeningAnswer : {S D : Type 0} → (ℕ → List ℕ → S → ℕ → Type 0) → (ℕ → List ℕ → Unfit → Type 0) → List ℕ → Result (Opened D) (Refused D) → Type 0
IsOpeningAnswer Contents Rejects words (Ok opened) = IsCurrentRegion opened.geometry words opened.image.items
IsOpeningAnswer Contents Rejects words (Err refused) = IsRefusal Contents Rejects words refused.why

-- What an opening makes of the words: they are as they were, or mended as a heap of the order that they name.
abbrev pub MendsNamed : List ℕ → List ℕ → Type 0
MendsNamed old new = Mends (named_order old) old new

-- Of what an opened heap's image stands for: this state and this count.
pub record IsHeldSince {S D : Type 0} (Contents : ℕ → List ℕ → S → ℕ → Type 0) (shown : ShownDevice D) (order : ℕ) (s : S) (k : ℕ) (was now : D) : Type 0 where
  -- The device's words held it at the call.
  pub before : IsTrue shown.tells_words → Holds Contents order (shown.words was) s k
  -- They hold it now.
  pub holds : IsTrue shown.tells_words → Holds Contents order (shown.words now) s k
  -- Each image that a stop might have left by now could be left before the call, or holds it.
  pub images : IsTrue shown.tells_images → Leaves shown (λ i. Holds Contents order i s k) was now
