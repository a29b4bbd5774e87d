-- What a peer shows of itself, and what single calls do to it.
use Rattle.std.specs.Prelude.{◌≡◌, ℕ, Bool, List, [], ◌∷◌, ◌++◌, take, if◌then◌else◌, is_err, Option, None, Some, Result, MatchResult}
use Rattle.rom_model.specs.Faults.{counted}
use Rattle.rom_text.specs.Streams.{is_idle}
use Rattle.rom_hear.specs.Events.{Event, Heard, Said}

-- Whom a caller hears and tells.
pub record ShownPeer (K P : Type 0) : Type 1 where
  -- all that has passed, where it tells it
  pub log : P → Option (List (Event K))
  -- how many times more was asked for in vain, by a failure or at the end, up to 2 ^ 64 - 1, whether the last time was, and how many of these failed
  pub idle : P → ℕ
  pub ended : P → Bool
  pub unheard : P → ℕ
  -- how many times nothing was taken of what was said, up to 2 ^ 64 - 1, and whether the last time
  pub unsaid : P → ℕ
  pub failing : P → Bool
  -- what it has beside all that, which no call changes
  pub Rest : Type 0
  pub rest : P → Rest

-- Where the log is told, it has one event more. It is told always or never.
abbrev pub Logs : {K : Type 0} → Option (List (Event K)) → Option (List (Event K)) → Event K → Type 0
Logs None new event = new ≡ None
Logs (Some log) None event = ⊥
Logs (Some log) (Some longer) event = longer ≡ log ++ event ∷ []

module _ {K P : Type 0} (shown : ShownPeer K P) where
  -- What it shows of its hearing stays, and so does what no call changes.
  pub record IsUnasked (old new : P) : Type 0 where
    pub idle : shown.idle new ≡ shown.idle old
    pub ended : shown.ended new ≡ shown.ended old
    pub unheard : shown.unheard new ≡ shown.unheard old
    pub rest : shown.rest new ≡ shown.rest old

  -- What it shows of what was said stays, and so does what no call changes.
  pub record IsUntold (old new : P) : Type 0 where
    pub unsaid : shown.unsaid new ≡ shown.unsaid old
    pub failing : shown.failing new ≡ shown.failing old
    pub rest : shown.rest new ≡ shown.rest old

  -- Nothing passed, and nothing was asked for or said.
  pub record IsStill (old new : P) : Type 0 where
    pub log : shown.log new ≡ shown.log old
    pub unasked : IsUnasked old new
    pub untold : IsUntold old new

  -- More was asked for once, and these are the bytes at the front of a block: after `Ok` so many of them came, and after an error none.
  pub record Hears {E : Type 0} (old new : P) (result : Result ℕ E) (block : List ℕ) : Type 0 where
    pub log : MatchResult result (λ n. Logs (shown.log old) (shown.log new) (Heard (take n block))) (λ _. shown.log new ≡ shown.log old)
    pub idle : shown.idle new ≡ (if is_idle result then counted (shown.idle old) else shown.idle old)
    pub ended : shown.ended new ≡ is_idle result
    pub unheard : shown.unheard new ≡ (if is_err result then counted (shown.unheard old) else shown.unheard old)
    pub untold : IsUntold old new

  -- A piece was said once, by one who knew this: after `Ok` so many of its first bytes were taken, and after an error none.
  pub record Says {E : Type 0} (old new : P) (result : Result ℕ E) (piece : List ℕ) (knowing : K) : Type 0 where
    pub log : MatchResult result (λ n. Logs (shown.log old) (shown.log new) (Said (take n piece) knowing)) (λ _. shown.log new ≡ shown.log old)
    pub unsaid : shown.unsaid new ≡ (if is_err result then counted (shown.unsaid old) else shown.unsaid old)
    pub failing : shown.failing new ≡ is_err result
    pub unasked : IsUnasked old new
