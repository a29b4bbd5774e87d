-- What passes between a caller and its client, in the order in which it passes.
use Rattle.std.specs.Prelude.{◌≡◌, ◌⊎◌, ℕ, ◌+◌, ◌==◌, ◌<◌, Bool, true, false, List, [], ◌∷◌, ◌++◌, length, take, drop, map, if◌then◌else◌, refl}
use Rattle.std.proofs.Common.{inl, inr}
use Rattle.std.specs.Coded.{Coded, code_by, coded_list, coded_ℕ, coded×, coded⊎}
use Rattle.rom_text.specs.Lines.{lines_of}

-- One thing that passes. Of what is said stands beside it what the caller knew as it said it.
pub data Event (K : Type 0) : Type 0 where
  -- more was asked for, and these bytes came; none at the end of all
  Heard : List ℕ → Event K
  -- these bytes were taken
  Said : List ℕ → K → Event K

-- whether there is no byte: so little comes at the end alone
abbrev pub has_none : List ℕ → Bool
has_none [] = true
has_none (b ∷ bs) = false

module _ {K : Type 0} where
  abbrev parts : Event K → List ℕ ⊎ (List ℕ × K)
  parts (Heard bytes) = inl bytes
  parts (Said bytes knowing) = inr (bytes, knowing)

  abbrev event : List ℕ ⊎ (List ℕ × K) → Event K
  event (inl bytes) = Heard bytes
  event (inr said) = Said said.0 said.1

  pub event_parts : (e : Event K) → event (parts e) ≡ e
  event_parts (Heard bytes) = refl
  event_parts (Said bytes knowing) = refl

  -- events are told apart as what they are made of is
  abbrev pub event_code : Coded K → Coded (Event K)
  event_code k = code_by (List ℕ ⊎ (List ℕ × K)) (coded⊎ (coded_list coded_ℕ) (coded× (coded_list coded_ℕ) k)) parts event event_parts

  -- all bytes that were heard
  abbrev pub heard_in : List (Event K) → List ℕ
  heard_in [] = []
  heard_in (Heard bytes ∷ log) = bytes ++ heard_in log
  heard_in (Said bytes knowing ∷ log) = heard_in log

  -- all bytes that were said
  abbrev pub said_in : List (Event K) → List ℕ
  said_in [] = []
  said_in (Heard bytes ∷ log) = said_in log
  said_in (Said bytes knowing ∷ log) = bytes ++ said_in log

  -- the end was heard: nothing more comes
  abbrev pub has_ended : List (Event K) → Bool
  has_ended [] = false
  has_ended (Heard bytes ∷ log) = if has_none bytes then true else has_ended log
  has_ended (Said bytes knowing ∷ log) = has_ended log

-- how many LFs the bytes have
abbrev pub ends_in : List ℕ → ℕ
ends_in [] = 0
ends_in (b ∷ bs) = if b == 10 then ends_in bs + 1 else ends_in bs

-- the first LF stands at this index
abbrev pub EndsAt : ℕ → List ℕ → Type 0
EndsAt n bytes = (n < length bytes) × (bytes ≡ take n bytes ++ 10 ∷ drop (n + 1) bytes) × (ends_in (take n bytes) ≡ 0)

-- How many lines of the bytes are known to be whole: as many as have their LF, and all of them once nothing more comes.
abbrev pub whole_lines : Bool → List ℕ → ℕ
whole_lines ended bytes = if ended then length (lines_of bytes) else ends_in bytes

module _ {K : Type 0} where
  -- how many lines are known by the end of a log
  abbrev pub known_in : List (Event K) → ℕ
  known_in log = whole_lines (has_ended log) (heard_in log)

  -- they are these
  abbrev pub known_lines : List (Event K) → List (List ℕ)
  known_lines log = take (known_in log) (lines_of (heard_in log))

  -- bytes that were heard, one piece after another
  abbrev pub heards : List (List ℕ) → List (Event K)
  heards pieces = map (λ bytes. Heard bytes) pieces

  -- bytes that were said by one who knew this
  abbrev pub saids : K → List (List ℕ) → List (Event K)
  saids knowing pieces = map (λ bytes. Said bytes knowing) pieces

  -- the pieces that were said
  abbrev pub pieces_said : List (Event K) → List (List ℕ)
  pieces_said [] = []
  pieces_said (Heard bytes ∷ log) = pieces_said log
  pieces_said (Said bytes knowing ∷ log) = bytes ∷ pieces_said log
