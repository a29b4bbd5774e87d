-- Lines, as they are heard.
use Rattle.std.specs.Prelude.{◌≡◌, ◌⊎◌, ℕ, ◌+◌, ◌-◌, ◌^◌, ◌≤◌, Bool, true, false, List, [], ◌∷◌, ◌++◌, length, slice_range, Option, None, Some, Result, MatchResult}
use Rattle.rom_model.specs.Faults.{FailedLast, counted}
use Rattle.rom_text.specs.Lines.{lines_of}
use Rattle.rom_hear.specs.Events.{Event, Heard, ends_in, has_ended, heard_in, has_none, heards, known_in}
use Rattle.rom_hear.specs.Peers.{IsUntold, Logs, ShownPeer}
use Rattle.rom_hear.specs.declared.ear.TheConstants.{ROOM}
use Rattle.rom_hear.specs.declared.ear.Ear.{Ear}
use Rattle.rom_hear.specs.declared.ear.Next.{Next}
use Rattle.rom_hear.specs.declared.ear.Next.TheVariants as nexts

-- the bytes that were heard and not handed out
abbrev pub waiting_in : Ear → List ℕ
waiting_in ear = slice_range ear.bytes ear.start ear.end

-- the line that was handed out last
abbrev pub line_in : Ear → List ℕ
line_in ear = slice_range ear.bytes ear.line_start ear.line_end

-- nothing was heard yet
pub record HasHeardNothing (ear : Ear) : Type 0 where
  pub waiting : waiting_in ear ≡ []
  pub long : ear.long ≡ false
  pub ended : ear.ended ≡ false

-- These bytes were passed over, of a line that is longer than is kept; else none.
abbrev pub IsPassedOver : Bool → List ℕ → Type 0
IsPassedOver true passed = ROOM ≤ length passed
IsPassedOver false passed = passed ≡ []

-- Of the bytes that were heard these lines were handed out, and the rest is left: whatever comes, if anything may, their lines are those and then the rest's.
pub record HasCut (ended : Bool) (heard rest : List ℕ) (lines : List (List ℕ)) : Type 0 where
  pub split : (more : List ℕ) → (ended ≡ true → more ≡ []) → lines_of (heard ++ more) ≡ lines ++ lines_of (rest ++ more)
  pub ends : ended ≡ false → ends_in heard ≡ length lines + ends_in rest

-- An ear has handed out these lines of the bytes that were heard, and keeps the rest, or has passed over the front of its first line.
pub record HasHanded (ear : Ear) (ended : Bool) (heard : List ℕ) (lines : List (List ℕ)) : Type 0 where
  pub passed : List ℕ
  pub cut : HasCut ended heard (passed ++ waiting_in ear) lines
  pub unbroken : ends_in passed ≡ 0
  pub of_long : IsPassedOver ear.long passed
  pub ended_is : ear.ended ≡ ended

-- whatever it had handed out, it has now
abbrev pub IsHandedOn : Ear → Ear → Type 0
IsHandedOn was now = (ended : Bool) (heard : List ℕ) (lines : List (List ℕ)) → HasHanded was ended heard lines → HasHanded now ended heard lines

module _ {K : Type 0} where
  -- where the log is told, these lines of what was heard were handed out
  abbrev pub IsAt : Ear → Option (List (Event K)) → List (List ℕ) → Type 0
  IsAt ear None lines = Unit {0}
  IsAt ear (Some log) lines = HasHanded ear (has_ended log) (heard_in log) lines

  -- Since then more was asked for alone, some times, and at each of these times so many lines were known.
  pub record HasAsked (known : ℕ) (log longer : List (Event K)) : Type 0 where
    pub pieces : List (List ℕ)
    pub grown : longer ≡ log ++ heards pieces
    pub asked : (before after : List (List ℕ)) (bytes : List ℕ) → pieces ≡ before ++ bytes ∷ after → known_in (log ++ heards before) ≡ known

  -- so where the log is told
  abbrev pub Asks : ℕ → Option (List (Event K)) → Option (List (Event K)) → Type 0
  Asks known None now = now ≡ None
  Asks known (Some log) None = ⊥
  Asks known (Some log) (Some longer) = HasAsked known log longer

  -- where the log is told, more was asked for once, as no more lines were known than these
  abbrev pub AsksForOne : Option (List (Event K)) → Option (List (Event K)) → List (List ℕ) → Type 0
  AsksForOne None now lines = now ≡ None
  AsksForOne (Some log) None lines = ⊥
  AsksForOne (Some log) (Some longer) lines = (bytes : List ℕ) × (longer ≡ log ++ Heard bytes ∷ []) × (known_in log ≡ length lines)

  -- where the log is told, nothing more comes, and no more lines are known than these
  abbrev pub IsOver : Option (List (Event K)) → List (List ℕ) → Type 0
  IsOver None lines = Unit {0}
  IsOver (Some log) lines = (has_ended log ≡ true) × (known_in log ≡ length lines)

  -- where the log is told, it is at least so much longer
  abbrev pub IsLonger : ℕ → Option (List (Event K)) → Option (List (Event K)) → Type 0
  IsLonger many (Some log) (Some longer) = length log + many ≤ length longer
  IsLonger many before now = Unit {0}

  -- What is handed out is the line behind these, or a line there that is at least so long, or none. Where hearing failed, no more are known than these.
  abbrev pub IsNextOf : Ear → List (Event K) → List (List ℕ) → Next → Type 0
  IsNextOf ear log lines nexts.Line = HasHanded ear (has_ended log) (heard_in log) (lines ++ line_in ear ∷ [])
  IsNextOf ear log lines nexts.Long = (line : List ℕ) × (ROOM ≤ length line + 1) × HasHanded ear (has_ended log) (heard_in log) (lines ++ line ∷ [])
  IsNextOf ear log lines nexts.End = HasHanded ear (has_ended log) (heard_in log) lines
  IsNextOf ear log lines nexts.Failed = HasHanded ear (has_ended log) (heard_in log) lines × (known_in log ≡ length lines)

  -- so where the log is told
  abbrev pub IsNext : Ear → Option (List (Event K)) → List (List ℕ) → Next → Type 0
  IsNext ear None lines handed = Unit {0}
  IsNext ear (Some log) lines handed = IsNextOf ear log lines handed

  -- The next line was handed out, and more was asked for only where none was known. The end is told where nothing more comes, or where no line has ended in 2 ^ 64 - 1 pieces.
  pub record HandsNext (ear : Ear) (before now : Option (List (Event K))) (lines : List (List ℕ)) (handed : Next) : Type 0 where
    pub asks : Asks (length lines) before now
    pub next : IsNext ear now lines handed
    pub at_end : handed ≡ nexts.End → IsOver now lines ⊎ IsLonger (2 ^ 64 - 1) before now

  -- The next line was handed out, and nothing was asked for; or more was asked for once, and nothing is handed out yet.
  abbrev pub StepsOn : Ear → Option (List (Event K)) → Option (List (Event K)) → List (List ℕ) → Option Next → Type 0
  StepsOn ear before now lines (Some handed) = (now ≡ before) × IsNext ear now lines handed × (handed ≡ nexts.End → IsOver now lines)
  StepsOn ear before now lines None = IsAt ear now lines × AsksForOne before now lines

module _ {K P : Type 0} (shown : ShownPeer K P) where
  -- how often more was asked for in vain, by whether the end had been heard before, and whether it has been now
  abbrev pub IdlesBy : Bool → Bool → P → P → Type 0
  IdlesBy false true old new = FailedLast (shown.idle old) (shown.idle new) (shown.ended new)
  IdlesBy was now old new = shown.idle new ≡ shown.idle old

  -- Where hearing failed, the last asking did, and no other was in vain; else none failed, and only the end was in vain.
  abbrev pub IdlesFor : Next → Bool → Bool → P → P → Type 0
  IdlesFor nexts.Failed was now old new = FailedLast (shown.idle old) (shown.idle new) (shown.ended new) × (shown.unheard new ≡ counted (shown.unheard old)) × (now ≡ false)
  IdlesFor other was now old new = IdlesBy was now old new × (shown.unheard new ≡ shown.unheard old)

  -- No asking was made after one that was in vain, and none once the end was heard.
  pub record AsksOnce (was now : Ear) (old new : P) (handed : Next) : Type 0 where
    pub idle : IdlesFor handed was.ended now.ended old new
    pub at_end : was.ended ≡ true → (new ≡ old) × (now.ended ≡ true)
    pub untold : IsUntold shown old new

  -- More was asked for once: after `Ok` what came waits behind what waited, and after an error nothing came.
  pub record KeepsHearing {T E : Type 0} (was now : Ear) (old new : P) (result : Result T E) : Type 0 where
    pub came : MatchResult result
        (λ _. (bytes : List ℕ) × Logs (shown.log old) (shown.log new) (Heard bytes) × (waiting_in now ≡ waiting_in was ++ bytes) × (now.ended ≡ has_none bytes))
        (λ _. (shown.log new ≡ shown.log old) × (waiting_in now ≡ waiting_in was) × (now.ended ≡ was.ended))
    pub long : now.long ≡ was.long
    pub idle : MatchResult result (λ _. IdlesFor nexts.Line was.ended now.ended old new) (λ _. IdlesFor nexts.Failed was.ended now.ended old new)
    pub untold : IsUntold shown old new

  -- No asking was made after one that was in vain, and none once the end was heard, whether a line is handed out or not.
  abbrev pub AsksOnceMore : Ear → Ear → P → P → Option Next → Type 0
  AsksOnceMore was now old new (Some handed) = AsksOnce was now old new handed
  AsksOnceMore was now old new None = AsksOnce was now old new nexts.Line
