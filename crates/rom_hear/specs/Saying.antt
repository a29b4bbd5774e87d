-- What is said of a text, piece by piece.
use Rattle.std.specs.Prelude.{◌≡◌, ℕ, List, ◌++◌, length, drop, Option, None, Some, Result, MatchResult}
use Rattle.std.specs.List.{concat}
use Rattle.std.specs.Coded.{Coded, Coded-set, coded_list, coded_option}
use Rattle.rom_model.specs.Faults.{HasCause}
use Rattle.rom_hear.specs.Events.{Event, event_code, pieces_said, saids}
use Rattle.rom_hear.specs.Peers.{IsUnasked, ShownPeer}
use Rattle.rom_hear.specs.Talking.{IsFrontOf}

-- Of a text these pieces were said: after `Ok` all of it, and after an error some of it, from its front.
abbrev pub AreOfText : {T E : Type 0} → List (List ℕ) → Result T E → List ℕ → Type 0
AreOfText pieces result text = MatchResult result (λ _. concat pieces ≡ text) (λ _. IsFrontOf (concat pieces) text)

module _ {K : Type 0} where
  -- Where the log is told, nothing passed since but what one said who knew this.
  abbrev pub OnlySaid : K → Option (List (Event K)) → Option (List (Event K)) → Type 0
  OnlySaid knowing None now = now ≡ None
  OnlySaid knowing (Some log) None = ⊥
  OnlySaid knowing (Some log) (Some longer) = longer ≡ log ++ saids knowing (pieces_said (drop (length log) longer))

  -- `OnlySaid` is a fact, which has one proof at most
  pub OnlySaid-prop : Coded K → (knowing : K) (before now : Option (List (Event K))) → IsProp (OnlySaid knowing before now)
  OnlySaid-prop k knowing None now = Coded-set (coded_option (coded_list (event_code k))) now None
  OnlySaid-prop k knowing (Some log) None = λ a b. absurd a
  OnlySaid-prop k knowing (Some log) (Some longer) = Coded-set (coded_list (event_code k)) longer (log ++ saids knowing (pieces_said (drop (length log) longer)))

  -- Where the log is told, what one said who knew this, in one piece after another, is the text, or some of it from its front.
  abbrev pub HasTold : {T E : Type 0} → Option (List (Event K)) → Option (List (Event K)) → K → Result T E → List ℕ → Type 0
  HasTold None new knowing result text = new ≡ None
  HasTold (Some log) None knowing result text = ⊥
  HasTold (Some log) (Some longer) knowing result text = (pieces : List (List ℕ)) × (longer ≡ log ++ saids knowing pieces) × AreOfText pieces result text

module _ {K P : Type 0} (shown : ShownPeer K P) where
  -- A text was told by one who knew this. After an error the last saying failed, and no other.
  pub record Tells {T E : Type 0} (old new : P) (knowing : K) (result : Result T E) (text : List ℕ) : Type 0 where
    pub told : HasTold (shown.log old) (shown.log new) knowing result text
    pub cause : HasCause (shown.unsaid old) (shown.unsaid new) (shown.failing new) result
    pub unasked : IsUnasked shown old new
