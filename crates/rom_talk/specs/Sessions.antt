-- What all talks on one opened heap were.
use Rattle.std.specs.Prelude.{◌≡◌, ℕ, List, map}
use Rattle.std.specs.List.{AllByRecursion}
use Rattle.rom_model.specs.Lawful.{IsLawful}
use Rattle.rom_model.specs.Leaving.{HaveLeft}
use Rattle.rom_model.specs.Machine.{Machine, on_words}
use Rattle.rom_model.specs.declared.line.Step.{Step}
use Rattle.rom_model.specs.declared.line.LineResult.{LineResult}
use Rattle.rom_device.specs.Device.{ShownDevice}
use Rattle.rom_hear.specs.Peers.{ShownPeer}
use Rattle.rom_lines.specs.Replies.{Reserved}
use Rattle.rom_lines.specs.Steps.{Items}
use Rattle.rom_rule.specs.declared.views.Base.{Base}
use Rattle.rom_store.specs.Callers.{Caller}
use Rattle.rom_store.specs.Closing.{ClosedSeen}
use Rattle.rom_store.specs.Moments.{LastsFor}
use Rattle.rom_store.specs.Playing.{IsPlayed}
use Rattle.rom_store.specs.Sessions.{EachStory}
use Rattle.rom_text.specs.Text.{Texts}
use Rattle.rom_talk.specs.Talks.{AllHaveTalked, KeepToIt, talk_status}
use Rattle.rom_talk.specs.declared.ending.Ending.{Ending}

-- the lines that were heard, as those of scripts
abbrev pub as_scripts : {T : Type 0} → List (List T) → List (Items T)
as_scripts lines = map (λ ls. record { items = ls }) lines

-- what was told, as the results of scripts
abbrev pub as_results : {T : Type 0} → List (List T) → List (Reserved T)
as_results results = map (λ rs. record { items = rs; lines = 0; words = 0 }) results

module _ {S C Q R A D P : Type 0} (machine : Machine S C Q R A) (Contents : ℕ → List ℕ → S → ℕ → Type 0) (shown : ShownDevice D) (peer : ShownPeer Caller P) (texts : Texts R A) (Reads : List ℕ → Step C Q → Type 0) where
  -- The talks of all peers on a store that was closed, whichever story its session has: what they were told are the results of one history and what the callers keep, what each has seen lasts, and the status is the one that all this leads to. Of no peer more was asked for after an asking in vain, and nothing was said to one that took no more.
  pub record AreTalks (before after : List P) (status : ℕ) (closed : ClosedSeen D) : Type 0 where
    pub steps : List (List (Step C Q))
    pub results : List (List (LineResult R A))
    pub endings : List Ending
    pub lawful : EachStory machine Contents closed.session (λ story. IsLawful machine story steps results)
    pub left : EachStory machine Contents closed.session (λ story. HaveLeft machine story 1 closed.session.callers steps results)
    pub lasts : EachStory machine Contents closed.session (λ story. AllByRecursion (LastsFor shown Contents (on_words machine) story closed.device) closed.session.callers)
    pub talks : EachStory machine Contents closed.session (λ story. AllHaveTalked machine Contents shown peer texts Reads story closed.device before after endings steps results)
    pub status_is : status ≡ talk_status endings results
    pub keeps : KeepToIt peer before after

  -- So, on a heap with this opening, of this device, which no other call was made of in between.
  pub record IsTalkedOn (base : Base) (was : D) (before after : List P) (status : ℕ) (closed : ClosedSeen D) : Type 0 where
    pub talks : AreTalks before after status closed
    pub played : IsPlayed shown machine Contents (as_scripts talks.steps) (as_results talks.results) base was closed
