-- A talk as it goes on, and once it is over.
use Rattle.std.specs.Prelude.{◌≡◌, ℕ, ◌+◌, ◌-◌, ◌^◌, ◌<◌, ◌≤◌, Bool, true, ◌||◌, List, [], ◌∷◌, ◌++◌, length, Option, Some, None, IfNone, IfSome, Ok, Err}
use Rattle.std.specs.List.{AllByRecursion, list_any}
use Rattle.atomic_table.specs.Seated.{TableId}
use Rattle.rom_model.specs.History.{LAST_COUNT}
use Rattle.rom_model.specs.Machine.{Machine}
use Rattle.rom_model.specs.Seen.{StartsWith}
use Rattle.rom_model.specs.declared.line.Step.{Step}
use Rattle.rom_model.specs.declared.line.LineResult.{LineResult}
use Rattle.rom_text.specs.Lines.{AreRead}
use Rattle.rom_text.specs.Text.{ResultFits, Texts, line_text, result_text}
use Rattle.rom_hear.specs.Hearing.{IdlesBy, IsAt}
use Rattle.rom_hear.specs.Peers.{ShownPeer}
use Rattle.rom_hear.specs.Saying.{Tells}
use Rattle.rom_hear.specs.Talking.{IsFounded, IsOn, IsTalk, IsWholeTalk}
use Rattle.rom_hear.specs.declared.ear.Ear.{Ear}
use Rattle.rom_run.specs.Statuses.{is_faulted, is_unread}
use Rattle.rom_rule.specs.declared.views.Base.{Base}
use Rattle.rom_store.specs.Callers.{Caller, IsCallerOf}
use Rattle.rom_store.specs.Closing.{kept_in}
use Rattle.rom_store.specs.Taking.{HasTakenOne, IsSeen, result_taken}
use Rattle.rom_store.specs.Working.{HasDoneLines, HasSeenNothing}
use Rattle.rom_store.specs.declared.work.Taken.{Taken}
use Rattle.rom_talk.specs.Talks.{HasComeSoFar, HasEndedAs, IsSaidInTurn, KeepsToIt}
use Rattle.rom_talk.specs.declared.ending.Ending.{Ending}
use Rattle.rom_talk.specs.declared.ending.Ending.TheVariants as ending

-- where the log is told, nothing has passed
abbrev pub IsFresh : {K P : Type 0} → ShownPeer K P → P → Type 0
IsFresh peer p = IfSome (peer.log p) (λ log. log ≡ [])

module _ {K P : Type 0} (peer : ShownPeer K P) where
  -- where the end had been heard nothing more was asked for
  pub record IsUnaskedIf (ended : Bool) (was now : P) : Type 0 where
    pub idle : ended ≡ true → peer.idle now ≡ peer.idle was
    pub ended_is : ended ≡ true → peer.ended now ≡ peer.ended was

-- of an object, of what a heap was opened with, and of peers, and how results are written
module _ {S C Q R A P : Type 0} (machine : Machine S C Q R A) (Contents : ℕ → List ℕ → S → ℕ → Type 0) (table : TableId) (base : Base) (peer : ShownPeer Caller P) (texts : Texts R A) where
  -- What a line was told was said by one who knew this: all of it, or some of it from its front, and then no more is taken.
  abbrev pub SaysTo : (before now : P) → Caller → List ℕ → Option Ending → Type 0
  SaysTo before now knowing text None = Tells peer {T = Unit {0}} {E = Unit {0}} before now knowing (Ok tt) text
  SaysTo before now knowing text (Some end) = (end ≡ ending.Unsaid) × Tells peer {T = Unit {0}} {E = Unit {0}} before now knowing (Err tt) text

  -- One line was done, which asks for this, and what it was told was said, and noted.
  pub record HasAnswered (asks : Step C Q) (was pass : Caller) (before now : P) (was_unread was_faulted unread faulted : Bool) (end : Option Ending) : Type 0 where
    pub told : Taken A
    pub words : List ℕ
    pub took : HasTakenOne machine Contents base table asks told words was pass
    pub unread_is : unread ≡ (was_unread || is_unread (result_taken machine.words_reply told words))
    pub faulted_is : faulted ≡ (was_faulted || is_faulted (result_taken machine.words_reply told words))
    pub says : SaysTo before now pass (line_text (result_text texts (result_taken machine.words_reply told words))) end
    -- where all of it was said, its numbers are of their types
    pub fits : IfNone end (ResultFits texts (result_taken machine.words_reply told words))

-- so, and of how lines are written
module _ {S C Q R A P : Type 0} (machine : Machine S C Q R A) (Contents : ℕ → List ℕ → S → ℕ → Type 0) (table : TableId) (base : Base) (peer : ShownPeer Caller P) (texts : Texts R A) (Reads : List ℕ → Step C Q → Type 0) where
  -- A caller that is now this one knew so much when it said what these results tell: it had seen all of that, and knew the moments of what it had seen, one for each entry.
  pub record Knew (now knowing : Caller) (results : List (LineResult R A)) : Type 0 where
    pub told : (s : S) (k : ℕ) → Contents base.order base.image s k → AllByRecursion (IsSeen k (kept_in knowing)) results
    pub seen : StartsWith (kept_in now).seen (kept_in knowing).seen
    pub moments : StartsWith (kept_in now).moments (kept_in knowing).moments
    pub dated : length (kept_in knowing).moments ≡ length (kept_in knowing).seen

  -- Whether a line was unread, and whether the device failed under an update, is kept so.
  pub record Notes (unread faulted : Bool) (results : List (LineResult R A)) : Type 0 where
    pub unread_is : unread ≡ list_any is_unread results
    pub faulted_is : faulted ≡ list_any is_faulted results

  -- A talk goes on: these lines were handed out, they asked for these steps, these are done, and all was said, each at once and before the next was done, by one who knew enough, with numbers of their types.
  pub record IsTalking (pass : Caller) (ear : Ear) (now : P) (unread faulted : Bool) (lines : List (List ℕ)) (steps : List (Step C Q)) (results : List (LineResult R A)) : Type 0 where
    pub read : AreRead Reads lines steps
    pub many : length results ≡ length steps
    pub at : IsAt ear (peer.log now) lines
    pub done : HasDoneLines machine Contents base pass steps results
    pub knows : Knew pass pass results
    pub on : IfSome (peer.log now) (IsOn texts (Knew pass) results)
    pub in_turn : IfSome (peer.log now) (IsSaidInTurn texts (HasDoneLines machine Contents base) steps results)
    pub fits : AllByRecursion (ResultFits texts) results
    pub notes : Notes unread faulted results

  -- A talk is over, for this reason: what was done and said by then.
  pub record HasServed (pass : Caller) (was left : P) (end : Ending) (unread faulted : Bool) (steps : List (Step C Q)) (results : List (LineResult R A)) : Type 0 where
    pub done : HasDoneLines machine Contents base pass steps results
    pub dated : length (kept_in pass).moments ≡ length (kept_in pass).seen
    pub talk : IfSome (peer.log left) (IsTalk texts Reads steps results)
    pub founded : IfSome (peer.log left) (IsFounded texts (Knew pass) results)
    pub in_turn : IfSome (peer.log left) (IsSaidInTurn texts (HasDoneLines machine Contents base) steps results)
    pub ended : HasEndedAs peer end was left
    pub keeps : KeepsToIt peer was left
    pub whole : end ≡ ending.Over → length steps < LAST_COUNT → IfSome (peer.log left) (λ log. length log < 2 ^ 64 - 1 → IsWholeTalk texts Reads steps results log)
    pub notes : Notes unread faulted results
    pub so_far : IfSome (peer.log left) (HasComeSoFar texts end steps results)

  -- One line more was done and told, and nothing failed.
  pub record HasGoneOn (pass : Caller) (earlier ear : Ear) (was now : P) (unread faulted : Bool) (lines : List (List ℕ)) (steps : List (Step C Q)) (results : List (LineResult R A)) : Type 0 where
    pub line : List ℕ
    pub asks : Step C Q
    pub told : LineResult R A
    pub on : IsTalking pass ear now unread faulted (lines ++ line ∷ []) (steps ++ asks ∷ []) (results ++ told ∷ [])
    pub idles : IdlesBy peer earlier.ended ear.ended was now
    pub still_ended : earlier.ended ≡ true → ear.ended ≡ true
    pub unasked : IsUnaskedIf peer earlier.ended was now
    pub unheard : peer.unheard now ≡ peer.unheard was
    pub unsaid : peer.unsaid now ≡ peer.unsaid was
    pub rest : peer.rest now ≡ peer.rest was

  -- The talk is over: so many lines were done, or one more.
  pub record HasComeToEnd (pass : Caller) (earlier : Ear) (was now : P) (end : Ending) (unread faulted : Bool) (steps : List (Step C Q)) : Type 0 where
    pub all : List (Step C Q)
    pub results : List (LineResult R A)
    pub few : length all ≤ length steps + 1
    pub served : HasServed pass was now end unread faulted all results
    pub unasked : IsUnaskedIf peer earlier.ended was now

  -- Where no ending is told the talk has gone on, and else it has come to its end.
  abbrev pub GoesOn : Caller → (was now : Ear) → P → P → Option Ending → Bool → Bool → List (List ℕ) → List (Step C Q) → List (LineResult R A) → Type 0
  GoesOn pass earlier ear was now None unread faulted lines steps results = HasGoneOn pass earlier ear was now unread faulted lines steps results
  GoesOn pass earlier ear was now (Some end) unread faulted lines steps results = HasComeToEnd pass earlier was now end unread faulted steps

  -- A caller that has done nothing meets a peer that nothing has passed with.
  pub record IsReady (pass : Caller) (p : P) : Type 0 where
    pub of : IsCallerOf Contents table base pass
    pub first : HasSeenNothing (kept_in pass)
    pub undated : (kept_in pass).moments ≡ []
    pub alone : pass.view.joined ≡ []
    pub fresh : IsFresh peer p

  -- The talk of a caller that began so is over: of some steps and results.
  pub record IsServed (before pass : Caller) (was left : P) (end : Ending) (unread faulted : Bool) : Type 0 where
    pub of : IsCallerOf Contents table base pass
    pub number : pass.view.number ≡ before.view.number
    pub steps : List (Step C Q)
    pub results : List (LineResult R A)
    pub few : length steps ≤ LAST_COUNT
    pub served : HasServed pass was left end unread faulted steps results
