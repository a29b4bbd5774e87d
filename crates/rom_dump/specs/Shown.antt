-- What is shown of a heap that a device holds, whichever kind it is of.
use Rattle.std.specs.Prelude.{◌≡◌, ◌⊎◌, ℕ, ◌≤◌, List, [], ◌∷◌, ◌++◌, IsTrue, length, slice_index, codes, decimal, Option, Some, None, Err}
use Rattle.std.specs.List.{flat_map}
use Rattle.rom_model.specs.Blocks.{IsOrder}
use Rattle.rom_model.specs.declared.unfit.Unfit.{Unfit}
use Rattle.rom_device.specs.Device.{ShownDevice}
use Rattle.rom_header.specs.Headers.{state_word}
use Rattle.rom_header.specs.Layout.{STATE, words_needed}
use Rattle.rom_header.specs.Regions.{IsCurrentRegion}
use Rattle.rom_header.specs.declared.header.State.{State}
use Rattle.rom_header.specs.declared.header.State.TheVariants.{Idle, Mutating, Copying}
use Rattle.rom_carry.specs.Carried.{AreWritten, Bounds}
use Rattle.rom_carry.specs.Gauges.{gauge_text}
use Rattle.rom_carry.specs.Parts.{AreTooManyBytes}
use Rattle.rom_carry.specs.Scripts.{part_of, parts_needed, parts_of, script_of}
use Rattle.rom_open.specs.Calls.{HasOpeningFaults}
use Rattle.rom_open.specs.Refusals.{IsRefusal, NamesTooFew}
use Rattle.rom_open.specs.View.{IsNamedRegion, IsRefusalOf}
use Rattle.rom_open.specs.declared.reasons.Why.{Why}
use Rattle.rom_open.specs.declared.view.alone.Region.{Region}
use Rattle.rom_open.specs.declared.view.alone.Region.TheVariants.{Main, Back}
use Rattle.rom_run.specs.Refusing.{kind_name, refusal_line, refusal_status}
use Rattle.rom_run.specs.Statuses.{exit_number}
use Rattle.rom_text.specs.Limits.{FitsScript, IsWithinLimit}
use Rattle.rom_text.specs.Runs.{IsCutShort, IsLineWrittenOrCutShort, IsWhollyWritten}
use Rattle.rom_text.specs.Streams.{ShownSink}
use Rattle.rom_text.specs.Text.{line_text}
use Rattle.rom_dump.specs.Words.{DumpCommand, Script, Check, Metrics, region_asked}

-- What a kind of heaps says of a region of it: of its number, its order and its words.
pub record Telling : Type 1 where
  -- the number of the kind
  pub kind : ℕ
  -- these lines carry over what the region holds
  pub Carrying : ℕ → List ℕ → List (List ℕ) → Type 0
  -- this text tells its sizes
  pub Sized : ℕ → List ℕ → List ℕ → Type 0
  -- this text tells what a monitor watches of it
  pub Measured : ℕ → List ℕ → List ℕ → Type 0
  -- the bounds of the lines
  pub bounds : Bounds

-- which region counts, and why
abbrev pub counting_text : State → List ℕ
counting_text Idle = line_text (codes "region both: idle")
counting_text Mutating = line_text (codes "region back: a batch is under way")
counting_text Copying = line_text (codes "region main: a copy is under way")

-- or which region is shown by itself
abbrev pub alone_text : Region → List ℕ
alone_text Main = line_text (codes "region main by itself")
alone_text Back = line_text (codes "region back by itself")

-- that line, the kind, and the sizes
abbrev pub check_text : List ℕ → ℕ → List ℕ → List ℕ
check_text line kind sizes = line ++ (line_text (codes "kind " ++ kind_name kind) ++ sizes)

-- what a monitor watches of each kind
abbrev pub common_text : ℕ → ℕ → ℕ → ℕ → List ℕ
common_text order kind count state = gauge_text (codes "order") order ++ (gauge_text (codes "kind") kind ++ (gauge_text (codes "updates") count ++ gauge_text (codes "state") state))

-- that, and then the measures of this kind
abbrev pub metrics_text : ℕ → ℕ → ℕ → ℕ → List ℕ → List ℕ
metrics_text order kind count state measures = common_text order kind count state ++ measures

-- a script that is too long is told with the number of its parts
abbrev pub too_long_line : ℕ → List ℕ
too_long_line parts = codes "script too long, " ++ decimal parts ++ codes " parts"

module _ {K : Type 0} (sink : ShownSink K) where
  -- the text is written, or some of it from its front where the sink failed
  abbrev pub IsWrittenOrCutShort : K → K → List ℕ → Type 0
  IsWrittenOrCutShort old new text = IsWhollyWritten sink old new text ⊎ IsCutShort sink old new text

  -- the text is printed, with 0, or some of it from its front where the sink failed, with 5
  abbrev pub EndsAsText : List ℕ → K → K → ℕ → Type 0
  EndsAsText text old new status = ((status ≡ 0) × IsWhollyWritten sink old new text) ⊎ ((status ≡ 5) × IsCutShort sink old new text)

  -- so is the script of these lines where it is within a script's limit; else that it is too long is told, with 8
  abbrev pub EndsAsWhole : ℕ → List (List ℕ) → K → K → ℕ → Type 0
  EndsAsWhole many lines old new status =
      (IsWithinLimit (script_of lines) × EndsAsText (script_of lines) old new status)
      ⊎ (AreTooManyBytes (script_of lines) × (status ≡ 8) × IsLineWrittenOrCutShort sink old new (too_long_line (parts_needed many lines)))

  -- of a part that is asked for, or of the whole
  abbrev pub EndsAsScript : ℕ → Option ℕ → List (List ℕ) → K → K → ℕ → Type 0
  EndsAsScript many (Some part) lines old new status = EndsAsText (script_of (part_of many part lines)) old new status
  EndsAsScript many None lines old new status = EndsAsWhole many lines old new status

  module _ (telling : Telling) where
    -- The script of the lines that carry over what a region holds. Its parts, each a script within the limits, are the script; and it is printed, or the part of it that is asked for.
    pub record IsPutAgain (order : ℕ) (region : List ℕ) (part : Option ℕ) (old new : K) (status : ℕ) : Type 0 where
      pub lines : List (List ℕ)
      pub carrying : telling.Carrying order region lines
      pub written : AreWritten telling.bounds lines
      pub parts : script_of lines ≡ flat_map (λ script. script) (parts_of telling.bounds.part telling.bounds.parts lines)
      pub fit : (number : ℕ) → FitsScript (script_of (part_of telling.bounds.part number lines))
      pub printed : EndsAsScript telling.bounds.part part lines old new status

    -- The sizes of a heap are printed behind the line of a region, with 0.
    pub record IsChecked (line : List ℕ) (order : ℕ) (region : List ℕ) (old new : K) (status : ℕ) : Type 0 where
      pub sizes : List ℕ
      pub sized : telling.Sized order region sizes
      pub printed : IsWrittenOrCutShort old new (check_text line telling.kind sizes)
      pub done : status ≡ 0

    -- What a monitor watches of a heap is printed, with 0 or, where some of it was not, with 5.
    pub record IsMeasured (state : ℕ) (order : ℕ) (region : List ℕ) (old new : K) (status : ℕ) : Type 0 where
      pub measures : List ℕ
      pub measured : telling.Measured order region measures
      pub printed : EndsAsText (metrics_text order telling.kind (slice_index region 2) state measures) old new status

    -- what a command prints of a region of a heap of this order under this state, of which the line tells
    abbrev pub IsRegionPrinted : DumpCommand → ℕ → List ℕ → ℕ → List ℕ → K → K → ℕ → Type 0
    IsRegionPrinted (Script file from part) state line order region old new status = IsPutAgain order region part old new status
    IsRegionPrinted (Check file from) state line order region old new status = IsChecked line order region old new status
    IsRegionPrinted (Metrics file) state line order region old new status = IsMeasured state order region old new status

module _ {D K S : Type 0} (shown : ShownDevice D) (sink : ShownSink K) (Contents : ℕ → List ℕ → S → ℕ → Type 0) (Rejects : ℕ → List ℕ → Unfit → Type 0) (telling : Telling) where
  -- The device holds, in a heap of this order, this region as the one that counts under the state that its header names. The region stands for some state and some count, and what is asked for of it is printed.
  pub record IsShown (asked : DumpCommand) (was now : D) (old new : K) (status : ℕ) : Type 0 where
    pub order : ℕ
    pub kind : State
    pub region : List ℕ
    pub current : IsTrue shown.tells_words → IsCurrentRegion order (shown.words was) region
    pub stands : (state : S) × (count : ℕ) × Contents order region state count
    pub named : IsTrue shown.tells_words → slice_index (shown.words was) STATE ≡ state_word kind
    pub fits : words_needed order ≤ shown.size was
    pub faults : shown.faults now ≡ shown.faults was
    pub printed : IsRegionPrinted sink telling asked (state_word kind) (counting_text kind) order region old new status

  -- The heap is refused, for the reason that an opening tells of the same words, with its line and its status.
  pub record IsRefusalShown (was now : D) (old new : K) (status : ℕ) : Type 0 where
    pub why : Why
    pub status_is : status ≡ exit_number (refusal_status why)
    pub refused : IsTrue shown.tells_words → IsRefusal Contents Rejects (shown.words was) why
    pub sizes : NamesTooFew (shown.size was) why
    pub faults : HasOpeningFaults {T = Unit {0}} (Err why) (shown.faults was) (shown.faults now) (shown.failing now)
    pub told : IsLineWrittenOrCutShort sink old new (refusal_line telling.kind why)

  -- In a heap of this order, the region of this name is this one, whatever the heap's state is and its other region. It stands by itself for some state and some count, and what is asked for of it is printed.
  pub record IsShownFrom (name : Region) (asked : DumpCommand) (was now : D) (old new : K) (status : ℕ) : Type 0 where
    pub order : ℕ
    pub region : List ℕ
    pub is : IsTrue shown.tells_words → IsNamedRegion name order (shown.words was) region
    pub stands : (state : S) × (count : ℕ) × Contents order region state count
    pub fits : words_needed order ≤ shown.size was
    pub faults : shown.faults now ≡ shown.faults was
    pub printed : IsRegionPrinted sink telling asked 0 (alone_text name) order region old new status

  -- The header is refused, or that region is, with the line and the status of any refusal. The heap's state is no reason, and its other region is none.
  pub record IsRefusedFrom (name : Region) (was now : D) (old new : K) (status : ℕ) : Type 0 where
    pub why : Why
    pub status_is : status ≡ exit_number (refusal_status why)
    pub refused : IsTrue shown.tells_words → IsRefusalOf Contents Rejects name (shown.words was) why
    pub sizes : NamesTooFew (shown.size was) why
    pub faults : HasOpeningFaults {T = Unit {0}} (Err why) (shown.faults was) (shown.faults now) (shown.failing now)
    pub told : IsLineWrittenOrCutShort sink old new (refusal_line telling.kind why)

  -- a command is answered by the region that counts, or by the one that it names
  abbrev pub IsAnsweredBy : Option Region → DumpCommand → D → D → K → K → ℕ → Type 0
  IsAnsweredBy None asked was now old new status = IsShown asked was now old new status ⊎ IsRefusalShown was now old new status
  IsAnsweredBy (Some name) asked was now old new status = IsShownFrom name asked was now old new status ⊎ IsRefusedFrom name was now old new status

  -- a command is answered by the region that it names, or by the one that counts
  abbrev pub IsCommandAnswered : DumpCommand → D → D → K → K → ℕ → Type 0
  IsCommandAnswered asked was now old new status = IsAnsweredBy (region_asked asked) asked was now old new status
