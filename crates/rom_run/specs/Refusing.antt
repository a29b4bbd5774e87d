-- What is told of a heap that is not opened, not made or not upgraded: a line, and a status.
use Rattle.std.specs.Prelude.{◌≢◌, ◌==◌, ℕ, Bool, false, ◌&&◌, not, List, ◌++◌, codes, decimal, if◌then◌else◌}
use Rattle.rom_model.specs.declared.unfit.Rule.{Rule}
use Rattle.rom_model.specs.declared.unfit.Rule.TheVariants.{Root, Link, Pad, Ends, Count, Order, Bucket, Repeat, Tree, Stamp}
use Rattle.rom_header.specs.declared.fresh.FormatRefused.TheVariants as format
use Rattle.rom_open.specs.declared.reasons.Why.{Why}
use Rattle.rom_open.specs.declared.reasons.Why.TheVariants.{NotAHeap, BadVersion, BadOrder, BadState, TooSmall, Twins, OldRegion, NewRegion, Malformed, Device, OutOfMemory}
use Rattle.rom_open.specs.declared.new_heap.NotFormatted.{NotFormatted}
use Rattle.rom_open.specs.declared.new_heap.NotFormatted.TheVariants as unmade
use Rattle.rom_run.specs.declared.status.Status.{Status}
use Rattle.rom_run.specs.declared.status.Status.TheVariants.{HeapRefused, NoMemory, DeviceFailed}

-- the name of a rule, as a refusal's line has it
abbrev pub rule_name : Rule → List ℕ
rule_name Root = codes "root"
rule_name Link = codes "link"
rule_name Pad = codes "pad"
rule_name Ends = codes "ends"
rule_name Count = codes "count"
rule_name Order = codes "order"
rule_name Bucket = codes "bucket"
rule_name Repeat = codes "repeat"
rule_name Tree = codes "tree"
rule_name Stamp = codes "stamp"

-- too few words, in words
abbrev pub too_small_line : ℕ → ℕ → List ℕ
too_small_line need have = codes "refused: too small, need " ++ decimal need ++ codes ", have " ++ decimal have

-- regions that differ under IDLE
abbrev pub twins_line : ℕ → ℕ → ℕ → List ℕ
twins_line offset main back = codes "refused: twins differ at " ++ decimal offset ++ codes ", main " ++ decimal main ++ codes ", back " ++ decimal back

-- the kind of a heap, which is the first word of a region, as a refusal's line has it
abbrev pub kind_name : ℕ → List ℕ
kind_name kind = if kind == 1 then codes "a queue, a set and a map" else if kind == 2 then codes "keys with bytes" else if kind == 3 then codes "an ordered index" else codes "kind " ++ decimal kind

-- A region's first word breaks the rule of root words: it is of another kind. An object of the kind 1 does not tell so: its line names the word and the rule.
abbrev pub is_of_another_kind : ℕ → ℕ → Rule → Bool
is_of_another_kind kind offset Root = (offset == 0) && not (kind == 1)
is_of_another_kind kind offset Link = false
is_of_another_kind kind offset Pad = false
is_of_another_kind kind offset Ends = false
is_of_another_kind kind offset Count = false
is_of_another_kind kind offset Order = false
is_of_another_kind kind offset Bucket = false
is_of_another_kind kind offset Repeat = false
is_of_another_kind kind offset Tree = false
is_of_another_kind kind offset Stamp = false

-- another kind of heap, and which
abbrev pub another_kind_line : ℕ → List ℕ
another_kind_line found = codes "refused: another kind, " ++ kind_name found

-- a word that breaks a rule
abbrev pub broken_line : ℕ → Rule → List ℕ
broken_line offset rule = codes "refused: malformed at " ++ decimal offset ++ codes ", rule " ++ rule_name rule

-- why a heap is not opened, or not upgraded, of an object of this kind
abbrev pub refusal_line : ℕ → Why → List ℕ
refusal_line kind NotAHeap = codes "refused: not a heap"
refusal_line kind (BadVersion version) = codes "refused: version " ++ decimal version
refusal_line kind (BadOrder order) = codes "refused: order " ++ decimal order
refusal_line kind (BadState state) = codes "refused: state " ++ decimal state
refusal_line kind (TooSmall need have) = too_small_line need have
refusal_line kind (Twins offset main back) = twins_line offset main back
refusal_line kind OldRegion = codes "refused: region version 1"
refusal_line kind NewRegion = codes "refused: region version 2"
refusal_line kind (Malformed offset rule found) = if is_of_another_kind kind offset rule then another_kind_line found else broken_line offset rule
refusal_line kind Device = codes "device failed"
refusal_line kind OutOfMemory = codes "no memory"

-- a reason that has a name, which no fault and no want of memory is
abbrev pub HasName : Why → Type 0
HasName why = (why ≢ Device) × (why ≢ OutOfMemory)

-- the status where a heap is not opened, or not upgraded
abbrev pub refusal_status : Why → Status
refusal_status Device = DeviceFailed
refusal_status OutOfMemory = NoMemory
refusal_status NotAHeap = HeapRefused
refusal_status (BadVersion version) = HeapRefused
refusal_status (BadOrder n) = HeapRefused
refusal_status (BadState word) = HeapRefused
refusal_status (TooSmall need have) = HeapRefused
refusal_status (Twins offset main back) = HeapRefused
refusal_status OldRegion = HeapRefused
refusal_status NewRegion = HeapRefused
refusal_status (Malformed offset rule found) = HeapRefused

-- why a heap is not made
abbrev pub unmade_line : NotFormatted → List ℕ
unmade_line (unmade.Refused format.AlreadyAHeap) = codes "refused: already a heap"
unmade_line (unmade.Refused (format.TooSmall need have)) = too_small_line need have
unmade_line (unmade.Refused format.Device) = codes "device failed"
unmade_line unmade.OutOfMemory = codes "no memory"

-- the status where a heap is not made
abbrev pub unmade_status : NotFormatted → Status
unmade_status (unmade.Refused format.Device) = DeviceFailed
unmade_status (unmade.Refused format.AlreadyAHeap) = HeapRefused
unmade_status (unmade.Refused (format.TooSmall need have)) = HeapRefused
unmade_status unmade.OutOfMemory = NoMemory
