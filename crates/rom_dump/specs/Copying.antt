-- The words of the command `copy`, and the lines of heaps that are taken and put.
use Rattle.std.specs.Prelude.{ℕ, ◌&&◌, List, [], ◌∷◌, ◌++◌, codes, decimal, Option, Some, None, Result, Ok, Err, if◌then◌else◌}
use Rattle.std.specs.Borrow.{Bor}
use Rattle.std.specs.Str.{bytes_eq}
use Rattle.rom_header.specs.declared.fresh.FormatRefused.{FormatRefused}
use Rattle.rom_header.specs.declared.fresh.FormatRefused.TheVariants.{AlreadyAHeap, TooSmall, Device}
use Rattle.rom_open.specs.declared.reasons.Why.TheVariants as why
use Rattle.rom_copy.specs.declared.untaken.Untaken.{Untaken}
use Rattle.rom_copy.specs.declared.untaken.Untaken.TheVariants.{Refused, Unfinished}
use Rattle.rom_dump.specs.declared.copy.Made.{Made}
use Rattle.rom_dump.specs.declared.copy.Made.TheVariants.{Copied, Grown}
use Rattle.rom_run.specs.Plain.{is_name}
use Rattle.rom_run.specs.Refusing.{refusal_line, refusal_status}
use Rattle.rom_run.specs.Statuses.{exit_number}

-- `copy FILE NEW` names both files
abbrev pub copy_command : List (List ℕ) → Option (List ℕ × List ℕ)
copy_command (name ∷ file ∷ new ∷ []) = if bytes_eq name (codes "copy") && (is_name file && is_name new) then Some (file, new) else None
copy_command words = None

-- the files that were read, if they were
abbrev pub names_read : Option (Bor (List ℕ) × Bor (List ℕ)) → Option (List ℕ × List ℕ)
names_read (Some files) = Some (files.0.now, files.1.now)
names_read None = None

-- what was done
abbrev pub made_word : Made → List ℕ
made_word Copied = codes "copied"
made_word Grown = codes "grown"

-- the line of a heap that was put
abbrev pub made_line : Made → ℕ → ℕ → List ℕ
made_line made order count = made_word made ++ codes " order " ++ decimal order ++ codes " count " ++ decimal count

-- why a heap was not put
abbrev pub unput_line : FormatRefused → List ℕ
unput_line AlreadyAHeap = codes "refused: already a heap"
unput_line (TooSmall need have) = refusal_line 1 (why.TooSmall need have)
unput_line Device = refusal_line 1 why.Device

-- its status
abbrev pub unput_status : FormatRefused → ℕ
unput_status AlreadyAHeap = 3
unput_status (TooSmall need have) = 3
unput_status Device = 7

-- the line of a heap that was put, or of its refusal
abbrev pub put_line : Made → ℕ → ℕ → Result (Unit {0}) FormatRefused → List ℕ
put_line made order count (Ok done) = made_line made order count
put_line made order count (Err refused) = unput_line refused

-- its status
abbrev pub put_status : Result (Unit {0}) FormatRefused → ℕ
put_status (Ok done) = 0
put_status (Err refused) = unput_status refused

-- why a heap was not taken, where one of this kind was looked for
abbrev pub untaken_line : ℕ → Untaken → List ℕ
untaken_line kind (Refused reason) = refusal_line kind reason
untaken_line kind Unfinished = codes "refused: a batch is not finished"

-- its status
abbrev pub untaken_status : Untaken → ℕ
untaken_status (Refused reason) = exit_number (refusal_status reason)
untaken_status Unfinished = 3
