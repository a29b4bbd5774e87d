-- How many calls of the device the functions of this crate make, by their answers; where the device failed, no more than so many.
use Rattle.std.specs.Prelude.{ℕ, ◌==◌, Bool, true, false, if◌then◌else◌, nat_lt, Result, Ok, Err}
use Rattle.rom_header.specs.Layout.{words_needed}
use Rattle.rom_header.specs.declared.header.HeaderRefused.{HeaderRefused}
use Rattle.rom_header.specs.declared.header.HeaderRefused.TheVariants as header
use Rattle.rom_header.specs.declared.fresh.FormatRefused.{FormatRefused}
use Rattle.rom_header.specs.declared.fresh.FormatRefused.TheVariants.{AlreadyAHeap, TooSmall, Device}

-- What an answer says of the device: an error where it is that of a fault, and else none.
abbrev pub fault_of : {T E : Type 0} → (E → Bool) → Result T E → Result (Unit {0}) (Unit {0})
fault_of is_fault (Ok done) = Ok tt
fault_of is_fault (Err refused) = if is_fault refused then Err tt else Ok tt

abbrev is_header_fault : HeaderRefused → Bool
is_header_fault header.Device = true
is_header_fault other = false

-- of the answer to the reading of a header: an error where it is `Device`, and else none
abbrev pub header_fault : {T : Type 0} → Result T HeaderRefused → Result (Unit {0}) (Unit {0})
header_fault result = fault_of is_header_fault result

-- how many words of a header are read up to the one that is refused; none on a device that is too small for a header
abbrev pub refused_reads : HeaderRefused → ℕ
refused_reads (header.TooSmall need have) = if nat_lt have 8 then 0 else 3
refused_reads header.NotAHeap = 1
refused_reads (header.BadVersion version) = 2
refused_reads (header.BadOrder order) = 3
refused_reads (header.BadState state) = 4
refused_reads header.Device = 4

-- and by the answer, so many of a header that is accepted
abbrev pub header_reads : {T : Type 0} → ℕ → Result T HeaderRefused → ℕ
header_reads all (Ok accepted) = all
header_reads all (Err refused) = refused_reads refused

abbrev is_format_fault : FormatRefused → Bool
is_format_fault Device = true
is_format_fault other = false

-- of the answer to the making of a heap: an error where it is `Device`, and else none
abbrev pub format_fault : Result (Unit {0}) FormatRefused → Result (Unit {0}) (Unit {0})
format_fault result = fault_of is_format_fault result

-- the reads of the making of a heap: one, of the word of the magic, where the device has it
abbrev pub format_reads : Result (Unit {0}) FormatRefused → ℕ
format_reads (Err (TooSmall need have)) = if have == 0 then 0 else 1
format_reads other = 1

-- its writes: of each word of the heap, and none where it is refused
abbrev pub format_writes : ℕ → Result (Unit {0}) FormatRefused → ℕ
format_writes order (Ok done) = words_needed order
format_writes order (Err Device) = words_needed order
format_writes order (Err other) = 0

-- and its syncs: one before the read of that word, and two more about the magic
abbrev pub format_syncs : Result (Unit {0}) FormatRefused → ℕ
format_syncs (Ok done) = 3
format_syncs (Err Device) = 3
format_syncs (Err AlreadyAHeap) = 1
format_syncs (Err (TooSmall need have)) = if have == 0 then 0 else 1
