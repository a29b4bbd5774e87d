-- What the calls of a memory device leave. A log has the newest call first, so that each definition
-- says what one call more changes.
use Rattle.std.specs.Prelude.{◌≡◌, ◌⊎◌, ℕ, ◌≤◌, true, false, if◌then◌else◌, List, [], ◌∷◌, length, slice_set}
use Rattle.rom_device.specs.Device.{After, WritesWord}
use Rattle.rom_device.specs.declared.call.CallKind.{CallKind}
use Rattle.rom_device.specs.declared.call.CallKind as kind
use Rattle.rom_device.specs.declared.call.LoggedCall.{LoggedCall}
use Rattle.rom_device.specs.declared.call.LoggedCall.TheVariants.{Read, Write, Sync}

-- whether a call is a read, a write or a sync
abbrev pub call_kind : LoggedCall → CallKind
call_kind (Read at) = kind.TheVariants.Read
call_kind (Write at value lands) = kind.TheVariants.Write
call_kind (Sync done) = kind.TheVariants.Sync

-- the place of the word that a call reads or writes; a sync is of no word, and has 0
abbrev pub place_of : LoggedCall → ℕ
place_of (Read at) = at
place_of (Write at value lands) = at
place_of (Sync done) = 0

-- the words as they read
abbrev pub words_after : List ℕ → List LoggedCall → List ℕ
words_after base [] = base
words_after base (Read at ∷ log) = words_after base log
words_after base (Write at value lands ∷ log) = if lands then slice_set (words_after base log) at value else words_after base log
words_after base (Sync done ∷ log) = words_after base log

-- a stop may leave this image
abbrev pub MayLeave : List ℕ → List LoggedCall → List ℕ → Type 0
MayLeave base [] i = i ≡ base
MayLeave base (Read at ∷ log) i = MayLeave base log i
MayLeave base (Write at value lands ∷ log) i = After (WritesWord at value) (MayLeave base log) i
MayLeave base (Sync true ∷ log) i = i ≡ words_after base log
MayLeave base (Sync false ∷ log) i = MayLeave base log i

-- a stop at some moment since t might have left it; the moment is the number of calls made
abbrev pub MayLeaveSince : List ℕ → ℕ → List LoggedCall → List ℕ → Type 0
MayLeaveSince base t [] i = MayLeave base [] i
MayLeaveSince base t (made ∷ log) i = MayLeave base (made ∷ log) i ⊎ ((t ≤ length log) × MayLeaveSince base t log i)
