-- A log that is kept by the bytes that passed, in their order, and how many each event has.
use Rattle.std.specs.Prelude.{◌≡◌, ℕ, ◌+◌, List, [], ◌∷◌, ◌++◌, length, take, drop}
use Rattle.std.specs.Coded.{Coded-set, coded_list, coded_ℕ}
use Rattle.rom_hear.specs.Events.{Event, Heard, Said, heard_in}
use Rattle.rom_hear.specs.declared.mark.Mark.{Mark}
use Rattle.rom_hear.specs.declared.mark.Mark.TheVariants as mark
use Rattle.rom_hear.specs.declared.mark.Passed.{Passed}

module _ {K : Type 0} where
  -- how many bytes passed
  abbrev pub bytes_of : Mark K → ℕ
  bytes_of (mark.Heard count) = count
  bytes_of (mark.Said count knowing) = count

  -- and in all of these
  abbrev pub bytes_in : List (Mark K) → ℕ
  bytes_in [] = 0
  bytes_in (m ∷ marks) = bytes_of m + bytes_in marks

  -- what passed, with these bytes
  abbrev pub event_of : Mark K → List ℕ → Event K
  event_of (mark.Heard count) bytes = Heard bytes
  event_of (mark.Said count knowing) bytes = Said bytes knowing.value

  -- the log of all that passed, by its bytes in their order
  abbrev pub log_of : List (Mark K) → List ℕ → List (Event K)
  log_of [] bytes = []
  log_of (m ∷ marks) bytes = event_of m (take (bytes_of m) bytes) ∷ log_of marks (drop (bytes_of m) bytes)

  -- the log that is kept
  abbrev pub log_in : Passed K → List (Event K)
  log_in p = log_of p.marks.items p.bytes.items

  -- what was heard by this log, and then what is left, is the whole text
  abbrev pub IsHeardOf : List ℕ → ℕ → Passed K → Type 0
  IsHeardOf text at p = heard_in (log_in p) ++ drop at text ≡ text

  -- `IsHeardOf` is a fact, which has one proof at most
  pub IsHeardOf-prop : (text : List ℕ) (at : ℕ) (p : Passed K) → IsProp (IsHeardOf text at p)
  IsHeardOf-prop text at p = Coded-set (coded_list coded_ℕ) (heard_in (log_in p) ++ drop at text) text

  -- the marks are of all bytes that passed
  abbrev pub IsMarked : Passed K → Type 0
  IsMarked p = bytes_in p.marks.items ≡ length p.bytes.items
