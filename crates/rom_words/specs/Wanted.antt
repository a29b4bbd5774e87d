-- What the code reads of the words, and the device that a command works on.
use Rattle.std.specs.Prelude.{Bool, if◌then◌else◌, ◌≡◌, ◌<◌, ◌≤◌, ℕ, List, length, map, Option, Some, None}
use Rattle.std.specs.Borrow.{Bor}
use Rattle.rom_model.specs.Blocks.{IsOrder}
use Rattle.rom_header.specs.Layout.{words_needed}
use Rattle.rom_words.specs.declared.words.CommandAsked.{CommandAsked}
use Rattle.rom_words.specs.declared.words.CommandAsked.TheVariants as asked
use Rattle.rom_text.specs.declared.wanted.DeviceWant.{DeviceWant}
use Rattle.rom_text.specs.declared.wanted.DeviceWant.TheVariants.{Nothing, Fresh, Old, Made}
use Rattle.rom_words.specs.declared.words.Matched.{Matched}
use Rattle.rom_words.specs.declared.words.Matched.TheVariants as matched
use Rattle.rom_words.specs.declared.said.Said.{Said}
use Rattle.rom_words.specs.declared.said.Sort.{Sort}
use Rattle.rom_words.specs.declared.said.Sort.TheVariants as sort
use Rattle.rom_words.specs.Words.{Command, Try, Run, Format, Stat, Upgrade, Drill}
use Rattle.rom_words.specs.Words as spec

-- the texts behind references
abbrev pub texts : List (Bor (List ℕ)) → List (List ℕ)
texts = map (λ s. s.now)

-- what the word was found to be
abbrev pub sorted : Sort → spec.Sort
sorted sort.Ends = spec.Ends
sorted (sort.Gives name value) = spec.Gives name.now value.now
sorted (sort.Opens name) = spec.Opens name.now
sorted sort.Stands = spec.Stands
sorted sort.Refused = spec.Refused

-- what a word is, where a `--` stands before it or none does
abbrev pub sort_at : Bool → List ℕ → spec.Sort
sort_at ended word = if ended then spec.Stands else spec.sort_of word

-- the plain words and the options that were read
abbrev pub told : Said → spec.Said
told s = record { plain = texts s.plain.items; options = map (λ o. (o.0.now, o.1.now)) s.options.items }

-- the command that was read, if one was
abbrev pub named : Option CommandAsked → Option Command
named (Some (asked.Try scripts)) = Some (Try (texts scripts.items))
named (Some (asked.Run file scripts)) = Some (Run file.now (texts scripts.items))
named (Some (asked.Format file order)) = Some (Format file.now order)
named (Some (asked.Stat file)) = Some (Stat file.now)
named (Some (asked.Upgrade file)) = Some (Upgrade file.now)
named (Some (asked.Drill start callers calls)) = Some (Drill start callers calls)
named None = None

-- the command whose names and numbers were found
abbrev pub matched_command : Matched → Command
matched_command (matched.Try scripts) = Try scripts
matched_command (matched.Run file scripts) = Run file scripts
matched_command (matched.Format file order) = Format file order
matched_command (matched.Stat file) = Stat file
matched_command (matched.Upgrade file) = Upgrade file
matched_command (matched.Drill start callers calls) = Drill start callers calls

-- an order that was found is one that there is
abbrev pub GivesOrder : Matched → Type 0
GivesOrder (matched.Try scripts) = Unit {0}
GivesOrder (matched.Run file scripts) = Unit {0}
GivesOrder (matched.Format file order) = IsOrder order
GivesOrder (matched.Stat file) = Unit {0}
GivesOrder (matched.Upgrade file) = Unit {0}
GivesOrder (matched.Drill start callers calls) = Unit {0}

-- where scripts or callers were found, there are 1 to 16, and each caller has 1 to 10,000 calls
abbrev pub GivesFew : Matched → Type 0
GivesFew (matched.Try scripts) = (0 < length scripts) × (length scripts ≤ 16)
GivesFew (matched.Run file scripts) = (0 < length scripts) × (length scripts ≤ 16)
GivesFew (matched.Format file order) = Unit {0}
GivesFew (matched.Stat file) = Unit {0}
GivesFew (matched.Upgrade file) = Unit {0}
GivesFew (matched.Drill start callers calls) = (0 < callers) × (callers ≤ 16) × (0 < calls) × (calls ≤ 10000)

-- an order that is asked for is one that there is
abbrev pub AsksForOrder : CommandAsked → Type 0
AsksForOrder (asked.Try scripts) = Unit {0}
AsksForOrder (asked.Run file scripts) = Unit {0}
AsksForOrder (asked.Format file order) = IsOrder order
AsksForOrder (asked.Stat file) = Unit {0}
AsksForOrder (asked.Upgrade file) = Unit {0}
AsksForOrder (asked.Drill start callers calls) = Unit {0}

-- where scripts or callers are asked for, there are 1 to 16, and each caller has 1 to 10,000 calls
abbrev pub AsksForFew : CommandAsked → Type 0
AsksForFew (asked.Try scripts) = (0 < length (texts scripts.items)) × (length (texts scripts.items) ≤ 16)
AsksForFew (asked.Run file scripts) = (0 < length (texts scripts.items)) × (length (texts scripts.items) ≤ 16)
AsksForFew (asked.Format file order) = Unit {0}
AsksForFew (asked.Stat file) = Unit {0}
AsksForFew (asked.Upgrade file) = Unit {0}
AsksForFew (asked.Drill start callers calls) = (0 < callers) × (callers ≤ 16) × (0 < calls) × (calls ≤ 10000)

-- `try` asks for the words of a heap of order 4, `drill` for those of order 12, `format` for a file that is lengthened to those of its order, and `run`, `stat` and `upgrade` for a file that is there
abbrev pub IsWanted : Option Command → DeviceWant → Type 0
IsWanted (Some (Try scripts)) device = device ≡ Fresh 232
IsWanted (Some (Run file scripts)) device = device ≡ Old file
IsWanted (Some (Format file order)) device = device ≡ Made file (words_needed order)
IsWanted (Some (Stat file)) device = device ≡ Old file
IsWanted (Some (Upgrade file)) device = device ≡ Old file
IsWanted (Some (Drill start callers calls)) device = device ≡ Fresh 49192
IsWanted None device = device ≡ Nothing
