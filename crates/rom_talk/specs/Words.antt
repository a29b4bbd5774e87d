-- Whom the words of a command line have a heap talk to.
use Rattle.std.specs.Prelude.{ℕ, ◌+◌, ◌/◌, ◌%◌, ◌==◌, ◌&&◌, nat_lt, Bool, List, [], ◌∷◌, length, codes, Option, Some, None, option_map, if◌then◌else◌}
use Rattle.std.specs.Str.{bytes_eq}
use Rattle.rom_run.specs.Plain.{are_names, is_name}
use Rattle.rom_talk.specs.declared.words.Callers.{Callers}
use Rattle.rom_talk.specs.declared.words.Shipping.{Shipping}

-- the most names of callers: an input and an output for each of 16
abbrev pub MOST_NAMES : ℕ
MOST_NAMES = 32

-- How many callers the names make: one at the standard streams where there is no pair, else one at each, an input and an output.
abbrev pub callers_named : List (List ℕ) → ℕ
callers_named names = if nat_lt (length names) 2 then 1 else length names / 2

-- the names make pairs, and so few
abbrev pub are_pairs : List (List ℕ) → Bool
are_pairs names = (length names % 2 == 0) && nat_lt (length names) (MOST_NAMES + 1) && are_names names

-- the heap's file, and the names
abbrev pub file_and_pairs : List (List ℕ) → Option (List ℕ × List (List ℕ))
file_and_pairs [] = None
file_and_pairs (file ∷ names) = if is_name file && are_pairs names then Some (file, names) else None

-- a stream, and the same behind it
abbrev pub stream_and_callers : List (List ℕ) → Option (Option (List ℕ) × (List ℕ × List (List ℕ)))
stream_and_callers [] = None
stream_and_callers (stream ∷ words) = if is_name stream then option_map (λ callers. (Some stream, callers)) (file_and_pairs words) else None

-- The same behind an option. Without it there is no stream.
abbrev pub ship_and_callers : List (List ℕ) → Option (Option (List ℕ) × (List ℕ × List (List ℕ)))
ship_and_callers [] = None
ship_and_callers (option ∷ words) = if bytes_eq option (codes "--ship") then stream_and_callers words else option_map (λ callers. (None, callers)) (file_and_pairs (option ∷ words))

-- the same behind the command of this name
abbrev pub talk_named : List (List ℕ) → Option (List ℕ × List (List ℕ))
talk_named [] = None
talk_named (name ∷ words) = if bytes_eq name (codes "talk") then file_and_pairs words else None

-- what was read
abbrev pub callers_read : Option Callers → Option (List ℕ × List (List ℕ))
callers_read callers = option_map (λ c. (c.file.now, c.names.now)) callers

-- the stream, where there is one, and what was read of callers
abbrev pub shipping_read : Option Shipping → Option (Option (List ℕ) × (List ℕ × List (List ℕ)))
shipping_read shipping = option_map (λ s. (option_map (λ stream. stream.now) s.stream, (s.callers.file.now, s.callers.names.now))) shipping
