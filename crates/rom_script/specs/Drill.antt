-- The scripts of a drill, which follow from its start, and what it tells of its results.
use Rattle.std.specs.Prelude.{zero, suc, ℕ, ◌+◌, ◌-◌, ◌*◌, ◌/◌, ◌%◌, ◌^◌, ◌==◌, List, [], ◌∷◌, ◌++◌, map, codes, decimal, if◌then◌else◌}
use Rattle.std.specs.List.{range_with_len, sum_by, zip}
use Rattle.rom_model.specs.declared.call.Call.{Call}
use Rattle.rom_model.specs.declared.call.Call.TheVariants.{Enq, Deq, Add, Rem, Put, Move}
use Rattle.rom_model.specs.declared.call.Query.{Query}
use Rattle.rom_model.specs.declared.call.Query.TheVariants.{Has, Get, Peek, Len, Total}
use Rattle.rom_model.specs.declared.call.Reply.{Reply}
use Rattle.rom_model.specs.declared.call.Reply.TheVariants.{Queued, Head}
use Rattle.rom_model.specs.declared.call.Answer.{Answer}
use Rattle.rom_model.specs.declared.call.Updated.TheVariants.{Done}
use Rattle.rom_model.specs.declared.line.Step.{Step}
use Rattle.rom_model.specs.declared.line.Step.TheVariants.{Update, Ask}
use Rattle.rom_model.specs.declared.line.LineResult.{LineResult}
use Rattle.rom_model.specs.declared.line.LineResult.TheVariants as outcome
use Rattle.rom_text.specs.Text.{line_text}
use Rattle.rom_script.specs.Trio.{answer_text}

-- the number before those of a caller's items
abbrev pub first : ℕ → ℕ → ℕ
first start caller = (start + caller) % 2 ^ 31

-- the number after this one
abbrev pub next : ℕ → ℕ
next x = (x * 1103515245 + 12345) % 2 ^ 31

-- a number goes into the queue, and the first one out
abbrev pub queue_lines : ℕ → List (Step Call Query)
queue_lines q = Update (Enq q) ∷ Update Deq ∷ []

-- less than 100 goes from one key of all callers' to another
abbrev pub move_call : ℕ → ℕ → Call
move_call callers q = Move (q % (4 * callers)) (q / 64 % (4 * callers)) (q % 100)

-- one of the caller's own eight numbers goes into the set, or out
abbrev pub set_call : ℕ → ℕ → Call
set_call caller q = if q / 8 % 2 == 0 then Add (8 * (caller - 1) + q % 8) else Rem (8 * (caller - 1) + q % 8)

-- one of five queries, on any caller's keys and numbers
abbrev pub query : ℕ → ℕ → Query
query callers q =
    if q % 5 == 0 then Get (q / 5 % (4 * callers)) else
    if q % 5 == 1 then Has (q / 5 % (8 * callers)) else
    if q % 5 == 2 then Peek else
    if q % 5 == 3 then Len else Total

-- the lines of an item of this kind
abbrev pub kind_lines : ℕ → ℕ → ℕ → ℕ → List (Step Call Query)
kind_lines callers caller kind q =
    if kind == 0 then queue_lines q else
    if kind == 1 then Update (move_call callers q) ∷ [] else
    if kind == 2 then Update (set_call caller q) ∷ [] else Ask (query callers q) ∷ []

-- The lines of the item that a number makes. Its low 16 bits are left out; the two bits above them are the item's kind, and the rest its own number.
abbrev pub item : ℕ → ℕ → ℕ → List (Step Call Query)
item callers caller x = kind_lines callers caller (x / 65536 % 4) (x / 65536 / 4)

-- those of so many items, whose numbers follow this one
abbrev pub items : ℕ → ℕ → ℕ → ℕ → List (Step Call Query)
items callers caller zero x = []
items callers caller (suc more) x = item callers caller (next x) ++ items callers caller more (next x)

-- a key gets 1000
abbrev pub put_line : ℕ → Step Call Query
put_line key = Update (Put key 1000)

-- each of the caller's own four keys does
abbrev pub put_lines : ℕ → List (Step Call Query)
put_lines caller = map put_line (range_with_len (4 * (caller - 1)) 4)

-- a caller's script
abbrev pub drill_script : ℕ → ℕ → ℕ → ℕ → List (Step Call Query)
drill_script start callers calls caller = put_lines caller ++ items callers caller calls (first start caller)

-- those of the callers, which are numbered from 1 on
abbrev pub drill_scripts : ℕ → ℕ → ℕ → List (List (Step Call Query))
drill_scripts start callers calls = map (drill_script start callers calls) (range_with_len 1 callers)

-- what a line has put into the queue, which is never a group's in a drill
abbrev pub enqueued_by : Step Call Query → LineResult Reply Answer → ℕ
enqueued_by (Update (Enq v)) (outcome.Update (Done Queued place)) = v
enqueued_by line result = 0

-- what a line has taken out of it
abbrev pub dequeued_by : LineResult Reply Answer → ℕ
dequeued_by (outcome.Update (Done (Head v) place)) = v
dequeued_by result = 0

-- the sum of what a caller's lines have put into it
abbrev pub enqueued_of : List (Step Call Query) → List (LineResult Reply Answer) → ℕ
enqueued_of lines results = sum_by (λ p. enqueued_by p.0 p.1) (zip lines results)

-- and out
abbrev pub dequeued_of : List (LineResult Reply Answer) → ℕ
dequeued_of results = sum_by dequeued_by results

-- the sum of what all callers' lines have put into the queue
abbrev pub enqueued : List (List (Step Call Query)) → List (List (LineResult Reply Answer)) → ℕ
enqueued scripts results = sum_by (λ p. enqueued_of p.0 p.1) (zip scripts results)

-- the sum of what all callers' lines have taken out of the queue
abbrev pub dequeued : List (List (LineResult Reply Answer)) → ℕ
dequeued results = sum_by dequeued_of results

-- five lines: of what was asked, of the sums, the answers to `len` and to `total` at closing, and the count
abbrev pub drill_lines : ℕ → ℕ → ℕ → ℕ → ℕ → Answer → Answer → ℕ → List ℕ
drill_lines start callers calls into out_of sizes total count =
    line_text (codes "drill " ++ decimal start ++ codes " callers " ++ decimal callers ++ codes " calls " ++ decimal calls) ++ line_text (codes "enqueued " ++ decimal into ++ codes " dequeued " ++ decimal out_of) ++ line_text (answer_text sizes) ++ line_text (answer_text total) ++ line_text (codes "count " ++ decimal count)
