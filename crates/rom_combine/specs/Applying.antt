-- Found calls that are done on shared main.
use Rattle.std.specs.Prelude.{◌≡◌, ℕ, ◌+◌, ◌<◌, ◌≤◌, List, [], ◌∷◌, ◌++◌, map, take, length, slice_index, Option, Some}
use Rattle.rom_model.specs.declared.entry.Entry.{Entry}
use Rattle.rom_model.specs.History.{after, batch, LAST_COUNT}
use Rattle.rom_model.specs.Passes.{batch_told}
use Rattle.rom_rule.specs.declared.views.Base.{Base}
use Rattle.rom_rule.specs.declared.views.Plan.{Plan}
use Rattle.rom_rule.specs.Views.{Told}
use Rattle.rom_rule.specs.Calls.{answer_words, found_of, packed}
use Rattle.rom_rule.specs.Readers.{Held}
use Rattle.rom_combine.specs.declared.answering.CallAnswer.{CallAnswer}
use Rattle.rom_combine.specs.declared.scanning.Posted.{Posted}

-- an answer, as its caller and the words that the caller's slot gets
abbrev pub laid_of : CallAnswer → ℕ × List ℕ
laid_of g = (g.caller, g.place ∷ packed g.reply)

-- what is told of a call, likewise
abbrev pub laid_told : Told → ℕ × List ℕ
laid_told x = (x.0.caller, answer_words x.1)

-- the count of updates, which a region has in this word
abbrev pub count_in : List ℕ → ℕ
count_in region = slice_index region 2

module _ {S : Type 0} (Contents : ℕ → List ℕ → S → ℕ → Type 0) (step : ℕ → S → ℕ → List ℕ → Option (S × List ℕ)) (b : Base) where
  -- the batch of the first i found calls
  abbrev pub batch_first : S → ℕ → Plan → ℕ → List Entry
  batch_first s n p i = batch step b.order (after step b.order s n p.history) (n + length p.history) (take i (map found_of p.requests))

  -- Main stands for the history with the batch of the first i found calls, and the answers are what a published pass tells of them.
  pub record IsApplied (s : S) (n : ℕ) (p : Plan) (main : List ℕ) (i : ℕ) (answers : List CallAnswer) : Type 0 where
    pub held : Held Contents step b s n main (p.history ++ batch_first s n p i)
    pub answers_are : map laid_of answers ≡ map laid_told (batch_told (n + length p.history) (take i (map found_of p.requests)) (batch_first s n p i))

  -- One call is done at that count; or the count is at its limit, and main stays.
  pub record IsDoneOne (one : Posted) (place : ℕ) (main main' : List ℕ) (answer : CallAnswer) : Type 0 where
    pub done : place < LAST_COUNT → (s : S) → Contents b.order main s place → (d : S) × (r : List ℕ) × (step b.order s place one.args ≡ Some (d, r)) × Contents b.order main' d (place + 1) × (laid_of answer ≡ (one.caller, place ∷ packed r))
    pub spent : LAST_COUNT ≤ place → (main' ≡ main) × (laid_of answer ≡ (one.caller, LAST_COUNT ∷ packed []))
