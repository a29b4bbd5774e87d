-- A sum, as its callers see it, and the words that it is kept in.
use Rattle.std.specs.Prelude.{◌≡◌, ◌==◌, ℕ, ◌+◌, ◌-◌, ◌^◌, ◌≤◌, min, nat_le, List, [], ◌∷◌, length, slice_index, Option, Some, None, if◌then◌else◌}
use Rattle.rom_model.specs.Blocks.{region_len}
use Rattle.rom_model.specs.History.{LAST_COUNT}
use Rattle.rom_model.specs.Machine.{Machine}
use Rattle.rom_model.specs.declared.unfit.Break.{Break}
use Rattle.rom_model.specs.declared.unfit.Rule.TheVariants.{Root}
use Rattle.rom_model.specs.declared.unfit.Unfit.{Unfit}
use Rattle.rom_model.specs.declared.unfit.Unfit.TheVariants.{Malformed, Old, OutOfMemory}
use Rattle.counter.specs.declared.counter.Add.{Add}
use Rattle.counter.specs.declared.counter.Query.{Query}
use Rattle.counter.specs.declared.counter.Sum.{Sum}

-- the sum of two numbers, which stands still at the greatest of 64 bits
abbrev pub counter_sum : ℕ → ℕ → ℕ
counter_sum s amount = min (s + amount) (2 ^ 64 - 1)

-- the call that a list of one word stands for; a list of any other length is no call
abbrev pub add_from_words : List ℕ → Option Add
add_from_words (amount ∷ []) = Some (record { amount = amount })
add_from_words words = None

-- the reply that a list of one word stands for; a list of any other length is no reply
abbrev pub sum_from_words : List ℕ → Option Sum
sum_from_words (value ∷ []) = Some (record { value = value })
sum_from_words words = None

-- adding tells the sum after it, and a query the sum as it is, by one load
abbrev pub counter : Machine ℕ Add Query Sum Sum
counter = record {
  empty = 0;
  step = λ order s count call. (counter_sum s call.amount, record { value = counter_sum s call.amount });
  weight = λ call. 1;
  tell = λ s query. record { value = s };
  cost = λ order s query. 1;
  call_words = λ call. call.amount ∷ [];
  words_call = add_from_words;
  reply_words = λ reply. reply.value ∷ [];
  words_reply = sum_from_words;
}

-- the kind, the sum and the count stand in the first three words of a region
pub record CounterContents (order : ℕ) (words : List ℕ) (s k : ℕ) : Type 0 where
  pub as_long : length words ≡ region_len order
  pub kind : slice_index words 0 ≡ 77
  pub sum_is : slice_index words 1 ≡ s
  pub count_is : slice_index words 2 ≡ k
  pub count_fits : k ≤ LAST_COUNT

-- the kind is looked at first, and then the count
abbrev pub first_break : List ℕ → Option Break
first_break words =
    if slice_index words 0 == 77
    then (if nat_le (slice_index words 2) LAST_COUNT then None else Some (record { offset = 2; rule = Root }))
    else Some (record { offset = 0; rule = Root })

-- words are not accepted for their first break; there was no version before
abbrev pub RejectsCounter : ℕ → List ℕ → Unfit → Type 0
RejectsCounter order words (Malformed offset rule) = first_break words ≡ Some (record { offset = offset; rule = rule })
RejectsCounter order words Old = ⊥
RejectsCounter order words OutOfMemory = ⊥
