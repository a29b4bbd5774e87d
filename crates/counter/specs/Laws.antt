-- The laws of a counter.
use Rattle.std.specs.Prelude.{◌≡◌, ℕ, ◌*◌, ◌≤◌, List, [], ◌∷◌, length, slice_index, Some}
use Rattle.rom_model.specs.Blocks.{region_len}
use Rattle.rom_model.specs.History.{LAST_COUNT}
use Rattle.counter.specs.Counter.{CounterContents, add_from_words, counter, sum_from_words}
use Rattle.counter.specs.declared.counter.Add.{Add}
use Rattle.counter.specs.declared.counter.Sum.{Sum}
use Rattle.std.proofs.Common.{refl, sym, ◌∙◌, arith}

-- words that are read as a call are the words of that call
pub counter_call_only : (words : List ℕ) (call : Add) → add_from_words words ≡ Some call → call.amount ∷ [] ≡ words
counter_call_only [] call is = cc
counter_call_only (w ∷ []) call is = cc
counter_call_only (w ∷ v ∷ ws) call is = cc

-- the words of the reply to a call are read as that reply
pub counter_reply_back : (order s count : ℕ) (words : List ℕ) (call : Add) → add_from_words words ≡ Some call → let told : Sum = (counter.step order s count call).1 in sum_from_words (told.value ∷ []) ≡ Some told
counter_reply_back order s count words call is = refl

-- words that are read as a reply are the words of that reply
pub counter_reply_only : (words : List ℕ) (reply : Sum) → sum_from_words words ≡ Some reply → reply.value ∷ [] ≡ words
counter_reply_only [] reply is = cc
counter_reply_only (w ∷ []) reply is = cc
counter_reply_only (w ∷ v ∷ ws) reply is = cc

-- the words of the reply to a call are at most twice as many as those of the call
pub counter_reply_few : (order s count : ℕ) (words : List ℕ) (call : Add) → add_from_words words ≡ Some call → let told : Sum = (counter.step order s count call).1 in length (counter.reply_words told) ≤ 2 * length words
counter_reply_few order s count [] call is = cc
counter_reply_few order s count (w ∷ []) call is = omega arith
counter_reply_few order s count (w ∷ v ∷ ws) call is = cc

-- a region stands for one sum and one count
pub one_counter_contents : (n : ℕ) (words : List ℕ) (s t j k : ℕ) → CounterContents n words s j → CounterContents n words t k → (s ≡ t) × (j ≡ k)
one_counter_contents n words s t j k one two = (sym one.sum_is ∙ two.sum_is, sym one.count_is ∙ two.count_is)

-- A region has its order's length. Its word 0, the kind, is 77. Its word 2 is the count, which is at most
-- LAST_COUNT.
pub counter_contents_within : (n : ℕ) (words : List ℕ) (s k : ℕ) → CounterContents n words s k → (length words ≡ region_len n) × (slice_index words 2 ≡ k) × (k ≤ LAST_COUNT) × (slice_index words 0 ≡ 77)
counter_contents_within n words s k is = (is.as_long, is.count_is, is.count_fits, is.kind)
