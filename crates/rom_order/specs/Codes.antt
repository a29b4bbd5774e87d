-- The words that stand for calls and replies.
use Rattle.std.specs.Prelude.{ℕ, ◌==◌, List, [], ◌∷◌, Option, Some, None, if◌then◌else◌}
use Rattle.rom_order_region.specs.declared.call.OrderCall.{OrderCall}
use Rattle.rom_order_region.specs.declared.call.OrderCall.TheVariants.{Put, Del}
use Rattle.rom_order_region.specs.declared.call.OrderReply.{OrderReply}
use Rattle.rom_order_region.specs.declared.call.OrderReply.TheVariants.{Was, NoPrior, Full}

-- the words that stand for a call: a tag, then its numbers
abbrev pub index_call_words : OrderCall → List ℕ
index_call_words (Put k v) = 1 ∷ k ∷ v ∷ []
index_call_words (Del k) = 2 ∷ k ∷ []

-- the call that the words are those of
abbrev pub index_call_from_words : List ℕ → Option OrderCall
index_call_from_words (tag ∷ k ∷ []) = if tag == 2 then Some (Del k) else None
index_call_from_words (tag ∷ k ∷ v ∷ []) = if tag == 1 then Some (Put k v) else None
index_call_from_words words = None

-- the words that stand for a reply: a tag, then its number if it has one
abbrev pub index_reply_words : OrderReply → List ℕ
index_reply_words (Was v) = 1 ∷ v ∷ []
index_reply_words NoPrior = 2 ∷ []
index_reply_words Full = 3 ∷ []

-- the reply that the words are those of
abbrev pub index_reply_from_words : List ℕ → Option OrderReply
index_reply_from_words (tag ∷ []) = if tag == 2 then Some NoPrior else if tag == 3 then Some Full else None
index_reply_from_words (tag ∷ v ∷ []) = if tag == 1 then Some (Was v) else None
index_reply_from_words words = None
