-- What the words of a line ask for.
use Rattle.std.specs.Prelude.{◌≡◌, ℕ, List, [], ◌∷◌, codes}
use Rattle.rom_model.specs.declared.line.Step.{Step}
use Rattle.rom_model.specs.declared.line.Step.TheVariants.{Update, Ask, Unread}
use Rattle.rom_order_region.specs.declared.call.OrderCall.{OrderCall}
use Rattle.rom_order_region.specs.declared.call.OrderCall.TheVariants.{Put, Del}
use Rattle.rom_order_region.specs.declared.call.OrderQuery.{OrderQuery}
use Rattle.rom_order_region.specs.declared.call.OrderQuery.TheVariants.{Get, From, Range}

-- the first word of a call's line, and the numbers behind it
abbrev pub index_call_phrase : OrderCall → List ℕ × List ℕ
index_call_phrase (Put k v) = (codes "put", k ∷ v ∷ [])
index_call_phrase (Del k) = (codes "del", k ∷ [])

-- those of a query's line
abbrev pub index_query_phrase : OrderQuery → List ℕ × List ℕ
index_query_phrase (Get k) = (codes "get", k ∷ [])
index_query_phrase (From k) = (codes "from", k ∷ [])
index_query_phrase (Range a b) = (codes "range", a ∷ b ∷ [])

-- a line of this word and these numbers asks for the step, or for none
abbrev pub AsksIndex : List ℕ → List ℕ → Step OrderCall OrderQuery → Type 0
AsksIndex name numbers (Update call) = (name, numbers) ≡ index_call_phrase call
AsksIndex name numbers (Ask query) = (name, numbers) ≡ index_query_phrase query
AsksIndex name numbers Unread = ((call : OrderCall) → (name, numbers) ≡ index_call_phrase call → ⊥) × ((query : OrderQuery) → (name, numbers) ≡ index_query_phrase query → ⊥)
