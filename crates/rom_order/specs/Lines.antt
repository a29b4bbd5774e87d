-- What the lines of a script ask an ordered index for.
use Rattle.std.specs.Prelude.{◌≡◌, ℕ, ◌^◌, ◌<◌, List, ◌++◌, codes}
use Rattle.rom_model.specs.declared.line.Step.{Step}
use Rattle.rom_model.specs.declared.line.Step.TheVariants.{Update, Ask, Unread}
use Rattle.rom_text.specs.Lines.{spaced}
use Rattle.rom_order_region.specs.declared.call.OrderCall.{OrderCall}
use Rattle.rom_order_region.specs.declared.call.OrderCall.TheVariants.{Put, Del}
use Rattle.rom_order_region.specs.declared.call.OrderQuery.{OrderQuery}
use Rattle.rom_order_region.specs.declared.call.OrderQuery.TheVariants.{Get, From, Range}

-- how a call is written
abbrev pub index_call_line : OrderCall → List ℕ
index_call_line (Put k v) = codes "put" ++ spaced k ++ spaced v
index_call_line (Del k) = codes "del" ++ spaced k

-- how a query is written
abbrev pub index_query_line : OrderQuery → List ℕ
index_query_line (Get k) = codes "get" ++ spaced k
index_query_line (From k) = codes "from" ++ spaced k
index_query_line (Range a b) = codes "range" ++ spaced a ++ spaced b

-- each number of a call has at most 64 bits
abbrev pub IndexCallFits : OrderCall → Type 0
IndexCallFits (Put k v) = (k < 2 ^ 64) × (v < 2 ^ 64)
IndexCallFits (Del k) = k < 2 ^ 64

-- and so each of a query
abbrev pub IndexQueryFits : OrderQuery → Type 0
IndexQueryFits (Get k) = k < 2 ^ 64
IndexQueryFits (From k) = k < 2 ^ 64
IndexQueryFits (Range a b) = (a < 2 ^ 64) × (b < 2 ^ 64)

-- The line is written as the step is, or as no step is.
abbrev pub ReadsIndex : List ℕ → Step OrderCall OrderQuery → Type 0
ReadsIndex line (Update call) = IndexCallFits call × (line ≡ index_call_line call)
ReadsIndex line (Ask query) = IndexQueryFits query × (line ≡ index_query_line query)
ReadsIndex line Unread = ((call : OrderCall) → IndexCallFits call → line ≡ index_call_line call → ⊥) × ((query : OrderQuery) → IndexQueryFits query → line ≡ index_query_line query → ⊥)
