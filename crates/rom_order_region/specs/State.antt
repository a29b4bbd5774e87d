-- The object of an ordered index: a map from numbers to numbers.
use Rattle.std.specs.Prelude.{ℕ, ◌+◌, ◌*◌, length, nat_lt, Option, Some, None, if◌then◌else◌}
use Rattle.std.specs.Ordering.{nat_cmp}
use Rattle.std.specs.FinMap as map
use Rattle.rom_order_region.specs.High.{high}
use Rattle.rom_order_region.specs.Query.{first_from, inside, total}
use Rattle.rom_order_region.specs.declared.call.OrderCall.{OrderCall}
use Rattle.rom_order_region.specs.declared.call.OrderCall.TheVariants.{Put, Del}
use Rattle.rom_order_region.specs.declared.call.OrderReply.{OrderReply}
use Rattle.rom_order_region.specs.declared.call.OrderReply.TheVariants.{Was, NoPrior, Full}
use Rattle.rom_order_region.specs.declared.call.OrderQuery.{OrderQuery}
use Rattle.rom_order_region.specs.declared.call.OrderQuery.TheVariants.{Get, From, Range}
use Rattle.rom_order_region.specs.declared.call.OrderAnswer.{OrderAnswer}
use Rattle.rom_order_region.specs.declared.call.OrderAnswer.TheVariants as answer
use Rattle.rom_order_region.specs.Region.{room_for}

-- The state: the keys, and a value for each. All taken blocks have one order, so the number of keys decides
-- whether there is room. So `index_step` needs no blocks, and no reply depends on which balanced tree stands there.
abbrev pub Pairs : Type 0
Pairs = map.FinMap nat_cmp ℕ

-- a key gets the value v, where it had this one before
abbrev pub put_pair : ℕ → Pairs → ℕ → ℕ → Option ℕ → Pairs × OrderReply
put_pair n s k v (Some u) = (map.insert s k v, Was u)
put_pair n s k v None = if nat_lt (map.len s) (room_for n) then (map.insert s k v, NoPrior) else (s, Full)

-- a key goes, where it had this value
abbrev pub delete_pair : Pairs → ℕ → Option ℕ → Pairs × OrderReply
delete_pair s k (Some u) = (map.remove s k, Was u)
delete_pair s k None = (s, NoPrior)

-- What a call leaves in a heap of order n, and what it is told.
abbrev pub index_step : ℕ → Pairs → ℕ → OrderCall → Pairs × OrderReply
index_step n s count (Put k v) = put_pair n s k v (map.get s k)
index_step n s count (Del k) = delete_pair s k (map.get s k)

-- what is told of a key's value
abbrev pub index_value_answer : Option ℕ → OrderAnswer
index_value_answer (Some v) = answer.Value v
index_value_answer None = answer.Missing

-- what is told of an entry
abbrev pub index_pair_answer : Option (ℕ × ℕ) → OrderAnswer
index_pair_answer (Some e) = answer.Pair e.0 e.1
index_pair_answer None = answer.Missing

-- what a query is told
abbrev pub index_tell : Pairs → OrderQuery → OrderAnswer
index_tell s (Get k) = index_value_answer (map.get s k)
index_tell s (From k) = index_pair_answer (first_from k (map.entries s))
index_tell s (Range a b) = answer.Range (length (inside a b (map.entries s))) (total (inside a b (map.entries s)))

-- How many loads a query makes at most. The clause `looks` of the object's trait promises it, so a tree that
-- may grow higher than a balanced one would break that clause.
abbrev pub index_cost : ℕ → Pairs → OrderQuery → ℕ
index_cost n s (Get k) = 1 + 2 * high (map.len s)
index_cost n s (From k) = 2 + 2 * high (map.len s)
index_cost n s (Range a b) = (length (inside a b (map.entries s)) + 1) * (2 + 2 * high (map.len s))
