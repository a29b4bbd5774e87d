-- The ordered index, as histories know it.
use Rattle.std.specs.FinMap as map
use Rattle.rom_model.specs.Machine.{Machine}
use Rattle.rom_order_region.specs.declared.call.OrderCall.{OrderCall}
use Rattle.rom_order_region.specs.declared.call.OrderQuery.{OrderQuery}
use Rattle.rom_order_region.specs.declared.call.OrderReply.{OrderReply}
use Rattle.rom_order_region.specs.declared.call.OrderAnswer.{OrderAnswer}
use Rattle.rom_order_region.specs.State.{Pairs, index_step, index_tell, index_cost}
use Rattle.rom_order.specs.Codes.{index_call_words, index_call_from_words, index_reply_words, index_reply_from_words}

-- the ordered index, with what its calls and queries are told, what a query costs, and its words
abbrev pub index : Machine Pairs OrderCall OrderQuery OrderReply OrderAnswer
index = record { empty = map.empty; step = index_step; weight = λ call. 1; tell = index_tell; cost = index_cost; call_words = index_call_words; words_call = index_call_from_words; reply_words = index_reply_words; words_reply = index_reply_from_words }
