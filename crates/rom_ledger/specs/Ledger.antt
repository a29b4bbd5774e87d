-- A ledger as histories know it, its members, and both together.
use Rattle.std.specs.Prelude.{ℕ, List}
use Rattle.rom_model.specs.Machine.{Machine}
use Rattle.rom_model.specs.State.{State, empty, tell}
use Rattle.rom_model.specs.Walks.{cost}
use Rattle.rom_model.specs.Trio as heap
use Rattle.rom_model.specs.declared.call.Query.{Query}
use Rattle.rom_model.specs.declared.call.Answer.{Answer}
use Rattle.rom_guard.specs.Guarded.{ShownMembers, guarded}
use Rattle.rom_guard.specs.declared.call.GuardedCall.{GuardedCall}
use Rattle.rom_guard.specs.declared.call.GuardedReply.{GuardedReply}
use Rattle.rom_ledger.specs.State.{ledger_step, as_call, told_of, succeeds}
use Rattle.rom_ledger.specs.Codes.{ledger_call_words, words_ledger_call, ledger_reply_words, words_ledger_reply, member_words, words_member, told_words, words_told}
use Rattle.rom_ledger.specs.declared.call.LedgerSingle.{LedgerSingle}
use Rattle.rom_ledger.specs.declared.call.LedgerCall.{LedgerCall}
use Rattle.rom_ledger.specs.declared.call.LedgerCall.TheVariants as call
use Rattle.rom_ledger.specs.declared.call.LedgerTold.{LedgerTold}
use Rattle.rom_ledger.specs.declared.call.LedgerReply.{LedgerReply}

-- the weight of a call: how many updates of one structure it has
abbrev pub weight : LedgerCall → ℕ
weight (call.Heap c) = heap.weight c
weight (call.Conditional c) = 1

-- a ledger without guarded groups
abbrev pub ledger : Machine State LedgerCall Query LedgerReply Answer
ledger = record { empty = empty; step = ledger_step; weight = weight; tell = tell; cost = cost; call_words = ledger_call_words; words_call = words_ledger_call; reply_words = ledger_reply_words; words_reply = words_ledger_reply }

-- its updates of one structure, as members of guarded groups
abbrev pub members : ShownMembers LedgerCall LedgerReply LedgerSingle LedgerTold
members = record { as_call = as_call; told_of = told_of; succeeds = succeeds; member_words = member_words; words_member = words_member; told_words = told_words; words_told = words_told }

-- a ledger with guarded groups
abbrev pub guarded_ledger : Machine State (GuardedCall LedgerCall (List LedgerSingle)) Query (GuardedReply LedgerReply LedgerTold (List LedgerTold)) Answer
guarded_ledger = guarded ledger members
