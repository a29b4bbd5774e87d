-- What the lines of a script ask a ledger for.
use Rattle.std.specs.Prelude.{◌≡◌, ℕ, ◌^◌, ◌<◌, true, List, ◌++◌, length, codes}
use Rattle.std.specs.List.{AllByRecursion, join_by}
use Rattle.rom_model.specs.Groups.{is_size}
use Rattle.rom_model.specs.declared.call.Query.{Query}
use Rattle.rom_model.specs.declared.line.Step.{Step}
use Rattle.rom_model.specs.declared.line.Step.TheVariants.{Update, Ask, Unread}
use Rattle.rom_text.specs.Lines.{spaced}
use Rattle.rom_script.specs.Lines as heap
use Rattle.rom_guard.specs.declared.call.GuardedCall.{GuardedCall}
use Rattle.rom_guard.specs.declared.call.GuardedCall.TheVariants as guarded
use Rattle.rom_ledger.specs.declared.call.Conditional.{Conditional}
use Rattle.rom_ledger.specs.declared.call.Conditional.TheVariants.{Inc, New, Cas, DeqIf}
use Rattle.rom_ledger.specs.declared.call.LedgerSingle.{LedgerSingle}
use Rattle.rom_ledger.specs.declared.call.LedgerSingle.TheVariants as single
use Rattle.rom_ledger.specs.declared.call.LedgerCall.{LedgerCall}
use Rattle.rom_ledger.specs.declared.call.LedgerCall.TheVariants as call

-- how a conditional update is written
abbrev pub conditional_line : Conditional → List ℕ
conditional_line (Inc k d) = codes "inc" ++ spaced k ++ spaced d
conditional_line (New k v) = codes "new" ++ spaced k ++ spaced v
conditional_line (Cas k u v) = codes "cas" ++ spaced k ++ spaced u ++ spaced v
conditional_line (DeqIf v) = codes "deq-if" ++ spaced v

-- how an update of one structure is written
abbrev pub ledger_single_line : LedgerSingle → List ℕ
ledger_single_line (single.Heap c) = heap.single_line c
ledger_single_line (single.Conditional c) = conditional_line c

-- how the members of a guarded group are written: one behind the other, between each two a semicolon with a space on either side
abbrev pub guarded_members_line : List LedgerSingle → List ℕ
guarded_members_line members = join_by ledger_single_line (codes " ; ") members

-- how a call is written
abbrev pub ledger_call_line : GuardedCall LedgerCall (List LedgerSingle) → List ℕ
ledger_call_line (guarded.Own (call.Heap c)) = heap.call_line c
ledger_call_line (guarded.Own (call.Conditional c)) = conditional_line c
ledger_call_line (guarded.All members) = codes "all " ++ guarded_members_line members

-- each number of a conditional update has at most 64 bits
abbrev pub ConditionalFits : Conditional → Type 0
ConditionalFits (Inc k d) = (k < 2 ^ 64) × (d < 2 ^ 64)
ConditionalFits (New k v) = (k < 2 ^ 64) × (v < 2 ^ 64)
ConditionalFits (Cas k u v) = (k < 2 ^ 64) × (u < 2 ^ 64) × (v < 2 ^ 64)
ConditionalFits (DeqIf v) = v < 2 ^ 64

-- each number of an update of one structure does
abbrev pub LedgerSingleFits : LedgerSingle → Type 0
LedgerSingleFits (single.Heap c) = heap.SingleCallFits c
LedgerSingleFits (single.Conditional c) = ConditionalFits c

-- each of two to eight members fits
abbrev pub GuardedMembersFit : List LedgerSingle → Type 0
GuardedMembersFit members = (is_size (length members) ≡ true) × AllByRecursion LedgerSingleFits members

-- each number of a call has at most 64 bits, and a group has two to eight members
abbrev pub LedgerCallFits : GuardedCall LedgerCall (List LedgerSingle) → Type 0
LedgerCallFits (guarded.Own (call.Heap c)) = heap.CallFits c
LedgerCallFits (guarded.Own (call.Conditional c)) = ConditionalFits c
LedgerCallFits (guarded.All members) = GuardedMembersFit members

-- The line is written as the step is, or as no step is.
abbrev pub ReadsLedger : List ℕ → Step (GuardedCall LedgerCall (List LedgerSingle)) Query → Type 0
ReadsLedger line (Update c) = LedgerCallFits c × (line ≡ ledger_call_line c)
ReadsLedger line (Ask q) = heap.QueryFits q × (line ≡ heap.query_line q)
ReadsLedger line Unread = ((c : GuardedCall LedgerCall (List LedgerSingle)) → LedgerCallFits c → line ≡ ledger_call_line c → ⊥) × ((q : Query) → heap.QueryFits q → line ≡ heap.query_line q → ⊥)
