-- How long a line is that asks for something: 561 bytes at most, which a guarded group of eight has.
use Rattle.std.specs.Prelude.{ℕ, ◌<◌, ◌≤◌, List, ◌++◌, length, codes, decimal}
use Rattle.std.proofs.Common.{ap, arith, length-append}
use Rattle.rom_model.specs.declared.line.Step.TheVariants.{Unread}
use Rattle.rom_text.proofs.Numbers.{number_short}
use Rattle.rom_text.specs.declared.short.TheConstants.{LONGEST}
use Rattle.rom_script.specs.Lines.{spaced}
use Rattle.rom_script.specs.Longest as heap
use Rattle.rom_guard.specs.declared.call.GuardedCall.{GuardedCall}
use Rattle.rom_guard.specs.declared.call.GuardedCall.TheVariants as guarded
use Rattle.rom_ledger.specs.Lines.{ConditionalFits, LedgerCallFits, LedgerSingleFits, ReadsLedger, conditional_line, guarded_members_line, ledger_call_line, ledger_single_line}
use Rattle.rom_ledger.specs.declared.call.Conditional.{Conditional}
use Rattle.rom_ledger.specs.declared.call.Conditional.TheVariants.{Inc, New, Cas, DeqIf}
use Rattle.rom_ledger.specs.declared.call.LedgerCall.{LedgerCall}
use Rattle.rom_ledger.specs.declared.call.LedgerCall.TheVariants as call
use Rattle.rom_ledger.specs.declared.call.LedgerSingle.{LedgerSingle}
use Rattle.rom_ledger.specs.declared.call.LedgerSingle.TheVariants as single

conditional_short : (c : Conditional) → ConditionalFits c → length (conditional_line c) ≤ 66
conditional_short (Inc k d) fits = omega (arith, length-append (decimal k) (spaced d), number_short k fits.0, heap.spaced_short d fits.1)
conditional_short (New k v) fits = omega (arith, length-append (decimal k) (spaced v), number_short k fits.0, heap.spaced_short v fits.1)
conditional_short (Cas k u v) fits =
    omega (arith, length-append (decimal k ++ spaced u) (spaced v), length-append (decimal k) (spaced u), number_short k fits.0, heap.spaced_short u fits.1, heap.spaced_short v fits.2)
conditional_short (DeqIf v) fits = omega (arith, length-append (codes "deq-if") (spaced v), heap.spaced_short v fits)

member_short : (m : LedgerSingle) → LedgerSingleFits m → length (ledger_single_line m) ≤ 67
member_short (single.Heap c) fits = heap.single_short c fits
member_short (single.Conditional c) fits = omega (arith, conditional_short c fits)

call_short : (c : GuardedCall LedgerCall (List LedgerSingle)) → LedgerCallFits c → length (ledger_call_line c) ≤ 561
call_short (guarded.Own (call.Heap c)) fits = omega (arith, heap.call_short c fits)
call_short (guarded.Own (call.Conditional c)) fits = omega (arith, conditional_short c fits)
call_short (guarded.All members) fits =
    omega (arith, length-append (codes "all ") (guarded_members_line members), heap.members_short ledger_single_line LedgerSingleFits member_short members fits.0 fits.1)

-- a longer line is written as no step is
pub long_unread : (line : List ℕ) → LONGEST < length line → ReadsLedger line Unread
long_unread line long = (λ c fits is. absurd (omega (arith, long, ap length is, call_short c fits)), λ q fits is. absurd (omega (arith, long, ap length is, heap.query_short q fits)))
