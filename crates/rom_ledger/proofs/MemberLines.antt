-- The texts of the members of guarded groups.
use Rattle.std.specs.Prelude.{◌≡◌, ◌++◌, decimal, true}
use Rattle.rom_script.specs.Lines.{spaced}
use Rattle.rom_script.proofs.Members.{MemberLines, is_clear, both_clear, decimal_is_clear, single_is_clear}
use Rattle.rom_ledger.specs.Lines.{ConditionalFits, LedgerSingleFits, conditional_line, ledger_single_line}
use Rattle.rom_ledger.specs.declared.call.Conditional.{Conditional}
use Rattle.rom_ledger.specs.declared.call.Conditional.TheVariants.{Inc, New, Cas, DeqIf}
use Rattle.rom_ledger.specs.declared.call.LedgerSingle.{LedgerSingle}
use Rattle.rom_ledger.specs.declared.call.LedgerSingle.TheVariants as single

-- the line of a conditional update has no semicolon
conditional_is_clear : (c : Conditional) → ConditionalFits c → is_clear (conditional_line c) ≡ true
conditional_is_clear (Inc k d) fits = both_clear (decimal k) (spaced d) (decimal_is_clear k fits.0) (decimal_is_clear d fits.1)
conditional_is_clear (New k v) fits = both_clear (decimal k) (spaced v) (decimal_is_clear k fits.0) (decimal_is_clear v fits.1)
conditional_is_clear (Cas k u v) fits = both_clear (decimal k ++ spaced u) (spaced v) (both_clear (decimal k) (spaced u) (decimal_is_clear k fits.0) (decimal_is_clear u fits.1)) (decimal_is_clear v fits.2)
conditional_is_clear (DeqIf v) fits = decimal_is_clear v fits

-- and so has no member's
pub member_is_clear : (m : LedgerSingle) → LedgerSingleFits m → is_clear (ledger_single_line m) ≡ true
member_is_clear (single.Heap c) fits = single_is_clear c fits
member_is_clear (single.Conditional c) fits = conditional_is_clear c fits

-- how members are written
abbrev pub ledger_lines : MemberLines LedgerSingle
ledger_lines = record { line = ledger_single_line; Fits = LedgerSingleFits; clear = member_is_clear }
