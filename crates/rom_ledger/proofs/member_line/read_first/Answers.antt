use Rattle.std.proofs.Common.{◌≢◌, ◌++◌, ℕ, List, Option, option_map, IfNone, sym, subst}
use Rattle.rom_script.specs.Members.{behind_line}
use Rattle.rom_script.proofs.Members.{member_is}
use Rattle.rom_ledger.specs.Lines.{LedgerSingleFits, ledger_single_line}
use Rattle.rom_ledger.specs.declared.call.LedgerSingle.{LedgerSingle}
use Rattle.rom_ledger.proofs.MemberLines.{ledger_lines}
use Rattle.rom_ledger.proofs.member_line.read_first.Goals as goal

pub returns-in_err-read_single-clause-none : goal.returns-in_err-read_single-clause-none
returns-in_err-read_single-clause-none c =
    let text = c.args.text.now in
    let split = c.split_first in
    subst (λ o. IfNone o ((m : LedgerSingle) (behind : Option (List ℕ)) → LedgerSingleFits m → text ≢ ledger_single_line m ++ behind_line behind)) (sym c.from_residual.ensures)
    (λ m behind fits is. c.in_err-read_single.ensures.none m fits (member_is ledger_lines text split.result.0.now (option_map (λ b. b.now) split.result.1) m behind fits split.ensures.parts split.ensures.first is))
